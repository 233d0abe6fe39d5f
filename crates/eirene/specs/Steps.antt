-- A script that is answered while it is read: what it has after some of its bytes (this project's own).
--   IsIdle s         == no line waits to be answered, and no reply to be written
--   cut_on t bytes   == the lines of these bytes, where the tail t stands before them
--   AnswersPiece     == the lines that these bytes end are answered, the replies are written or pending
--   AnswersLines     == the lines that these bytes end are answered, and the bytes behind them are held
use Rattle.std.specs.Prelude.{◌≡◌, ℕ, false, List, [], ◌++◌, Option}
use Rattle.std.specs.Io.KnownBytes.{Appends}
use Rattle.eir_script.specs.Lines.{Cut, cut_after, cut_at}
use Rattle.eir_script.specs.Pieces.{Holds}
use Rattle.eirene.specs.declared.script.Script.{Script}
use Rattle.eirene.specs.Scripts.{replies, workspace_after}
use Rattle.eirene.specs.Outcomes.{AppendsBut}

-- no line waits to be answered, and no reply to be written
pub record IsIdle (s : Script) : Type 0 where
  pub unended : s.cutter.ended ≡ false
  pub written : s.pending ≡ []

-- the lines of these bytes and what comes behind them, where the tail stands before the first byte
abbrev pub cut_on : List ℕ → List ℕ → Cut
cut_on tail bytes = cut_after (cut_at [] tail) bytes

-- the lines that these bytes end behind the tail are answered, and the bytes behind them are held; what was pending
-- and the replies are written but for what is pending now
pub record AnswersPiece (old new : Script) (written_old written_new : Option (List ℕ)) (tail bytes : List ℕ) : Type 0 where
  pub answered : AppendsBut written_old written_new new.pending (old.pending ++ replies old.workspace (cut_on tail bytes).whole)
  pub left : new.workspace ≡ workspace_after old.workspace (cut_on tail bytes).whole
  pub held : Holds new.cutter (cut_on tail bytes).tail

-- the same, and nothing is pending before or after
pub record AnswersLines (old new : Script) (written_old written_new : Option (List ℕ)) (tail bytes : List ℕ) : Type 0 where
  pub answered : Appends written_old written_new (replies old.workspace (cut_on tail bytes).whole)
  pub left : new.workspace ≡ workspace_after old.workspace (cut_on tail bytes).whole
  pub held : Holds new.cutter (cut_on tail bytes).tail
  pub idle : IsIdle new
