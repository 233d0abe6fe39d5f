-- What was written up to a stop (this project's own); `Promise` has what a run to the end leaves.
--   AppendsPrefix  == a prefix of a text was written
--   AppendsBut     == all of a text but what is pending was written
--   AnswersWhole   == exactly the whole lines that were read are answered, and they are within the limit
--   AnswersWithin  == more than the limit was read, and exactly the whole lines within it are answered
--   AreRead        == these lines are among those that were read within the limit, or they are all lines of the input
--   StopsWithin    == a prefix of the bytes of the replies to such lines was written
use Rattle.std.specs.Prelude.{◌≡◌, ◌⊎◌, ℕ, ◌<◌, ◌≤◌, List, ◌++◌, length, take, Option}
use Rattle.std.specs.Io.KnownBytes.{Appends, Consumes, IsAtEnd}
use Rattle.eir_script.specs.Lines.{cut, lines_of}
use Rattle.eirene.specs.Scripts.{output_for, whole_output}

-- known bytes grew by a prefix of `all`
pub record AppendsPrefix (old new : Option (List ℕ)) (all : List ℕ) : Type 0 where
  pub front : List ℕ
  pub rest : List ℕ
  pub grew : Appends old new front
  pub split : front ++ rest ≡ all

-- known bytes grew by all of `all` but the pending bytes at its end
pub record AppendsBut (old new : Option (List ℕ)) (pending all : List ℕ) : Type 0 where
  pub front : List ℕ
  pub grew : Appends old new front
  pub split : front ++ pending ≡ all

-- some bytes within the limit were read, and exactly the whole lines among them are answered
pub record AnswersWhole (left_old left_new written_old written_new : Option (List ℕ)) (limit : ℕ) : Type 0 where
  pub bytes : List ℕ
  pub consumed : Consumes left_old left_new bytes
  pub within : length bytes ≤ limit
  pub answered : Appends written_old written_new (whole_output bytes)

-- more bytes than the limit were read, and exactly the whole lines among those within it are answered
pub record AnswersWithin (left_old left_new written_old written_new : Option (List ℕ)) (limit : ℕ) : Type 0 where
  pub bytes : List ℕ
  pub consumed : Consumes left_old left_new bytes
  pub longer : limit < length bytes
  pub answered : Appends written_old written_new (whole_output (take limit bytes))

-- these are the whole lines among the bytes within the limit, or, where these are the whole input, all its lines
abbrev pub AreRead : Option (List ℕ) → ℕ → List ℕ → List (List ℕ) → Type 0
AreRead left limit bytes lines =
    (lines ≡ (cut (take limit bytes)).whole) ⊎ (IsAtEnd left × (length bytes ≤ limit) × (lines ≡ lines_of bytes))

-- some bytes were read, and a prefix of the bytes of the replies to their lines was written
pub record StopsWithin (left_old left_new written_old written_new : Option (List ℕ)) (limit : ℕ) : Type 0 where
  pub bytes : List ℕ
  pub lines : List (List ℕ)
  pub consumed : Consumes left_old left_new bytes
  pub read : AreRead left_new limit bytes lines
  pub answered : AppendsPrefix written_old written_new (output_for lines)
