-- An input that comes in pieces: what a cutter tells of the bytes that it has taken since it last began a line (this
-- project's own).
--   Taking                 == the first 4,098 bytes of the line, and whether its line feed was taken
--   nothing_taken          == a line of which no byte was taken
--   Holds t line           == these are the bytes of the line, its carriage return with them
--   IsTaken t whole c e    == after its last piece the cut c has one line more, held by t, where e says that it ended
--   IsLine l line          == l is the line, or tells that it is too long
use Rattle.std.specs.Prelude.{◌≡◌, ℕ, ◌≤◌, ◌<◌, Bool, true, false, List, [], ◌∷◌, ◌++◌, length, take}
use Rattle.eir_script.specs.declared.cutter.LineBytes.{LineBytes}
use Rattle.eir_script.specs.declared.cutter.LineBytes.TheVariants.{Bytes, Long}
use Rattle.eir_script.specs.Lines.{Cut, cut_at, trimmed}

-- The first bytes of a line tell whether it is too long: a line of 4,097 bytes with a carriage return at its end is
-- not, one of 4,098 is.
pub record Taking : Type 0 where
  pub bytes : List ℕ
  pub ended : Bool

-- a line of which no byte was taken
abbrev pub nothing_taken : Taking
nothing_taken = record { bytes = []; ended = false }

-- these are the bytes of the line
abbrev pub Holds : Taking → List ℕ → Type 0
Holds t line = t.bytes ≡ take 4098 line

-- where the line did not end, no line is whole that was not before, and the tail is held; where it ended, it is the
-- one line more, and nothing comes behind it
abbrev pub IsTaken : Taking → List (List ℕ) → Cut → Bool → Type 0
IsTaken t whole c false = (c.whole ≡ whole) × Holds t c.tail
IsTaken t whole c true = (line : List ℕ) × Holds t line × (c ≡ cut_at (whole ++ trimmed line ∷ []) [])

-- the line, or that it has more than 4,096 bytes
abbrev pub IsLine : LineBytes → List ℕ → Type 0
IsLine (Bytes bytes) line = (bytes.now ≡ line) × (length line ≤ 4096)
IsLine Long line = 4096 < length line
