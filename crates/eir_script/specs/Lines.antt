-- The lines of an input, as a fold over its bytes (this project's own). A line feed ends a line; a carriage return
-- directly before it belongs to the end. Bytes behind the last line feed are a line too, without a carriage return at
-- their end.
--   Cut               == the lines that are ended, and the bytes behind the last line feed
--   trimmed bytes     == these without one carriage return at their end
--   cut_more c b      == one byte more
--   cut_after c bytes == these bytes more
--   cut bytes         == the cut of an input
--   last_line tail    == the line that no line feed ends, where there is one
--   lines_of bytes    == the lines of an input
use Rattle.std.specs.Prelude.{ℕ, List, [], ◌∷◌, ◌++◌, cond, ◌==◌, fold}

-- the lines that are ended, without their ends, and the bytes behind the last line feed
pub record Cut : Type 0 where
  pub whole : List (List ℕ)
  pub tail : List ℕ

-- these lines are ended, and these bytes come after them
abbrev pub cut_at : List (List ℕ) → List ℕ → Cut
cut_at whole tail = record { whole = whole; tail = tail }

-- without one carriage return at the end
abbrev pub trimmed : List ℕ → List ℕ
trimmed [] = []
trimmed (b ∷ []) = cond (b == 13) [] (b ∷ [])
trimmed (b ∷ c ∷ bytes) = b ∷ trimmed (c ∷ bytes)

-- one byte more
abbrev pub cut_more : Cut → ℕ → Cut
cut_more c b = cond (b == 10) (cut_at (c.whole ++ trimmed c.tail ∷ []) []) (cut_at c.whole (c.tail ++ b ∷ []))

-- these bytes more
abbrev pub cut_after : Cut → List ℕ → Cut
cut_after c bytes = fold cut_more c bytes

-- the cut of an input
abbrev pub cut : List ℕ → Cut
cut bytes = cut_after (cut_at [] []) bytes

-- the line that no line feed ends, where there is one
abbrev pub last_line : List ℕ → List (List ℕ)
last_line [] = []
last_line (b ∷ bytes) = trimmed (b ∷ bytes) ∷ []

-- the lines of an input
abbrev pub lines_of : List ℕ → List (List ℕ)
lines_of bytes = (cut bytes).whole ++ last_line (cut bytes).tail
