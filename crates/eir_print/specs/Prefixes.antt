-- How far a text was written where there was no memory for all of it (this project's own).
--   AppendsPrefix old new text  == what was there is followed by a prefix of the text
use Rattle.std.specs.Prelude.{◌≡◌, ℕ, List, ◌++◌}

-- what was there is followed by a prefix of the text
pub record AppendsPrefix (old new text : List ℕ) : Type 0 where
  pub front : List ℕ
  pub rest : List ℕ
  pub grew : new ≡ old ++ front
  pub split : front ++ rest ≡ text
