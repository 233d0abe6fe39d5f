-- The table of names: a name's number is its place among the distinct names, in order of first occurrence (this
-- project's own).
--   with_name names w  == w put last where it is new
--   number_of names w  == the number of w
use Rattle.std.specs.Prelude.{ℕ, List, [], ◌∷◌, ◌++◌, cond}
use Rattle.std.specs.List.{list_any}
use Rattle.std.specs.Str.{bytes_eq}
use Rattle.eir_term.specs.Lists.{place_of}

-- w put last where it is new
abbrev pub with_name : List (List ℕ) → List ℕ → List (List ℕ)
with_name names w = cond (list_any (bytes_eq w) names) names (names ++ w ∷ [])

-- the number of w: its place, from 0
abbrev pub number_of : List (List ℕ) → List ℕ → ℕ
number_of names w = place_of bytes_eq w names
