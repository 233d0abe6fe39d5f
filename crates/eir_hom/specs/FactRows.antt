-- The rows of the facts of an instance, by place (this project's own).
--   numbers_at B p     == the numbers of the values of the fact at a place, column by column
--   row_at B i p       == these numbers but that of the column
--   IsPlace B i p      == the place is that of a fact, which has the column
--   AllUnder n ns      == each of these numbers is below n
--   HaveRows B i n ps  == each of these places is such a place, with a row of n numbers
use Rattle.std.specs.Prelude.{◌≡◌, ℕ, ◌<◌, List, [], ◌∷◌, map, length, slice_get, Option, Some, None, option_map}
use Rattle.std.specs.Prelude.{unwrap_or}
use Rattle.eir_term.specs.declared.fact.Fact.{Fact}
use Rattle.eir_term.specs.Lists.{◌∈◌}
use Rattle.eir_hom.specs.Levels.{number, but_at}

-- the numbers of the values of the fact at a place, column by column
abbrev pub numbers_at : List Fact → ℕ → List ℕ
numbers_at B p = unwrap_or (option_map (λ f. map (number B) f.args) (slice_get B p)) []

-- these numbers but that of the column
abbrev pub row_at : List Fact → Option ℕ → ℕ → List ℕ
row_at B i p = but_at i (numbers_at B p)

-- a column that is named is one of the row
abbrev pub Within : Option ℕ → List ℕ → Type 0
Within None ns = Unit {0}
Within (Some i) ns = i < length ns

-- the place is that of a fact, which has the column
abbrev pub IsPlace : List Fact → Option ℕ → ℕ → Type 0
IsPlace B i p = (p < length B) × Within i (numbers_at B p)

-- each number is below n
abbrev pub AllUnder : ℕ → List ℕ → Type 0
AllUnder n [] = Unit {0}
AllUnder n (k ∷ ks) = (k < n) × AllUnder n ks

-- each of these places is that of a fact whose row has this length
abbrev pub HaveRows : List Fact → Option ℕ → ℕ → List ℕ → Type 0
HaveRows B i stride ps = (p : ℕ) → p ∈ ps → IsPlace B i p × (length (row_at B i p) ≡ stride)
