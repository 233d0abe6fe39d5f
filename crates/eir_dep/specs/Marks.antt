-- What the test of three lists knows on its way (this project's own).
--   AreMarks marks xs  == the marks tell of each number below their length whether it stands in xs
--   AreListable d xs   == these variables may be listed as existential in d
use Rattle.std.specs.Prelude.{◌≡◌, ◌<◌, ◌↔◌, ℕ, Bool, true, false, List, length, slice_index_or}
use Rattle.eir_term.specs.Lists.{◌∈◌, IsDistinct}
use Rattle.eir_term.specs.Dependencies.{Dependency, vars}

-- the marks tell of each number below their length whether it stands in the list
abbrev pub AreMarks : List Bool → List ℕ → Type 0
AreMarks marks xs = (x : ℕ) → x < length marks → (slice_index_or marks x false ≡ true) ↔ (x ∈ xs)

-- each of these is listed once, occurs in the conclusion and does not in the premise
pub record AreListable (d : Dependency) (xs : List ℕ) : Type 0 where
  pub once : IsDistinct xs
  pub used : (x : ℕ) → x ∈ xs → x ∈ vars d.conclusion
  pub apart : (x : ℕ) → x ∈ xs → x ∈ vars d.premise → ⊥
