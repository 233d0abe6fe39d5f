-- Which values may go to which, by number (this project's own).
--   are_fits A B        == whether each value of A may go to each of B, by their profiles
--   fits_row t ns ms    == whether each number of the one row may go to the one at its column, by a table of answers
--   AreFits A B fits    == the answers that are kept, if any, are these
use Rattle.std.specs.Prelude.{◌≡◌, ℕ, Bool, true, false, ◌&&◌, List, [], ◌∷◌, map, slice_index_or}
use Rattle.eir_term.specs.declared.fact.Fact.{Fact}
use Rattle.eir_term.specs.Instances.{values}
use Rattle.eir_term.specs.Profiles.{profile, is_within}
use Rattle.eir_hom.specs.declared.fits.Fits.{Fits}
use Rattle.eir_hom.specs.declared.fits.Fits.TheVariants.{Profiles, Answered}

-- whether each value of A may go to each of B, by their profiles
abbrev pub are_fits : List Fact → List Fact → List (List Bool)
are_fits A B = map (λ p. map (is_within p) (map (profile B) (values B))) (map (profile A) (values A))

-- whether each number may go to the one at its column; rows of different lengths do not fit
abbrev pub fits_row : List (List Bool) → List ℕ → List ℕ → Bool
fits_row t [] [] = true
fits_row t [] (m ∷ ms) = false
fits_row t (n ∷ ns) [] = false
fits_row t (n ∷ ns) (m ∷ ms) = slice_index_or (slice_index_or t n []) m false && fits_row t ns ms

-- the answers that are kept, if any, are those of the profiles
abbrev pub AreFits : List Fact → List Fact → Fits → Type 0
AreFits A B Profiles = Unit {0}
AreFits A B (Answered answers) = answers ≡ are_fits A B
