-- What one more fact makes of the profiles (this project's own).
--   grown r i ns n ms   == the marks ms of the value n with the columns, from i on, at which it is among the numbers ns
--   blank k             == k profiles without marks
use Rattle.std.specs.Prelude.{ℕ, zero, suc, ◌+◌, ◌==◌, cond, List, [], ◌∷◌}
use Rattle.eir_term.specs.Profiles.{Mark, with_mark}

-- the marks of the value n with the columns, from i on, at which it is among these numbers
abbrev pub grown : ℕ → ℕ → List ℕ → ℕ → List Mark → List Mark
grown r i [] n ms = ms
grown r i (m ∷ ns) n ms = grown r (i + 1) ns n (cond (m == n) (with_mark (r, i) ms) ms)

-- k profiles without marks
abbrev pub blank : ℕ → List (List Mark)
blank zero = []
blank (suc k) = [] ∷ blank k
