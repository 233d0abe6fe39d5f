-- Which three lists make no dependency, and for which variable they are refused (this project's own).
--   dependency P xs C       == the dependency of these three lists
--   IsFirst P xs v          == v is the first element that has P, which may speak of the elements before it
--   IsBadExists d before v  == v cannot be listed as existential behind these
--   IsUnbound d v           == v is neither listed nor in the premise
--   IsRefused d cause       == d is no dependency, for this cause
use Rattle.std.specs.Prelude.{◌≡◌, ◌⊎◌, ℕ, List, [], ◌∷◌, ◌++◌}
use Rattle.eir_term.specs.declared.term.Atom.{Atom}
use Rattle.eir_term.specs.Lists.{◌∈◌}
use Rattle.eir_term.specs.Dependencies.{Dependency, vars}
use Rattle.eir_dep.specs.declared.dep.DepRefused.{DepRefused}
use Rattle.eir_dep.specs.declared.dep.DepRefused.TheVariants.{Empty, BadExists, Unbound}

-- the dependency of these three lists
abbrev pub dependency : List Atom → List ℕ → List Atom → Dependency
dependency premise exists conclusion = record { premise = premise; exists = exists; conclusion = conclusion }

-- v is the first element that has P, which may speak of the elements before it
pub record IsFirst (P : List ℕ → ℕ → Type 0) (xs : List ℕ) (v : ℕ) : Type 0 where
  pub before : List ℕ
  pub after : List ℕ
  pub split : xs ≡ before ++ v ∷ after
  pub has : P before v
  pub none_before : (start rest : List ℕ) (w : ℕ) → before ≡ start ++ w ∷ rest → P start w → ⊥

-- v cannot be listed behind these: it occurs in the premise, is one of them, or does not occur in the conclusion
abbrev pub IsBadExists : Dependency → List ℕ → ℕ → Type 0
IsBadExists d before v = (v ∈ vars d.premise) ⊎ (v ∈ before) ⊎ (v ∈ vars d.conclusion → ⊥)

-- v is the first listed variable that cannot be
abbrev pub IsFirstBadExists : Dependency → ℕ → Type 0
IsFirstBadExists d v = IsFirst (IsBadExists d) d.exists v

-- v is neither listed nor in the premise
abbrev pub IsUnbound : Dependency → ℕ → Type 0
IsUnbound d v = (v ∈ d.exists → ⊥) × (v ∈ vars d.premise → ⊥)

-- v is the first conclusion variable that is neither
abbrev pub IsFirstUnbound : Dependency → ℕ → Type 0
IsFirstUnbound d v = IsFirst (λ before x. IsUnbound d x) (vars d.conclusion) v

-- no conclusion atom; else a listed variable that cannot be; else a conclusion variable that nothing binds
abbrev pub IsRefused : Dependency → DepRefused → Type 0
IsRefused d Empty = d.conclusion ≡ []
IsRefused d (BadExists v) = (d.conclusion ≡ [] → ⊥) × IsFirstBadExists d v
IsRefused d (Unbound v) = (d.conclusion ≡ [] → ⊥) × ((w : ℕ) → IsFirstBadExists d w → ⊥) × IsFirstUnbound d v
