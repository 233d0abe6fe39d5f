-- Solutions and universal solutions (Fagin, Kolaitis, Miller, Popa 2005). The code never ranges over solutions.
--   IsSolution M I J   == (I, J) satisfies every dependency of M
--   IsUniversal M I J  == J is a solution of I that maps into every solution with constants fixed
use Rattle.std.specs.Prelude.{List}
use Rattle.eir_term.specs.declared.val.Val.{Val}
use Rattle.eir_term.specs.declared.fact.Fact.{Fact}
use Rattle.eir_term.specs.Lists.{◌∈◌}
use Rattle.eir_term.specs.Homs.{Hom, Fixes}
use Rattle.eir_term.specs.Dependencies.{Dependency}
use Rattle.eir_term.specs.Satisfaction.{Satisfies}

-- (I, J) satisfies every dependency of M
abbrev pub IsSolution : List Dependency → List Fact → List Fact → Type 0
IsSolution M I J = (d : Dependency) → d ∈ M → Satisfies I J d

-- a solution from which a homomorphism that fixes constants leads to every solution
pub record IsUniversal (M : List Dependency) (I J : List Fact) : Type 0 where
  pub solution : IsSolution M I J
  pub least : (J' : List Fact) → IsSolution M I J' → (h : List (Val × Val)) × Hom h J J' × Fixes h J
