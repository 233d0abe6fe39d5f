-- Implication between mappings (textbook).
--   Implies M N        == every pair of finite instances that satisfies M satisfies N
--   AreEquivalent M N  == each implies the other
use Rattle.std.specs.Prelude.{List}
use Rattle.eir_term.specs.declared.fact.Fact.{Fact}
use Rattle.eir_term.specs.Dependencies.{Dependency}
use Rattle.eir_term.specs.Universal.{IsSolution}

-- every pair of finite instances that satisfies M satisfies N
abbrev pub Implies : List Dependency → List Dependency → Type 0
Implies M N = (K L : List Fact) → IsSolution M K L → IsSolution N K L

-- each implies the other
abbrev pub AreEquivalent : List Dependency → List Dependency → Type 0
AreEquivalent M N = Implies M N × Implies N M
