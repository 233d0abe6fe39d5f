-- Data examples, and mappings that fit them (Alexe, ten Cate, Kolaitis, Tan 2011). The code never ranges over
-- mappings.
--   DataExample  == a source instance with a target instance
--   Fits M E     == each target is a universal solution of its source under M
use Rattle.std.specs.Prelude.{List}
use Rattle.eir_term.specs.declared.fact.Fact.{Fact}
use Rattle.eir_term.specs.Lists.{◌∈◌}
use Rattle.eir_term.specs.Dependencies.{Dependency}
use Rattle.eir_term.specs.Universal.{IsUniversal}

-- a source instance with a target instance
pub record DataExample : Type 0 where
  pub source : List Fact
  pub target : List Fact

-- each target is a universal solution of its source
abbrev pub Fits : List Dependency → List DataExample → Type 0
Fits M E = (e : DataExample) → e ∈ E → IsUniversal M e.source e.target
