-- Faults of one example: foreign constants, and targets that do not fold. Both words are this project's own.
--   IsForeign e v  == v is a constant of the target that does not occur in the source
--   Folds J        == J maps into its ground part with constants fixed
use Rattle.std.specs.Prelude.{List}
use Rattle.eir_term.specs.declared.val.Val.{Val}
use Rattle.eir_term.specs.declared.fact.Fact.{Fact}
use Rattle.eir_term.specs.Lists.{◌∈◌}
use Rattle.eir_term.specs.Instances.{consts, ground_part}
use Rattle.eir_term.specs.Homs.{Hom, Fixes}
use Rattle.eir_term.specs.Fitting.{DataExample}

-- a constant of the target that does not occur in the source
abbrev pub IsForeign : DataExample → Val → Type 0
IsForeign e v = v ∈ consts e.target × (v ∈ consts e.source → ⊥)

-- some homomorphism from J into its ground part fixes constants
abbrev pub Folds : List Fact → Type 0
Folds J = (h : List (Val × Val)) × Hom h J (ground_part J) × Fixes h J
