-- When a homomorphism between sources extends to the targets (this project's own words for the condition of
-- Alexe, ten Cate, Kolaitis, Tan 2011). Neither map need fix a constant.
--   Extends h J J'  == some homomorphism between the targets agrees with h on the constants of J
--   Refutes e f h   == h is a homomorphism between the sources that does not extend
use Rattle.std.specs.Prelude.{◌≡◌, List}
use Rattle.eir_term.specs.declared.val.Val.{Val}
use Rattle.eir_term.specs.declared.fact.Fact.{Fact}
use Rattle.eir_term.specs.Lists.{◌∈◌}
use Rattle.eir_term.specs.Instances.{values, consts}
use Rattle.eir_term.specs.Maps.{domain_of, image}
use Rattle.eir_term.specs.Homs.{Hom}
use Rattle.eir_term.specs.Fitting.{DataExample}

-- some homomorphism from J to J' agrees with h on the constants of J
abbrev pub Extends : List (Val × Val) → List Fact → List Fact → Type 0
Extends h J J' = (g : List (Val × Val)) × Hom g J J' × ((v : Val) → v ∈ consts J → image g v ≡ image h v)

-- h is a homomorphism between the sources, names the values of the first alone, and extends to none between the
-- targets
pub record Refutes (e f : DataExample) (h : List (Val × Val)) : Type 0 where
  pub hom : Hom h e.source f.source
  pub named : domain_of h ≡ values e.source
  pub stuck : Extends h e.target f.target → ⊥
