use Rattle.std.proofs.Common.{◌≡◌, [], ◌∷◌}
use Rattle.eir_term.specs.declared.val.Val.TheVariants.{Const}
use Rattle.eir_term.specs.Maps.{domain_of}
use Rattle.eir_hom.proofs.tests.pair_tries.Given as goal

abbrev pub invariant-homs : goal.invariant-homs
invariant-homs g l = domain_of l.inner.start ≡ Const l.first.constant ∷ []
