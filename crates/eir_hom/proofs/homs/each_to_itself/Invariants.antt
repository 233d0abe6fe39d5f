use Rattle.std.proofs.Common.{◌≡◌, take}
use Rattle.eir_term.specs.Maps.{domain_of}
use Rattle.eir_hom.proofs.homs.each_to_itself.Given as goal

abbrev pub invariant-loop-value : goal.invariant-loop-value
invariant-loop-value l = domain_of l.map ≡ take l.value-index l.value-items
