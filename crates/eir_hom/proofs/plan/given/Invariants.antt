use Rattle.std.proofs.Common.{◌≡◌, [], map, take}
use Rattle.eir_term.specs.Plans.{is_known}
use Rattle.eir_hom.proofs.plan.given.Given as goal

abbrev pub invariant-loop-value : goal.invariant-loop-value
invariant-loop-value l = l.known.items ≡ map (is_known [] []) (take l.value-index l.value-items)
