use Rattle.std.proofs.Common.{◌≡◌, [], map, take}
use Rattle.eir_term.specs.Instances.{values}
use Rattle.eir_term.specs.Plans.{is_known}
use Rattle.eir_hom.proofs.plan.mark_given.Given as goal

abbrev pub invariant-loop-place : goal.invariant-loop-place
invariant-loop-place l = l.known ≡ map (is_known (take l.place l.start) []) (values l.a.facts)
