use Rattle.std.proofs.Common.{◌≡◌}
use Rattle.eir_edit.specs.Pairs.{pair_of}
use Rattle.eirene.proofs.verdict.unlimited.refuting_at_length.Given as goal

abbrev pub invariant-turns : goal.invariant-turns
invariant-turns g l = (l.test.first ≡ pair_of l.first.value) × (l.test.second ≡ pair_of l.second.value)

abbrev pub decreases-turns : goal.decreases-turns
decreases-turns g l = l.test.tries
