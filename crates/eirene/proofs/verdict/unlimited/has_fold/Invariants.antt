use Rattle.std.proofs.Common.{◌≡◌}
use Rattle.eirene.proofs.verdict.unlimited.has_fold.Given as goal

abbrev pub invariant-turns : goal.invariant-turns
invariant-turns g l = l.test.target ≡ l.example.value.target

abbrev pub decreases-turns : goal.decreases-turns
decreases-turns g l = l.test.tries
