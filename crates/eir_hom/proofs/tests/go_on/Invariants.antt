use Rattle.std.proofs.Common.{◌≡◌}
use Rattle.eir_hom.proofs.tests.go_on.Given as goal

abbrev pub invariant-turns : goal.invariant-turns
invariant-turns g l = (l.homs.source ≡ l.fn.homs.source) × (l.homs.start ≡ l.fn.homs.start)
