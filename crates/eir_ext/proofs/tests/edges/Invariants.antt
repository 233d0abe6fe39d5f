use Rattle.std.proofs.Common.{◌≡◌}
use Rattle.eir_ext.proofs.tests.edges.Given as goal

abbrev pub invariant-pairs : goal.invariant-pairs
invariant-pairs l = l.instance.limit ≡ 512
