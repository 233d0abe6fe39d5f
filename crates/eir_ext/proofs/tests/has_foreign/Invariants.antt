use Rattle.std.proofs.Common.{take}
use Rattle.eir_ext.proofs.ForeignLaws.{AreKnown}
use Rattle.eir_ext.proofs.tests.has_foreign.Given as goal

abbrev pub invariant-loop-value : goal.invariant-loop-value
invariant-loop-value l = AreKnown l.source.facts (take l.value-index l.value-items)
