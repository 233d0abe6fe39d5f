use Rattle.eir_term.specs.Instances.{values}
use Rattle.eir_ext.proofs.StartLaws.{Numbered}
use Rattle.eir_ext.proofs.start.constants_between.Given as goal

abbrev pub invariant-loop-value : goal.invariant-loop-value
invariant-loop-value l = Numbered (values l.source.facts) l.value-items l.value-index l.start l.numbers.items
