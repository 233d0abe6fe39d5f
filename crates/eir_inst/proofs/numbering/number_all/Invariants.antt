use Rattle.std.proofs.Common.{take}
use Rattle.eir_inst.proofs.ValueLaws.{IsNumbered}
use Rattle.eir_inst.proofs.numbering.number_all.Given as goal

abbrev pub invariant-loop-val : goal.invariant-loop-val
invariant-loop-val l = IsNumbered l.fn.values.keys (take l.val-index l.vals) l.values.keys l.row
