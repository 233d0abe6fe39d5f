use Rattle.std.proofs.Common.{refl}
use Rattle.eir_term.specs.declared.val.Val.TheVariants.{Const}
use Rattle.eir_verdict.proofs.FoldLaws.{unnamed-next}
use Rattle.eir_verdict.proofs.fold_test.constants_fixed.Goals as goal

pub put-requires : goal.put-requires
put-requires c = unnamed-next c.values-value-items.result.now c.loop-value.value-index (Const 0) _ c.loop-value.map c.values-value-items.ensures.distinct c.loop-value-test.true refl c.loop-value.invariant
