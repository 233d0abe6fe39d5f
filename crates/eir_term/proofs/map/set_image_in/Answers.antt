use Rattle.eir_term.specs.declared.val.Val.TheVariants.{Const}
use Rattle.eir_term.proofs.MapLaws.{with_image-step}
use Rattle.eir_term.proofs.map.set_image_in.Goals as goal
use Rattle.eir_term.proofs.map.set_image_in.Goals.{then-eq, else-eq}

pub loop-pair-preserved : goal.loop-pair-preserved
loop-pair-preserved c = elim c.if-eq.branch [
  | then-eq w ↦ with_image-step c.args.pairs.now c.loop-pair.pair-items c.if-eq.pair-items c.loop-pair.pair-index c.args.v c.args.w (Const 0, Const 0) _ c.loop-pair-test.true c.loop-pair.invariant w.if-eq.ensures w.pair-items-is
  | else-eq w ↦ with_image-step c.args.pairs.now c.loop-pair.pair-items c.if-eq.pair-items c.loop-pair.pair-index c.args.v c.args.w (Const 0, Const 0) _ c.loop-pair-test.true c.loop-pair.invariant w.if-eq.ensures w.pair-items-is
]
