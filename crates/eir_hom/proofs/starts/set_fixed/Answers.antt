use Rattle.std.proofs.Common.{◌∙◌, None, get_or, ap, sym, arith}
use Rattle.eir_hom.specs.Compiling.{with_fixed}
use Rattle.std.proofs.lemmas.Option.{slice_get-get_or}
use Rattle.eir_hom.proofs.StartLaws.{fixed-before, fixed-behind}
use Rattle.eir_hom.proofs.starts.set_fixed.Goals as goal

pub loop-i-preserved : goal.loop-i-preserved
loop-i-preserved c = (
  fixed-before c.args.b.now.facts c.args.values.now c.args.images.now c.loop-i.images c.loop-i.i c.image_or_itself.result c.loop-i-test.true (omega arith) c.loop-i.invariant.0 c.loop-i.invariant.1 (c.image_or_itself.ensures ∙ ap (with_fixed c.args.b.now.facts (get_or c.loop-i.images c.loop-i.i None)) (sym (slice_get-get_or c.args.values.now c.loop-i.i _ c.loop-i-test.true))),
  fixed-behind c.args.images.now c.loop-i.images c.loop-i.i c.image_or_itself.result c.loop-i.invariant.1,
)
