use Rattle.std.proofs.Common.{◌<◌, length, sym, ◌∙◌, arith}
use Rattle.std.proofs.lemmas.Option.{slice_get-get_or}
use Rattle.eir_term.specs.declared.val.Val.TheVariants.{Const}
use Rattle.eir_term.specs.Instances.{values}
use Rattle.eir_term.proofs.HomLaws.{IsDistinct-values}
use Rattle.eir_hom.proofs.MarkLaws.{given-step}
use Rattle.eir_hom.proofs.plan.mark_given.Goals as goal
use Rattle.eir_hom.proofs.plan.mark_given.Goals.{in-Some, in_default}

pub loop-place-preserved : goal.loop-place-preserved
loop-place-preserved c =
    let K = c.args.a.now.facts in
    let end = c.len-place-end.ensures in
    let l : c.loop-place.place < length c.args.start.now = omega arith in
    elim c.match-pair.branch [
      | in-Some w ↦ w.known-is ∙ w.mark.ensures
          ∙ given-step c.args.start.now c.loop-place.place (w.in-Some.value, w.in-Some.field-0-1) (values K) c.loop-place.known (IsDistinct-values K) (sym c.pair.ensures ∙ w.in-Some.is) c.loop-place.invariant
      | in_default w ↦ absurd (w.in_default.not-Some _ (c.pair.ensures ∙ slice_get-get_or c.args.start.now c.loop-place.place (Const 0, Const 0) l))
    ]
