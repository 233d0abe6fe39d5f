use Rattle.std.proofs.Common.{◌≡◌, ◌<◌, Some, length, get_or, slice_get, ap, sym, ◌∙◌, subst, arith, rules}
use Rattle.std.proofs.lemmas.Option.{same_Some}
use Rattle.eir_term.specs.declared.val.Val.TheVariants.{Const}
use Rattle.eir_term.specs.Instances.{values}
use Rattle.eir_term.specs.Maps.{domain_of, image_at}
use Rattle.eir_term.proofs.MapLaws.{domain_of-with_image_at}
use Rattle.eir_hom.specs.Matching.{bound_to, matched}
use Rattle.eir_hom.proofs.ListingLaws.{some-from, same-length, placed-match, images-next}
use Rattle.eir_hom.proofs.homs.write_images.Goals as goal

pub bounds-images-slot : goal.bounds-images-slot
bounds-images-slot c =
    let search = c.args.search.now in
    let some = some-from (matched search.problem.levels search.problem.start search.choices) c.requires.there in
    let slot : c.loop-slot.slot < length c.args.map.now = subst (λ n. c.loop-slot.slot < n) c.len-slot-end.ensures c.loop-slot-test.true in
    let r = c.requires.bound some.0 some.1 c.loop-slot.slot slot in
    (c.images-images.ensures some.0 (placed-match c.problem-matcher.result.now search.problem c.choices-choices.result.now search.choices some.0 c.problem-matcher.ensures c.choices-choices.ensures.choices c.choices-choices.ensures.placed some.1) c.loop-slot.slot r.0 r.1).0

pub bounds-values-images : goal.bounds-values-images
bounds-values-images c =
    let search = c.args.search.now in
    let some = some-from (matched search.problem.levels search.problem.start search.choices) c.requires.there in
    let slot : c.loop-slot.slot < length c.args.map.now = subst (λ n. c.loop-slot.slot < n) c.len-slot-end.ensures c.loop-slot-test.true in
    let r = c.requires.bound some.0 some.1 c.loop-slot.slot slot in
    let at = (c.images-images.ensures some.0 (placed-match c.problem-matcher.result.now search.problem c.choices-choices.result.now search.choices some.0 c.problem-matcher.ensures c.choices-choices.ensures.choices c.choices-choices.ensures.placed some.1) c.loop-slot.slot r.0 r.1).1 in
    let long : length c.values-values.result.now ≡ length (values c.args.target.now.facts) = ap length c.values-values.ensures.values in
    let below = r.2 in
    omega arith

pub loop-slot-preserved : goal.loop-slot-preserved
loop-slot-preserved c =
    let search = c.args.search.now in
    let images = c.images-images.result.now in
    let slot : c.loop-slot.slot < length c.args.map.now = subst (λ n. c.loop-slot.slot < n) c.len-slot-end.ensures c.loop-slot-test.true in
    let long = same-length c.loop-slot.map c.args.map.now c.loop-slot.invariant.0 in (
      ap domain_of c.set_at.ensures ∙ domain_of-with_image_at c.loop-slot.map c.loop-slot.slot _ ∙ c.loop-slot.invariant.0,
      λ m e k l w b.
          let r = c.requires.bound m e c.loop-slot.slot slot in
          let at = (c.images-images.ensures m (placed-match c.problem-matcher.result.now search.problem c.choices-choices.result.now search.choices m c.problem-matcher.ensures c.choices-choices.ensures.choices c.choices-choices.ensures.placed e) c.loop-slot.slot r.0 r.1).1 in
          let vs : length c.values-values.result.now ≡ length (values c.args.target.now.facts) = ap length c.values-values.ensures.values in
          let below = r.2 in
          ap (λ h. image_at h k) c.set_at.ensures
          ∙ images-next c.loop-slot.map c.values-values.result.now c.loop-slot.slot k (get_or images c.loop-slot.slot 0) w (Const 0) (omega arith) (omega arith)
          (λ here. at ∙ same_Some r.0 w (sym r.1 ∙ subst (λ i. bound_to m i ≡ Some w) here b))
          (λ before. c.loop-slot.invariant.1 m e k before w b ∙ ap (λ us. slice_get us w) (sym c.values-values.ensures.values)) l
          ∙ ap (λ us. slice_get us w) c.values-values.ensures.values,
    )

pub offset_bounds-images-slot : goal.offset_bounds-images-slot
offset_bounds-images-slot c =
    let ended = c.args.search.now in
    let some = some-from (matched ended.problem.levels ended.problem.start ended.choices) c.requires.there in
    let slot : c.loop-slot.slot < length c.args.map.now = subst (λ n. c.loop-slot.slot < n) c.len-slot-end.ensures c.loop-slot-test.true in
    let r = c.requires.bound some.0 some.1 c.loop-slot.slot slot in
    let below = (c.images-images.ensures some.0 (placed-match c.problem-matcher.result.now ended.problem c.choices-choices.result.now ended.choices some.0 c.problem-matcher.ensures c.choices-choices.ensures.choices c.choices-choices.ensures.placed some.1) c.loop-slot.slot r.0 r.1).0 in
    search rules

pub offset_bounds-values-images : goal.offset_bounds-values-images
offset_bounds-values-images c = let below = bounds-values-images c in search rules
