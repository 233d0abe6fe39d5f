use Rattle.std.proofs.Common.{◌≡◌, ◌+◌, suc, get_or, take, subst, ap, ◌∙◌, arith}
use Rattle.std.proofs.lemmas.Option.{slice_get-get_or}
use Rattle.eir_term.specs.declared.val.Val.TheVariants.{Const}
use Rattle.eir_term.specs.Lists.{◌∈◌}
use Rattle.eir_term.specs.Maps.{domain_of}
use Rattle.eir_hom.proofs.ListingLaws.{take-fresh, domain-next}
use Rattle.eir_hom.proofs.homs.each_to_itself.Goals as goal

pub put-requires : goal.put-requires
put-requires c = λ named.
    let items = c.values-value-items.result.now in
    let at = slice_get-get_or items c.loop-value.value-index (Const 0) c.loop-value-test.true in
    take-fresh items c.loop-value.value-index (get_or items c.loop-value.value-index (Const 0)) c.values-value-items.ensures.distinct at
    (subst (λ vs. get_or items c.loop-value.value-index (Const 0) ∈ vs) c.loop-value.invariant named)

pub loop-value-preserved : goal.loop-value-preserved
loop-value-preserved c =
    let items = c.values-value-items.result.now in
    let at = slice_get-get_or items c.loop-value.value-index (Const 0) c.loop-value-test.true in
    let next : suc c.loop-value.value-index ≡ c.loop-value.value-index + 1 = omega arith in
    ap domain_of c.in_ok-put.ensures.ok ∙ domain-next c.loop-value.map items c.loop-value.value-index _ _ c.loop-value.invariant at ∙ ap (λ n. take n items) next
