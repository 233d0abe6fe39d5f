use Rattle.std.proofs.Common.{◌≡◌, filter, subst, sym, ap, ◌∙◌, refl}
use Rattle.eir_term.specs.Values.{is_const}
use Rattle.eir_term.specs.Instances.{values}
use Rattle.eir_term.specs.Maps.{graph}
use Rattle.eir_edit.specs.Pairs.{paired}
use Rattle.eir_ext.specs.Searching.{AreNumbers}
use Rattle.eir_ext.proofs.StartLaws.{Numbered, none-missing, unnamed-next, Numbered-more, Numbered-other, Numbered-all}
use Rattle.eir_ext.proofs.start.constants_between.Goals as goal
use Rattle.eir_ext.proofs.start.constants_between.Goals.{then-is_const+in-Some+in_ok-put+in_ok-push, else-is_const}

pub unreachable-requires : goal.unreachable-requires
unreachable-requires c =
    let target : c.values-value-items.result.now ≡ values c.args.target.now.facts =
    c.values-value-items.ensures.values in
    none-missing (paired c.args.source.now.facts c.args.target.now.facts) c.values-value-items.result.now (values c.args.source.now.facts) c.loop-value.value-index _ c.number_of.result c.requires target refl
    c.loop-value-test.true (sym c.is_const.ensures ∙ c.if-is_const.true) c.number_of.ensures.absent c.in_default.is

pub put-requires : goal.put-requires
put-requires c =
    unnamed-next (values c.args.source.now.facts) c.values-value-items.result.now c.loop-value.value-index _ c.loop-value.start c.loop-value.numbers.items c.loop-value-test.true c.loop-value.invariant
    c.values-value-items.ensures.distinct

pub loop-value-preserved : goal.loop-value-preserved
loop-value-preserved c = elim c.if-is_const.branch [
  | then-is_const+in-Some+in_ok-put+in_ok-push w ↦ Numbered-more (values c.args.source.now.facts) c.values-value-items.result.now c.loop-value.value-index _ c.loop-value.start c.loop-value.numbers.items c.loop-value-test.true c.loop-value.invariant
      w.in-Some.number c.if-is_const.start c.if-is_const.numbers.items (sym c.is_const.ensures ∙ w.if-is_const.true)
      ((w.number_of.ensures.there w.in-Some.number).0 w.in-Some.is)
      (w.start-is ∙ w.in_ok-put.ensures.ok) (ap (λ v. v.items) w.numbers-is ∙ w.in_ok-push.ensures.items)
  | else-is_const w ↦ rw (w.start-is, w.numbers-is) (Numbered-other (values c.args.source.now.facts) c.values-value-items.result.now c.loop-value.value-index _ c.loop-value.start c.loop-value.numbers.items c.loop-value-test.true c.loop-value.invariant
      (sym c.is_const.ensures ∙ w.if-is_const.false))
]

pub returns : goal.returns
returns c =
    let target : c.values-value-items.result.now ≡ values c.args.target.now.facts =
    c.values-value-items.ensures.values in
    let all = Numbered-all (values c.args.source.now.facts) c.values-value-items.result.now c.loop-value.value-index c.loop-value.start c.loop-value.numbers.items c.loop-value-test.false c.loop-value.invariant in
    subst (λ us. record { start : c.loop-value.start ≡ graph (λ v. v) (filter is_const us); numbers : AreNumbers (values c.args.source.now.facts) (filter is_const us) c.loop-value.numbers.items }) target (record { start = all.0; numbers = all.1 })
