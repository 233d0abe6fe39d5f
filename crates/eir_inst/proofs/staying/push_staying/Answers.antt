use Rattle.std.proofs.Common.{◌++◌, ◌∷◌, [], ◌∙◌, cond, take, ap, ap₂, sym, subst, append-nil, append_assoc}
use Rattle.eir_term.specs.Lists.{◌∈◌}
use Rattle.eir_inst.specs.Layers.{staying}
use Rattle.eir_inst.proofs.StayingLaws.{not-yet, staying-next, staying-end}
use Rattle.eir_inst.proofs.staying.push_staying.Goals as goal
use Rattle.eir_inst.proofs.staying.push_staying.Goals.{then-stays+in_ok-copy+in_ok-push, else-stays}

pub push-requires : goal.push-requires
push-requires c = λ h.
    not-yet c.args.to.now.facts c.args.facts.now c.args.gone.now c.loop-place.place c.index-facts-place.result c.stays.result c.requires c.loop-place-test.true c.index-facts-place.is c.stays.ensures c.if-stays.true
    (subst (λ fs. c.index-facts-place.result ∈ fs) c.loop-place.invariant (subst (λ f. f ∈ c.loop-place.to.facts) c.in_ok-copy.ensures h))

pub loop-place-preserved : goal.loop-place-preserved
loop-place-preserved c =
    let passed = staying (take c.loop-place.place c.args.facts.now) (take c.loop-place.place c.args.gone.now) in
    let next = staying-next c.args.facts.now c.args.gone.now c.loop-place.place c.index-facts-place.result c.stays.result c.loop-place-test.true c.index-facts-place.is c.stays.ensures in
    elim c.if-stays.branch [
      | then-stays+in_ok-copy+in_ok-push w ↦
          ap (λ t. t.facts) w.to-is ∙ w.in_ok-push.ensures.ok ∙ ap₂ (λ fs f. fs ++ f ∷ []) c.loop-place.invariant w.in_ok-copy.ensures ∙ append_assoc c.args.to.now.facts passed (c.index-facts-place.result ∷ [])
          ∙ ap (λ fs. c.args.to.now.facts ++ fs) (sym (next ∙ ap (λ b. passed ++ cond b (c.index-facts-place.result ∷ []) []) w.if-stays.true))
      | else-stays w ↦
          ap (λ t. t.facts) w.to-is ∙ c.loop-place.invariant
          ∙ ap (λ fs. c.args.to.now.facts ++ fs) (sym (next ∙ ap (λ b. passed ++ cond b (c.index-facts-place.result ∷ []) []) w.if-stays.false ∙ append-nil passed))
    ]

pub returns : goal.returns
returns c = c.loop-place.invariant ∙ ap (λ fs. c.args.to.now.facts ++ fs) (staying-end c.args.facts.now c.args.gone.now c.loop-place.place c.loop-place-test.false)
