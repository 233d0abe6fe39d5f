use Rattle.std.proofs.Common.{◌∙◌, ◌++◌, ◌∷◌, [], ap, sym, cond, append-nil, refl}
use Rattle.eir_inst.proofs.IndexLaws.{copied-ground, ground-next}
use Rattle.eir_inst.proofs.instance.ground_facts.Goals as goal
use Rattle.eir_inst.proofs.instance.ground_facts.Goals.{then-is_ground+in_ok-copy_into, else-is_ground}

pub loop-fact-preserved : goal.loop-fact-preserved
loop-fact-preserved c = elim c.if-is_ground.branch [
  | then-is_ground+in_ok-copy_into w ↦ record {
    facts = ground-next c.loop-fact.part.facts c.if-is_ground.part.facts c.args.facts.now c.loop-fact.fact-index c.fact-item.result c.is_ground.result c.loop-fact-test.true c.fact-item.is c.loop-fact.invariant.facts c.is_ground.ensures
        (ap (λ p. p.facts) w.part-is ∙ w.in_ok-copy_into.ensures.facts ∙ ap (λ b. c.loop-fact.part.facts ++ cond b (c.fact-item.result ∷ []) []) (sym w.if-is_ground.true));
    limit = ap (λ p. p.limit) w.part-is ∙ w.in_ok-copy_into.ensures.limit ∙ c.loop-fact.invariant.limit;
  }
  | else-is_ground w ↦ record {
    facts = ground-next c.loop-fact.part.facts c.if-is_ground.part.facts c.args.facts.now c.loop-fact.fact-index c.fact-item.result c.is_ground.result c.loop-fact-test.true c.fact-item.is c.loop-fact.invariant.facts c.is_ground.ensures
        (ap (λ p. p.facts) w.part-is ∙ sym (append-nil c.loop-fact.part.facts) ∙ ap (λ b. c.loop-fact.part.facts ++ cond b (c.fact-item.result ∷ []) []) (sym w.if-is_ground.false));
    limit = ap (λ p. p.limit) w.part-is ∙ c.loop-fact.invariant.limit;
  }
]

pub returns : goal.returns
returns c = copied-ground c.loop-fact.part c.args.facts.now c.args.facts.now c.args.limit c.loop-fact.fact-index c.loop-fact.invariant.facts c.loop-fact.invariant.limit c.loop-fact-test.false refl
