use Rattle.std.proofs.Common.{IfOk, ◌≡◌, ap, subst, ◌∙◌}
use Rattle.eir_term.specs.Plans.{plan}
use Rattle.eir_hom.proofs.plan.plan_of.Goals as goal

pub returns : goal.returns
returns c =
    subst (λ K. IfOk c.plan_between.result (λ v. v.items ≡ plan K c.args.b.now.facts c.args.start.now)) (ap (λ i. i.facts) c.deref.ensures ∙ c.in_ok-source.ensures)
    (subst (λ K. IfOk c.plan_between.result (λ v. v.items ≡ plan c.deref.result.now.facts K c.args.start.now)) (ap (λ i. i.facts) c.deref-2.ensures ∙ c.in_ok-target.ensures) c.plan_between.ensures)
