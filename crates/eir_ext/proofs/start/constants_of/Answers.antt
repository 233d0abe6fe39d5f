use Rattle.std.proofs.Common.{◌≡◌, IfOk, ap, ap₂, subst, ◌∙◌}
use Rattle.eir_term.specs.Instances.{consts, values}
use Rattle.eir_term.specs.Search.{constants_fixed}
use Rattle.eir_term.specs.Verdicts.{first_foreign}
use Rattle.eir_edit.specs.Pairs.{paired}
use Rattle.eir_ext.specs.Searching.{AreNumbers}
use Rattle.eir_ext.proofs.start.constants_of.Goals as goal

pub constants_between-requires : goal.constants_between-requires
constants_between-requires c =
    ap₂ (λ I J. first_foreign (paired I J)) (ap (λ x. x.facts) c.deref-3.ensures ∙ c.in_ok-source.ensures ∙ ap (λ x. x.facts) c.deref.ensures ∙ ap (λ x. x.source) c.example.view_is)
    (ap (λ x. x.facts) c.deref-4.ensures ∙ c.in_ok-target.ensures ∙ ap (λ x. x.facts) c.deref-2.ensures ∙ ap (λ x. x.target) c.example.view_is) ∙ c.requires

pub returns-clause-start : goal.returns-clause-start
returns-clause-start c =
    subst (λ J. IfOk c.constants_between.result (λ k. k.start ≡ constants_fixed J))
    (ap (λ x. x.facts) c.deref-4.ensures ∙ c.in_ok-target.ensures ∙ ap (λ x. x.facts) c.deref-2.ensures ∙ ap (λ x. x.target) c.example.view_is) c.constants_between.ensures.start

pub returns-clause-numbers : goal.returns-clause-numbers
returns-clause-numbers c =
    subst (λ J. IfOk c.constants_between.result (λ k. AreNumbers (values c.args.example.now.source) (consts J) k.numbers.items))
    (ap (λ x. x.facts) c.deref-4.ensures ∙ c.in_ok-target.ensures ∙ ap (λ x. x.facts) c.deref-2.ensures ∙ ap (λ x. x.target) c.example.view_is)
    (subst (λ I. IfOk c.constants_between.result (λ k. AreNumbers (values I) (consts c.deref-4.result.now.facts) k.numbers.items))
    (ap (λ x. x.facts) c.deref-3.ensures ∙ c.in_ok-source.ensures ∙ ap (λ x. x.facts) c.deref.ensures ∙ ap (λ x. x.source) c.example.view_is) c.constants_between.ensures.numbers)
