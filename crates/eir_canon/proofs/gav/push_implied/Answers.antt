use Rattle.std.proofs.Common.{sym, subst, ◌∙◌}
use Rattle.eir_term.specs.Instances.{is_ground}
use Rattle.eir_term.specs.Dependencies.{IsDependency}
use Rattle.eir_term.proofs.ListLaws.{∈-filter}
use Rattle.eir_canon.specs.Parts.{implies}
use Rattle.eir_canon.proofs.VariableLaws.{∈-item}
use Rattle.eir_canon.proofs.gav.push_implied.Goals as goal

pub implication-requires : goal.implication-requires
implication-requires c =
    subst (λ a. IsDependency (implies c.args.premise.now a)) (sym c.in_ok-conclusion.ensures)
    (c.requires c.fact-item.result
    (∈-filter is_ground c.fact-item.result c.args.facts.now (sym c.is_ground.ensures ∙ c.if-is_ground.true)
    (∈-item c.args.facts.now c.loop-fact.fact-index _ c.fact-item.result c.loop-fact-test.true c.fact-item.is)))
