use Rattle.std.proofs.Common.{[], refl, sym, ap, ap₂, ◌∙◌, subst}
use Rattle.eir_term.specs.Order.{KeepsFixed}
use Rattle.eir_term.specs.Search.{homs}
use Rattle.eir_edit.specs.Pairs.{pair_of}
use Rattle.eir_ext.proofs.StageLaws.{constants-keep_fixed, AreSearches-begun}
use Rattle.eir_ext.proofs.searches.Searches.begin.Goals as goal

pub begin-requires-2 : goal.begin-requires-2
begin-requires-2 c = record { fixed = subst KeepsFixed (sym c.in_ok-start.ensures.start) (constants-keep_fixed (λ v. v) c.args.first.now.target) }

pub returns-clause-searches : goal.returns-clause-searches
returns-clause-searches c =
    AreSearches-begun _ (pair_of c.args.first.now) (pair_of c.args.second.now)
    (ap (λ p. p.source) c.in_ok-sources.ensures ∙ ap (λ x. x.source) c.first.view_is)
    (ap (λ p. p.target) c.in_ok-sources.ensures ∙ ap (λ x. x.source) c.second.view_is)
    (ap (λ p. p.source) c.in_ok-targets.ensures ∙ ap (λ x. x.target) c.first.view_is)
    (ap (λ p. p.target) c.in_ok-targets.ensures ∙ ap (λ x. x.target) c.second.view_is)
    (ap (λ p. p.start) c.in_ok-targets.ensures) c.in_ok-start.ensures.numbers c.in_ok-start.ensures.start refl
    (ap (λ p. p.to_come) c.in_ok-sources.ensures ∙ ap (homs c.first.inside.source.value.facts c.second.inside.source.value.facts) c.new.ensures ∙ ap₂ (λ x y. homs x.source y.source []) c.first.view_is c.second.view_is)
