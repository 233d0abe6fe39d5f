use Rattle.std.proofs.Common.{◌≡◌, refl, sym, ap, ap₂, ◌∙◌, subst}
use Rattle.eir_term.specs.Order.{KeepsFixed}
use Rattle.eir_term.specs.Maps.{domain_of, image}
use Rattle.eir_term.specs.Instances.{values, consts}
use Rattle.eir_term.specs.Search.{homs, need}
use Rattle.eir_term.proofs.HomLaws.{domain_of-graph}
use Rattle.eir_edit.specs.Pairs.{pair_of}
use Rattle.eir_ext.specs.declared.searches.Stage.TheVariants.{Targets}
use Rattle.eir_ext.proofs.StageLaws.{constants-keep_fixed, first-named, start-followed, AreSearches-after_first, trial-after_first}
use Rattle.eir_ext.proofs.searches.Searches.after_first.Goals as goal

pub follow-requires-clause-numbers : goal.follow-requires-clause-numbers
follow-requires-clause-numbers c =
    let named : domain_of c.map.result.now ≡ values c.args.first.now.source = first-named (pair_of c.args.first.now) (pair_of c.args.second.now) c.args.sources c.requires.found c.map.result.now c.map.ensures in
    let constants : domain_of c.in_ok-start.field-0.start ≡ consts c.args.first.now.target = ap domain_of c.in_ok-start.ensures.start ∙ domain_of-graph (λ v. v) (consts c.args.first.now.target) in
    rw (named, constants, c.deref.ensures.value) c.in_ok-start.ensures.numbers

pub begin-requires : goal.begin-requires
begin-requires c =
    let start = start-followed (pair_of c.args.first.now) c.map.result.now c.in_ok-start.field-0.start c.follow.new.start c.in_ok-start.ensures.start c.follow.ensures in
    record { fixed = subst KeepsFixed (sym start) (constants-keep_fixed (image c.map.result.now) c.args.first.now.target) }

pub returns-clause-searches : goal.returns-clause-searches
returns-clause-searches c =
    let start = start-followed (pair_of c.args.first.now) c.map.result.now c.in_ok-start.field-0.start c.follow.new.start c.in_ok-start.ensures.start c.follow.ensures in
    AreSearches-after_first _ (pair_of c.args.first.now) (pair_of c.args.second.now) c.requires.source c.requires.target
    (ap (λ p. p.source) c.in_ok-targets.ensures ∙ ap (λ x. x.target) c.first.view_is)
    (ap (λ p. p.target) c.in_ok-targets.ensures ∙ ap (λ x. x.target) c.second.view_is)
    (ap (λ p. p.start) c.in_ok-targets.ensures) c.in_ok-start.ensures.numbers c.requires.found c.map.result.now c.map.ensures start refl
    (ap (λ p. p.to_come) c.in_ok-targets.ensures ∙ sym (ap₂ (λ K L. homs K L c.follow.new.start) (ap (λ p. p.source) c.in_ok-targets.ensures) (ap (λ p. p.target) c.in_ok-targets.ensures)))

pub returns-clause-begun : goal.returns-clause-begun
returns-clause-begun c =
    let start = start-followed (pair_of c.args.first.now) c.map.result.now c.in_ok-start.field-0.start c.follow.new.start c.in_ok-start.ensures.start c.follow.ensures in
    trial-after_first (record { sources = c.args.sources; targets = c.in_ok-targets.targets; start = c.follow.new.start; numbers = c.in_ok-start.field-0.numbers; stage = Targets })
    (pair_of c.args.first.now) (pair_of c.args.second.now) c.requires.source c.requires.target
    (ap (λ p. p.source) c.in_ok-targets.ensures ∙ ap (λ x. x.target) c.first.view_is)
    (ap (λ p. p.target) c.in_ok-targets.ensures ∙ ap (λ x. x.target) c.second.view_is)
    (ap (λ p. p.start) c.in_ok-targets.ensures) c.in_ok-start.ensures.numbers c.requires.found c.map.result.now c.map.ensures start refl
    (ap (λ p. p.tries) c.in_ok-targets.ensures ∙ sym (ap₂ (λ K L. need K L c.follow.new.start) (ap (λ p. p.source) c.in_ok-targets.ensures) (ap (λ p. p.target) c.in_ok-targets.ensures)))
