use Rattle.std.proofs.Common.{◌≡◌, None, IfOk, rules, refl, sym, ap, ap₂, ◌∙◌, subst}
use Rattle.eir_term.specs.Order.{KeepsFixed}
use Rattle.eir_term.specs.Verdicts.{first_foreign, first_refuting}
use Rattle.eir_edit.specs.Pairs.{pair_of}
use Rattle.eir_ext.specs.Trials.{refuting_of}
use Rattle.eir_ext.specs.Searching.{first_trial}
use Rattle.eir_ext.proofs.VerdictLaws.{begun-from, found-begun, none-begun, first-at_most, first-spent, first-extends, both-at_most, both-spent, both-extends, at_most-none, same, rises-both, steps-both, not-going}
use Rattle.eir_ext.proofs.verdict.test_pair.Goals as goal

pub begin-requires : goal.begin-requires
begin-requires g c = record { fixed = subst KeepsFixed (sym c.new.ensures) (λ n. refl) }

pub returns-in_err-sources-clause-ok : goal.returns-in_err-sources-clause-ok
returns-in_err-sources-clause-ok g c = search rules

pub returns-in_err-sources-clause-extends : goal.returns-in_err-sources-clause-extends
returns-in_err-sources-clause-extends g c = search rules

pub returns-in_err-sources-clause-spent : goal.returns-in_err-sources-clause-spent
returns-in_err-sources-clause-spent g c = λ e. absurd (let z = rw e at c.from_residual.ensures.1 in cc)

pub returns-in_err-sources-clause-at_most : goal.returns-in_err-sources-clause-at_most
returns-in_err-sources-clause-at_most g c = at_most-none c.args.fuel.now.used _

pub returns-in_err-sources-clause-used : goal.returns-in_err-sources-clause-used
returns-in_err-sources-clause-used g c = same c.args.fuel.now.used

pub returns-in_err-sources-clause-limit : goal.returns-in_err-sources-clause-limit
returns-in_err-sources-clause-limit g c = refl

pub returns-in_err-sources-clause-steps : goal.returns-in_err-sources-clause-steps
returns-in_err-sources-clause-steps g c = refl

pub after_first-requires-clause-foreign : goal.after_first-requires-clause-foreign
after_first-requires-clause-foreign g c = subst (λ x. first_foreign (pair_of x) ≡ None) (sym c.deref-in-Found.ensures) c.requires

pub after_first-requires-clause-source : goal.after_first-requires-clause-source
after_first-requires-clause-source g c =
    c.turn.ensures.source ∙ (begun-from c.in_ok-sources.sources c.deref-in-Found.result.now.source c.deref-in-Found-2.result.now.source c.behind-first.inside.source.value.facts c.behind-second.inside.source.value.facts c.new.result
    (ap (λ x. x.source) (c.behind-first.view_is ∙ c.deref.ensures ∙ sym c.deref-in-Found.ensures)) (ap (λ x. x.source) (c.behind-second.view_is ∙ c.deref-2.ensures ∙ sym c.deref-in-Found-2.ensures)) c.new.ensures
    (ap (λ p. p.source) c.in_ok-sources.ensures) (ap (λ p. p.target) c.in_ok-sources.ensures) (ap (λ p. p.to_come) c.in_ok-sources.ensures) (ap (λ p. p.tries) c.in_ok-sources.ensures)).source

pub after_first-requires-clause-target : goal.after_first-requires-clause-target
after_first-requires-clause-target g c =
    c.turn.ensures.target ∙ (begun-from c.in_ok-sources.sources c.deref-in-Found.result.now.source c.deref-in-Found-2.result.now.source c.behind-first.inside.source.value.facts c.behind-second.inside.source.value.facts c.new.result
    (ap (λ x. x.source) (c.behind-first.view_is ∙ c.deref.ensures ∙ sym c.deref-in-Found.ensures)) (ap (λ x. x.source) (c.behind-second.view_is ∙ c.deref-2.ensures ∙ sym c.deref-in-Found-2.ensures)) c.new.ensures
    (ap (λ p. p.source) c.in_ok-sources.ensures) (ap (λ p. p.target) c.in_ok-sources.ensures) (ap (λ p. p.to_come) c.in_ok-sources.ensures) (ap (λ p. p.tries) c.in_ok-sources.ensures)).target

pub after_first-requires-clause-found : goal.after_first-requires-clause-found
after_first-requires-clause-found g c =
    found-begun (pair_of c.deref-in-Found.result.now) (pair_of c.deref-in-Found-2.result.now) c.in_ok-sources.sources c.turn.new.self
    (begun-from c.in_ok-sources.sources c.deref-in-Found.result.now.source c.deref-in-Found-2.result.now.source c.behind-first.inside.source.value.facts c.behind-second.inside.source.value.facts c.new.result
    (ap (λ x. x.source) (c.behind-first.view_is ∙ c.deref.ensures ∙ sym c.deref-in-Found.ensures)) (ap (λ x. x.source) (c.behind-second.view_is ∙ c.deref-2.ensures ∙ sym c.deref-in-Found-2.ensures)) c.new.ensures
    (ap (λ p. p.source) c.in_ok-sources.ensures) (ap (λ p. p.target) c.in_ok-sources.ensures) (ap (λ p. p.to_come) c.in_ok-sources.ensures) (ap (λ p. p.tries) c.in_ok-sources.ensures)) (c.in-Found.ensures.found refl)

pub returns-in_err-test-in-Found-clause-ok : goal.returns-in_err-test-in-Found-clause-ok
returns-in_err-test-in-Found-clause-ok g c = search rules

pub returns-in_err-test-in-Found-clause-extends : goal.returns-in_err-test-in-Found-clause-extends
returns-in_err-test-in-Found-clause-extends g c = search rules

pub returns-in_err-test-in-Found-clause-spent : goal.returns-in_err-test-in-Found-clause-spent
returns-in_err-test-in-Found-clause-spent g c = λ e. absurd (let z = rw e at c.from_residual-in_err-test-in-Found.ensures.1 in cc)

pub returns-in_err-test-in-Found-clause-at_most : goal.returns-in_err-test-in-Found-clause-at_most
returns-in_err-test-in-Found-clause-at_most g c =
    first-at_most (pair_of c.args.first.now.value) (pair_of c.args.second.now.value) c.in_ok-sources.sources c.turn.new.self
    (begun-from c.in_ok-sources.sources c.args.first.now.value.source c.args.second.now.value.source c.behind-first.inside.source.value.facts c.behind-second.inside.source.value.facts c.new.result
    (ap (λ x. x.source) (c.behind-first.view_is ∙ c.deref.ensures)) (ap (λ x. x.source) (c.behind-second.view_is ∙ c.deref-2.ensures)) c.new.ensures
    (ap (λ p. p.source) c.in_ok-sources.ensures) (ap (λ p. p.target) c.in_ok-sources.ensures) (ap (λ p. p.to_come) c.in_ok-sources.ensures) (ap (λ p. p.tries) c.in_ok-sources.ensures)) c.args.fuel.now c.turn.new.fuel c.turn.ensures.tries c.turn.ensures.used

pub returns-in_err-test-in-Found-clause-used : goal.returns-in_err-test-in-Found-clause-used
returns-in_err-test-in-Found-clause-used g c = c.turn.ensures.used

pub returns-in_err-test-in-Found-clause-limit : goal.returns-in_err-test-in-Found-clause-limit
returns-in_err-test-in-Found-clause-limit g c = c.turn.ensures.limit

pub returns-in_err-test-in-Found-clause-steps : goal.returns-in_err-test-in-Found-clause-steps
returns-in_err-test-in-Found-clause-steps g c = c.turn.ensures.steps

pub unreachable-requires : goal.unreachable-requires
unreachable-requires g c =
    let going = c.in-Going.ensures.going refl in
    not-going c.args.fuel.now.used c.turn.new.fuel.used c.limit.result c.args.fuel.now.limit c.turn.new.fuel.limit c.limit.ensures c.turn.ensures.limit going.0 going.1

pub returns-in_ok-test-in-Found-clause-ok : goal.returns-in_ok-test-in-Found-clause-ok
returns-in_ok-test-in-Found-clause-ok g c =
    subst (λ o. IfOk c.decide.result (λ v. refuting_of v ≡ o)) (ap (λ t. first_refuting t.first t.second) (c.in_ok-test-in-Found.ensures ∙ ap₂ (λ x y. first_trial (pair_of x) (pair_of y) c.turn.new.self) c.deref-in-Found.ensures c.deref-in-Found-2.ensures)) c.decide.ensures.ok

pub returns-in_ok-test-in-Found-clause-extends : goal.returns-in_ok-test-in-Found-clause-extends
returns-in_ok-test-in-Found-clause-extends g c =
    λ e. both-extends (pair_of c.args.first.now.value) (pair_of c.args.second.now.value) c.in_ok-sources.sources c.turn.new.self
    (begun-from c.in_ok-sources.sources c.args.first.now.value.source c.args.second.now.value.source c.behind-first.inside.source.value.facts c.behind-second.inside.source.value.facts c.new.result
    (ap (λ x. x.source) (c.behind-first.view_is ∙ c.deref.ensures)) (ap (λ x. x.source) (c.behind-second.view_is ∙ c.deref-2.ensures)) c.new.ensures
    (ap (λ p. p.source) c.in_ok-sources.ensures) (ap (λ p. p.target) c.in_ok-sources.ensures) (ap (λ p. p.to_come) c.in_ok-sources.ensures) (ap (λ p. p.tries) c.in_ok-sources.ensures)) c.args.fuel.now c.turn.new.fuel c.turn.ensures.tries c.turn.ensures.used
    c.in_ok-test-in-Found.test (c.in_ok-test-in-Found.ensures ∙ ap₂ (λ x y. first_trial (pair_of x) (pair_of y) c.turn.new.self) c.deref-in-Found.ensures c.deref-in-Found-2.ensures) c.decide.new.fuel (c.decide.ensures.extends e)

pub returns-in_ok-test-in-Found-clause-spent : goal.returns-in_ok-test-in-Found-clause-spent
returns-in_ok-test-in-Found-clause-spent g c =
    λ e. both-spent (pair_of c.args.first.now.value) (pair_of c.args.second.now.value) c.in_ok-sources.sources c.turn.new.self
    (begun-from c.in_ok-sources.sources c.args.first.now.value.source c.args.second.now.value.source c.behind-first.inside.source.value.facts c.behind-second.inside.source.value.facts c.new.result
    (ap (λ x. x.source) (c.behind-first.view_is ∙ c.deref.ensures)) (ap (λ x. x.source) (c.behind-second.view_is ∙ c.deref-2.ensures)) c.new.ensures
    (ap (λ p. p.source) c.in_ok-sources.ensures) (ap (λ p. p.target) c.in_ok-sources.ensures) (ap (λ p. p.to_come) c.in_ok-sources.ensures) (ap (λ p. p.tries) c.in_ok-sources.ensures)) c.args.fuel.now c.turn.new.fuel c.turn.ensures.tries c.turn.ensures.used
    c.in_ok-test-in-Found.test (c.in_ok-test-in-Found.ensures ∙ ap₂ (λ x y. first_trial (pair_of x) (pair_of y) c.turn.new.self) c.deref-in-Found.ensures c.deref-in-Found-2.ensures) c.decide.new.fuel c.turn.ensures.limit (c.decide.ensures.spent e)

pub returns-in_ok-test-in-Found-clause-at_most : goal.returns-in_ok-test-in-Found-clause-at_most
returns-in_ok-test-in-Found-clause-at_most g c =
    both-at_most (pair_of c.args.first.now.value) (pair_of c.args.second.now.value) c.in_ok-sources.sources c.turn.new.self
    (begun-from c.in_ok-sources.sources c.args.first.now.value.source c.args.second.now.value.source c.behind-first.inside.source.value.facts c.behind-second.inside.source.value.facts c.new.result
    (ap (λ x. x.source) (c.behind-first.view_is ∙ c.deref.ensures)) (ap (λ x. x.source) (c.behind-second.view_is ∙ c.deref-2.ensures)) c.new.ensures
    (ap (λ p. p.source) c.in_ok-sources.ensures) (ap (λ p. p.target) c.in_ok-sources.ensures) (ap (λ p. p.to_come) c.in_ok-sources.ensures) (ap (λ p. p.tries) c.in_ok-sources.ensures)) c.args.fuel.now c.turn.new.fuel c.turn.ensures.tries c.turn.ensures.used
    c.in_ok-test-in-Found.test (c.in_ok-test-in-Found.ensures ∙ ap₂ (λ x y. first_trial (pair_of x) (pair_of y) c.turn.new.self) c.deref-in-Found.ensures c.deref-in-Found-2.ensures) c.decide.new.fuel c.decide.ensures.at_most

pub returns-in_ok-test-in-Found-clause-used : goal.returns-in_ok-test-in-Found-clause-used
returns-in_ok-test-in-Found-clause-used g c = rises-both c.args.fuel.now.used c.turn.new.fuel.used c.decide.new.fuel.used c.turn.ensures.used c.decide.ensures.used

pub returns-in_ok-test-in-Found-clause-limit : goal.returns-in_ok-test-in-Found-clause-limit
returns-in_ok-test-in-Found-clause-limit g c = c.decide.ensures.limit ∙ c.turn.ensures.limit

pub returns-in_ok-test-in-Found-clause-steps : goal.returns-in_ok-test-in-Found-clause-steps
returns-in_ok-test-in-Found-clause-steps g c =
    steps-both c.args.steps.now c.turn.new.steps c.decide.new.steps c.args.fuel.now.used c.turn.new.fuel.used c.decide.new.fuel.used c.turn.ensures.steps c.decide.ensures.steps

pub returns-in-Done-clause-ok : goal.returns-in-Done-clause-ok
returns-in-Done-clause-ok g c =
    none-begun (pair_of c.args.first.now.value) (pair_of c.args.second.now.value) c.in_ok-sources.sources c.turn.new.self
    (begun-from c.in_ok-sources.sources c.args.first.now.value.source c.args.second.now.value.source c.behind-first.inside.source.value.facts c.behind-second.inside.source.value.facts c.new.result
    (ap (λ x. x.source) (c.behind-first.view_is ∙ c.deref.ensures)) (ap (λ x. x.source) (c.behind-second.view_is ∙ c.deref-2.ensures)) c.new.ensures
    (ap (λ p. p.source) c.in_ok-sources.ensures) (ap (λ p. p.target) c.in_ok-sources.ensures) (ap (λ p. p.to_come) c.in_ok-sources.ensures) (ap (λ p. p.tries) c.in_ok-sources.ensures))
    (c.in-Done.ensures.not_found (λ e. let z : ⊥ = cc in z)).1 (c.in-Done.ensures.done refl).0

pub returns-in-Done-clause-extends : goal.returns-in-Done-clause-extends
returns-in-Done-clause-extends g c =
    λ _. first-extends (pair_of c.args.first.now.value) (pair_of c.args.second.now.value) c.in_ok-sources.sources c.turn.new.self
    (begun-from c.in_ok-sources.sources c.args.first.now.value.source c.args.second.now.value.source c.behind-first.inside.source.value.facts c.behind-second.inside.source.value.facts c.new.result
    (ap (λ x. x.source) (c.behind-first.view_is ∙ c.deref.ensures)) (ap (λ x. x.source) (c.behind-second.view_is ∙ c.deref-2.ensures)) c.new.ensures
    (ap (λ p. p.source) c.in_ok-sources.ensures) (ap (λ p. p.target) c.in_ok-sources.ensures) (ap (λ p. p.to_come) c.in_ok-sources.ensures) (ap (λ p. p.tries) c.in_ok-sources.ensures)) c.args.fuel.now c.turn.new.fuel c.turn.ensures.tries c.turn.ensures.used (c.in-Done.ensures.done refl).1

pub returns-in-Done-clause-spent : goal.returns-in-Done-clause-spent
returns-in-Done-clause-spent g c = λ e. absurd (let z : ⊥ = cc in z)

pub returns-in-Done-clause-at_most : goal.returns-in-Done-clause-at_most
returns-in-Done-clause-at_most g c =
    first-at_most (pair_of c.args.first.now.value) (pair_of c.args.second.now.value) c.in_ok-sources.sources c.turn.new.self
    (begun-from c.in_ok-sources.sources c.args.first.now.value.source c.args.second.now.value.source c.behind-first.inside.source.value.facts c.behind-second.inside.source.value.facts c.new.result
    (ap (λ x. x.source) (c.behind-first.view_is ∙ c.deref.ensures)) (ap (λ x. x.source) (c.behind-second.view_is ∙ c.deref-2.ensures)) c.new.ensures
    (ap (λ p. p.source) c.in_ok-sources.ensures) (ap (λ p. p.target) c.in_ok-sources.ensures) (ap (λ p. p.to_come) c.in_ok-sources.ensures) (ap (λ p. p.tries) c.in_ok-sources.ensures)) c.args.fuel.now c.turn.new.fuel c.turn.ensures.tries c.turn.ensures.used

pub returns-in-Done-clause-used : goal.returns-in-Done-clause-used
returns-in-Done-clause-used g c = c.turn.ensures.used

pub returns-in-Done-clause-limit : goal.returns-in-Done-clause-limit
returns-in-Done-clause-limit g c = c.turn.ensures.limit

pub returns-in-Done-clause-steps : goal.returns-in-Done-clause-steps
returns-in-Done-clause-steps g c = c.turn.ensures.steps

pub returns-in-Spent-clause-extends : goal.returns-in-Spent-clause-extends
returns-in-Spent-clause-extends g c = λ e. absurd (let z : ⊥ = cc in z)

pub returns-in-Spent-clause-spent : goal.returns-in-Spent-clause-spent
returns-in-Spent-clause-spent g c =
    λ _. first-spent (pair_of c.args.first.now.value) (pair_of c.args.second.now.value) c.in_ok-sources.sources c.turn.new.self
    (begun-from c.in_ok-sources.sources c.args.first.now.value.source c.args.second.now.value.source c.behind-first.inside.source.value.facts c.behind-second.inside.source.value.facts c.new.result
    (ap (λ x. x.source) (c.behind-first.view_is ∙ c.deref.ensures)) (ap (λ x. x.source) (c.behind-second.view_is ∙ c.deref-2.ensures)) c.new.ensures
    (ap (λ p. p.source) c.in_ok-sources.ensures) (ap (λ p. p.target) c.in_ok-sources.ensures) (ap (λ p. p.to_come) c.in_ok-sources.ensures) (ap (λ p. p.tries) c.in_ok-sources.ensures)) c.args.fuel.now c.turn.new.fuel c.turn.ensures.tries c.turn.ensures.used c.turn.ensures.limit (c.in-Spent.ensures.spent refl)

pub returns-in-Spent-clause-at_most : goal.returns-in-Spent-clause-at_most
returns-in-Spent-clause-at_most g c =
    first-at_most (pair_of c.args.first.now.value) (pair_of c.args.second.now.value) c.in_ok-sources.sources c.turn.new.self
    (begun-from c.in_ok-sources.sources c.args.first.now.value.source c.args.second.now.value.source c.behind-first.inside.source.value.facts c.behind-second.inside.source.value.facts c.new.result
    (ap (λ x. x.source) (c.behind-first.view_is ∙ c.deref.ensures)) (ap (λ x. x.source) (c.behind-second.view_is ∙ c.deref-2.ensures)) c.new.ensures
    (ap (λ p. p.source) c.in_ok-sources.ensures) (ap (λ p. p.target) c.in_ok-sources.ensures) (ap (λ p. p.to_come) c.in_ok-sources.ensures) (ap (λ p. p.tries) c.in_ok-sources.ensures)) c.args.fuel.now c.turn.new.fuel c.turn.ensures.tries c.turn.ensures.used

pub returns-in-Spent-clause-used : goal.returns-in-Spent-clause-used
returns-in-Spent-clause-used g c = c.turn.ensures.used

pub returns-in-Spent-clause-limit : goal.returns-in-Spent-clause-limit
returns-in-Spent-clause-limit g c = c.turn.ensures.limit

pub returns-in-Spent-clause-steps : goal.returns-in-Spent-clause-steps
returns-in-Spent-clause-steps g c = c.turn.ensures.steps
