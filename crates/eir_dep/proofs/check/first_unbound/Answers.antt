use Rattle.std.proofs.Common.{inl, inr, sym, subst}
use Rattle.std.proofs.lemmas.List.{take_all}
use Rattle.eir_term.specs.Lists.{◌∈◌}
use Rattle.eir_term.specs.Dependencies.{term_vars, vars}
use Rattle.eir_dep.specs.Refusals.{dependency}
use Rattle.eir_dep.proofs.MarkLaws.{∈-vars_cases}
use Rattle.eir_dep.proofs.FirstLaws.{IsFirst-atom, none-from}
use Rattle.eir_dep.proofs.check.first_unbound.Goals as goal

pub returns-in-Some-clause-unbound : goal.returns-in-Some-clause-unbound
returns-in-Some-clause-unbound c =
    let d = dependency c.args.premise.now c.args.exists.now c.args.conclusion.now in
    IsFirst-atom d c.args.conclusion.now c.loop-atom.atom-index c.atom-item.result c.as_slice.result.now c.in-Some.v c.loop-atom-test.true c.atom-item.is c.as_slice.ensures c.loop-atom.invariant c.in-Some.ensures.unbound

pub loop-atom-preserved : goal.loop-atom-preserved
loop-atom-preserved c x h = elim (∈-vars_cases x c.args.conclusion.now c.loop-atom.atom-index c.atom-item.result c.loop-atom-test.true c.atom-item.is h) [
  | inl k ↦ c.loop-atom.invariant x k
  | inr k ↦ c.first_unbound_term.ensures.bound (none-from c.first_unbound_term.result c.in_default.not-Some) x (subst (λ ts. x ∈ term_vars ts) (sym c.as_slice.ensures) k)
]

pub returns-clause-bound : goal.returns-clause-bound
returns-clause-bound c e x h = c.loop-atom.invariant x (subst (λ bs. x ∈ vars bs) (sym (take_all c.loop-atom.atom-index c.args.conclusion.now c.loop-atom-test.false)) h)
