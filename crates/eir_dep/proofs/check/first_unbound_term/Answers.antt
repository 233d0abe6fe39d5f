use Rattle.std.proofs.Common.{[], ◌++◌, sym, subst}
use Rattle.std.proofs.lemmas.List.{take_all}
use Rattle.eir_term.specs.declared.term.Term.TheVariants.{Var}
use Rattle.eir_term.specs.Lists.{◌∈◌}
use Rattle.eir_term.specs.Dependencies.{term_vars, vars}
use Rattle.eir_dep.specs.Refusals.{dependency}
use Rattle.eir_dep.proofs.MarkLaws.{no-from}
use Rattle.eir_dep.proofs.FirstLaws.{IsFirst-term, IsUnbound-from_absent, bound-fixed, bound-variable}
use Rattle.eir_dep.proofs.check.first_unbound_term.Goals as goal

pub returns-then-not-has-clause-unbound : goal.returns-then-not-has-clause-unbound
returns-then-not-has-clause-unbound c =
    let d = dependency c.args.premise.now c.args.exists.now [] in
    IsFirst-term d c.args.terms.now c.loop-term.term-index (Var 0) c.in-Var.v c.loop-term-test.true c.in-Var.is c.loop-term.invariant (IsUnbound-from_absent d c.in-Var.v (no-from c.has.result c.has.ensures c.if-not-has.true))

pub loop-term-preserved-in_default : goal.loop-term-preserved-in_default
loop-term-preserved-in_default c = bound-fixed (vars c.args.premise.now ++ c.args.exists.now) c.args.terms.now c.loop-term.term-index (Var 0) c.loop-term-test.true c.in_default.not-Var c.loop-term.invariant

pub loop-term-preserved : goal.loop-term-preserved
loop-term-preserved c =
    bound-variable (vars c.args.premise.now ++ c.args.exists.now) c.args.terms.now c.loop-term.term-index (Var 0) c.in-Var.v c.loop-term-test.true c.in-Var.is (c.has.ensures.0 c.if-not-has.false) c.loop-term.invariant

pub returns-clause-bound : goal.returns-clause-bound
returns-clause-bound c e x h = c.loop-term.invariant x (subst (λ ts. x ∈ term_vars ts) (sym (take_all c.loop-term.term-index c.args.terms.now c.loop-term-test.false)) h)
