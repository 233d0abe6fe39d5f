use Rattle.std.proofs.Common.{inl, inr, refl}
use Rattle.eir_term.specs.declared.term.Term.TheVariants.{Var}
use Rattle.eir_dep.proofs.MarkLaws.{∈-term_item, ∈-term_vars_cases, no-from}
use Rattle.eir_dep.proofs.marks.is_among.Goals as goal

pub returns-then-is_variable : goal.returns-then-is_variable
returns-then-is_variable c =
    (λ t. ∈-term_item c.args.v c.args.terms.now c.loop-term.term-index (Var 0) c.loop-term-test.true (c.is_variable.ensures.0 c.if-is_variable.true), λ h. refl)

pub loop-term-preserved : goal.loop-term-preserved
loop-term-preserved c h = elim (∈-term_vars_cases c.args.v c.args.terms.now c.loop-term.term-index (Var 0) c.loop-term-test.true h)
    [ inl k ↦ c.loop-term.invariant k | inr k ↦ no-from c.is_variable.result c.is_variable.ensures c.if-is_variable.false k ]
