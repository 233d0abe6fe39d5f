use Rattle.std.proofs.Common.{nat_eq, [], ◌∷◌, refl, sym, ap, ◌∙◌}
use Rattle.eir_term.specs.declared.term.Term.{Term}
use Rattle.eir_term.specs.declared.term.Term.TheVariants.{Var}
use Rattle.eir_term.specs.Dependencies.{term_vars}
use Rattle.eir_print.proofs.ValueLaws.{inserted-more}
use Rattle.eir_print.proofs.NumberLaws.{term_vars-first, term_vars-fixed}
use Rattle.eir_print.proofs.numbered.insert_variables.Goals as goal
use Rattle.eir_print.proofs.numbered.insert_variables.Goals.{in-Var+in_ok-insert, in_default}

pub loop-term-preserved : goal.loop-term-preserved
loop-term-preserved c = elim c.match-term.branch [
  | in-Var+in_ok-insert w ↦
      inserted-more nat_eq (λ (t : Term). term_vars (t ∷ [])) term_vars term_vars-first c.loop-term.found.keys c.match-term.found.keys (w.in-Var.variable ∷ []) c.args.terms.now c.loop-term.term-index (Var 0) _ _ c.loop-term-test.true refl
      (sym (ap (λ (t : Term). term_vars (t ∷ [])) w.in-Var.is)) (ap (λ s. s.keys) w.found-is ∙ w.in_ok-insert.ensures.keys) c.loop-term.invariant
  | in_default w ↦
      inserted-more nat_eq (λ (t : Term). term_vars (t ∷ [])) term_vars term_vars-first c.loop-term.found.keys c.match-term.found.keys [] c.args.terms.now c.loop-term.term-index (Var 0) _ _ c.loop-term-test.true refl
      (sym (term_vars-fixed _ w.in_default.not-Var)) (ap (λ s. s.keys) w.found-is) c.loop-term.invariant
]
