use Rattle.std.proofs.Common.{[], ◌∷◌, ◌++◌, take, sym, subst, ap}
use Rattle.std.proofs.lemmas.List.{append-nil, take_all}
use Rattle.eir_term.specs.declared.term.Term.{Term}
use Rattle.eir_term.specs.declared.term.Term.TheVariants.{Var}
use Rattle.eir_term.specs.Dependencies.{term_vars}
use Rattle.eir_dep.specs.Marks.{AreMarks}
use Rattle.eir_dep.proofs.MarkLaws.{AreMarks-term, term_vars-fixed}
use Rattle.eir_dep.proofs.marks.mark_terms.Goals as goal
use Rattle.eir_dep.proofs.marks.mark_terms.Goals.{in-Var, in_default}

pub loop-term-preserved : goal.loop-term-preserved
loop-term-preserved c = elim c.match-term.branch [
  | in-Var w ↦ (λ xs m. AreMarks-term c.match-term.marks xs c.args.terms.now c.loop-term.term-index (Var 0) (w.in-Var.v ∷ []) c.loop-term-test.true (ap (λ (t : Term). term_vars (t ∷ [])) w.in-Var.is)
      (subst (λ ms. AreMarks ms ((xs ++ term_vars (take c.loop-term.term-index c.args.terms.now)) ++ w.in-Var.v ∷ [])) (sym w.marks-is) (w.mark.ensures (xs ++ term_vars (take c.loop-term.term-index c.args.terms.now)) (c.loop-term.invariant xs m))))
  | in_default w ↦ (λ xs m. AreMarks-term c.match-term.marks xs c.args.terms.now c.loop-term.term-index (Var 0) [] c.loop-term-test.true (term_vars-fixed _ w.in_default.not-Var)
      (subst (λ ms. AreMarks ms ((xs ++ term_vars (take c.loop-term.term-index c.args.terms.now)) ++ [])) (sym w.marks-is)
      (subst (λ ys. AreMarks c.loop-term.marks ys) (sym (append-nil (xs ++ term_vars (take c.loop-term.term-index c.args.terms.now)))) (c.loop-term.invariant xs m))))
]

pub returns : goal.returns
returns c xs m = subst (λ ts. AreMarks c.loop-term.marks (xs ++ term_vars ts)) (take_all c.loop-term.term-index c.args.terms.now c.loop-term-test.false) (c.loop-term.invariant xs m)
