use Rattle.std.proofs.Common.{ℕ, List, ◌++◌, take}
use Rattle.eir_term.specs.Dependencies.{term_vars}
use Rattle.eir_dep.specs.Marks.{AreMarks}
use Rattle.eir_dep.proofs.marks.mark_terms.Given as goal

abbrev pub invariant-loop-term : goal.invariant-loop-term
invariant-loop-term l = (xs : List ℕ) → AreMarks l.fn.marks xs → AreMarks l.marks (xs ++ term_vars (take l.term-index l.terms))
