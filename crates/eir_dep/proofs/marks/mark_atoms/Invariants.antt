use Rattle.std.proofs.Common.{ℕ, List, ◌++◌, take}
use Rattle.eir_term.specs.Dependencies.{vars}
use Rattle.eir_dep.specs.Marks.{AreMarks}
use Rattle.eir_dep.proofs.marks.mark_atoms.Given as goal

abbrev pub invariant-loop-atom : goal.invariant-loop-atom
invariant-loop-atom l = (xs : List ℕ) → AreMarks l.fn.marks xs → AreMarks l.marks (xs ++ vars (take l.atom-index l.atoms))
