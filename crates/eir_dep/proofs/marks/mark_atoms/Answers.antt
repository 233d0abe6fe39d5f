use Rattle.std.proofs.Common.{◌++◌, take, subst}
use Rattle.std.proofs.lemmas.List.{take_all}
use Rattle.eir_term.specs.Dependencies.{vars}
use Rattle.eir_dep.specs.Marks.{AreMarks}
use Rattle.eir_dep.proofs.MarkLaws.{AreMarks-atom}
use Rattle.eir_dep.proofs.marks.mark_atoms.Goals as goal

pub loop-atom-preserved : goal.loop-atom-preserved
loop-atom-preserved c xs m =
    AreMarks-atom _ xs c.args.atoms.now c.loop-atom.atom-index c.atom-item.result c.as_slice.result.now c.loop-atom-test.true c.atom-item.is c.as_slice.ensures
    (c.mark_terms.ensures (xs ++ vars (take c.loop-atom.atom-index c.args.atoms.now)) (c.loop-atom.invariant xs m))

pub returns : goal.returns
returns c xs m = subst (λ bs. AreMarks c.loop-atom.marks (xs ++ vars bs)) (take_all c.loop-atom.atom-index c.args.atoms.now c.loop-atom-test.false) (c.loop-atom.invariant xs m)
