use Rattle.std.proofs.Common.{◌++◌, take}
use Rattle.eir_term.specs.Dependencies.{vars}
use Rattle.eir_dep.specs.Refusals.{dependency}
use Rattle.eir_dep.specs.Marks.{AreMarks, AreListable}
use Rattle.eir_dep.proofs.check.first_bad.Given as goal

abbrev pub invariant-loop-place : goal.invariant-loop-place
invariant-loop-place l = AreMarks l.bound (vars l.premise ++ take l.place l.exists) × AreListable (dependency l.premise l.exists l.conclusion) (take l.place l.exists)
