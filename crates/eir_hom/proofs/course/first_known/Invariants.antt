use Rattle.std.proofs.Common.{◌≡◌, drop}
use Rattle.eir_hom.specs.Compiling.{first_set}
use Rattle.eir_hom.proofs.course.first_known.Given as goal

abbrev pub invariant-loop-column : goal.invariant-loop-column
invariant-loop-column l = first_set l.known 0 l.numbers ≡ first_set l.known l.column (drop l.column l.numbers)
