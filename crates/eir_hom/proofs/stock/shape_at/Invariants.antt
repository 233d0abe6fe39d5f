use Rattle.std.proofs.Common.{◌≡◌, ◌-◌, length}
use Rattle.eir_hom.proofs.stock.shape_at.Given as goal

abbrev pub invariant-loop-course : goal.invariant-loop-course
invariant-loop-course l = record {
  source : l.course.source ≡ l.initial.course.source;
  shapes : l.course.shapes ≡ l.initial.course.shapes;
}

abbrev pub decreases-loop-course : goal.decreases-loop-course
decreases-loop-course l = length l.course.shapes - l.course.listed
