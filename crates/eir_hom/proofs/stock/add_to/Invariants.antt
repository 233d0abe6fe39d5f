use Rattle.std.proofs.Common.{◌≡◌, ◌-◌, suc, length}
use Rattle.eir_hom.specs.Stocks.{IsStocked}
use Rattle.eir_hom.proofs.stock.add_to.Given as goal

abbrev pub invariant-loop-course : goal.invariant-loop-course
invariant-loop-course l = record {
  stocked : IsStocked l.a.facts l.b.facts l.initial.course.shapes l.tables;
  source : l.course.source ≡ l.initial.course.source;
  shapes : l.course.shapes ≡ l.initial.course.shapes;
  cells : l.tables.cells ≡ l.initial.tables.cells;
}

abbrev pub decreases-loop-course : goal.decreases-loop-course
decreases-loop-course l = suc l.last - length l.tables.tables
