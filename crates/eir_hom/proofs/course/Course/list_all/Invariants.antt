use Rattle.std.proofs.Common.{◌≡◌, ◌≤◌, length}
use Rattle.eir_hom.proofs.course.Course.list_all.Given as goal

abbrev pub invariant-loop : goal.invariant-loop
invariant-loop g l = record {
  listed : l.self ≡ record l.initial.self { listed = l.counter };
  within : l.counter ≤ length l.initial.self.shapes;
}
