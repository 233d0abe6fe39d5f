use Rattle.std.proofs.Common.{◌≡◌, ◌≤◌, ◌++◌, map, take, vec_capacity}
use Rattle.eir_hom.specs.Columns.{unmarked}
use Rattle.eir_hom.proofs.matching.append_columns.Given as goal

abbrev pub invariant-loop-slot : goal.invariant-loop-slot
invariant-loop-slot l = record {
  items : l.columns.items ≡ l.initial.columns.items ++ map unmarked (take l.slot-index l.slots);
  capacity : vec_capacity l.initial.columns ≤ vec_capacity l.columns;
}
