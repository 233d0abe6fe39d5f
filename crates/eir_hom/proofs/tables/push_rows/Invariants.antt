use Rattle.std.proofs.Common.{◌≡◌, ◌≤◌, ◌++◌, take, vec_capacity}
use Rattle.std.specs.List.{flat_map}
use Rattle.eir_hom.specs.FactRows.{row_at}
use Rattle.eir_hom.proofs.tables.push_rows.Given as goal

abbrev pub invariant-loop-place : goal.invariant-loop-place
invariant-loop-place l =
    (l.cells.items ≡ l.initial.cells.items ++ flat_map (row_at l.b.facts l.column) (take l.place-index l.places)) × (vec_capacity l.initial.cells ≤ vec_capacity l.cells)
