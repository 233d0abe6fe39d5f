use Rattle.std.proofs.Common.{◌≡◌, length}
use Rattle.eir_hom.specs.Matching.{Bindings}
use Rattle.eir_hom.specs.Columns.{AreReady, row_at}
use Rattle.eir_hom.proofs.RowLaws.{Scanning}
use Rattle.eir_hom.proofs.rows.scan_rows.Given as goal

abbrev pub invariant-loop-choice : goal.invariant-loop-choice
invariant-loop-choice l = record {
  numbers : length l.images ≡ length l.fn.images;
  scanning : (m : Bindings) → AreReady m l.columns l.fn.images → Scanning m l.columns (row_at l.cells l.first (length l.columns)) l.from l.choice l.images;
}
