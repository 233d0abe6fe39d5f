use Rattle.std.proofs.Common.{◌≡◌, length}
use Rattle.eir_hom.specs.Matching.{Bindings}
use Rattle.eir_hom.specs.Columns.{AreReady}
use Rattle.eir_hom.proofs.RowLaws.{Reached}
use Rattle.eir_hom.proofs.rows.bind_row.Given as goal

abbrev pub invariant-loop-i : goal.invariant-loop-i
invariant-loop-i l = record {
  cells : length l.images ≡ length l.fn.images;
  reached : (m : Bindings) → AreReady m l.columns l.fn.images → Reached m l.columns l.row l.i l.images;
}
