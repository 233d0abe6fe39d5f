use Rattle.std.proofs.Common.{◌<◌, length, get_or, false, rules, ◌∙◌}
use Rattle.eir_hom.proofs.ColumnLaws.{slot-below}
use Rattle.eir_hom.proofs.RowLaws.{reached-new, reached-same, tried-other, tried-all}
use Rattle.eir_hom.proofs.rows.bind_row.Goals as goal
use Rattle.eir_hom.proofs.rows.bind_row.Goals.{then-column, else-column+else-images-column}

pub offset_bounds-images-column : goal.offset_bounds-images-column
offset_bounds-images-column c =
    let below : (get_or c.args.columns.now c.loop-i.i (record { slot = 0; is_new = false })).slot < length c.loop-i.images = rw c.loop-i.invariant.cells (slot-below _ _ _ _ c.requires.slots c.loop-i-test.true) in
    search rules

pub bounds-images-column : goal.bounds-images-column
bounds-images-column c = rw c.loop-i.invariant.cells (slot-below _ _ _ _ c.requires.slots c.loop-i-test.true)

pub offset_bounds-images-column-else-column : goal.offset_bounds-images-column-else-column
offset_bounds-images-column-else-column c =
    let below : (get_or c.args.columns.now c.loop-i.i (record { slot = 0; is_new = false })).slot < length c.loop-i.images = rw c.loop-i.invariant.cells (slot-below _ _ _ _ c.requires.slots c.loop-i-test.true) in
    search rules

pub bounds-images-column-else-column : goal.bounds-images-column-else-column
bounds-images-column-else-column c = rw c.loop-i.invariant.cells (slot-below _ _ _ _ c.requires.slots c.loop-i-test.true)

pub returns-then-images-column-clause-tried : goal.returns-then-images-column-clause-tried
returns-then-images-column-clause-tried c = λ m r.
    tried-other m _ _ _ _ c.loop-i.images c.loop-i-test.true c.requires.same c.if-column.false c.if-images-column.true (c.loop-i.invariant.reached m r)

pub loop-i-preserved : goal.loop-i-preserved
loop-i-preserved c =
    elim c.if-column.branch [
      | then-column w ↦ record {
        cells = c.if-column.auto.images ∙ c.loop-i.invariant.cells;
        reached = λ m r. rw w.images-is
            (reached-new m _ _ _ _ c.loop-i.images c.loop-i-test.true c.requires.same (rw c.loop-i.invariant.cells (slot-below _ _ _ _ c.requires.slots c.loop-i-test.true)) w.if-column.true (c.loop-i.invariant.reached m r));
      }
      | else-column+else-images-column w ↦ record {
        cells = c.if-column.auto.images ∙ c.loop-i.invariant.cells;
        reached = λ m r. rw w.images-is (reached-same m _ _ _ _ c.loop-i.images c.loop-i-test.true c.requires.same w.if-column.false w.if-images-column.false (c.loop-i.invariant.reached m r));
      }
    ]

pub returns-clause-tried : goal.returns-clause-tried
returns-clause-tried c = λ m r. tried-all m _ _ _ _ c.loop-i-test.false c.requires.same (c.loop-i.invariant.reached m r)
