use Rattle.std.proofs.Common.{◌+◌, ◌≤◌, length, arith, true, false}
use Rattle.eir_hom.proofs.RowLaws.{scanning-more, scanned-at, scanned-none, scanned-single, tried-part}
use Rattle.eir_hom.proofs.rows.scan_rows.Goals as goal

pub returns-then-not-columns-clause-scanned : goal.returns-then-not-columns-clause-scanned
returns-then-not-columns-clause-scanned c = λ m r.
    let within : c.args.first + c.args.to ≤ length c.args.cells.now = omega (arith, rw c.if-stride-eq1.true at c.requires.cells) in
    scanned-single m _ _ _ _ _ _ _ _ c.if-stride-eq1.true c.if-not-columns.true within c.find_number.ensures.from c.find_number.ensures.to c.find_number.ensures.other c.find_number.ensures.same r

pub returns-then-bind_row-clause-scanned : goal.returns-then-bind_row-clause-scanned
returns-then-bind_row-clause-scanned c = λ m r.
    let s = c.loop-choice.invariant.scanning m r in
    let t = rw c.if-bind_row.true at (c.bind_row.ensures.tried m s.ready) in
    scanned-at m _ _ _ _ _ c.loop-choice.images _ c.loop-choice-test.true (tried-part m _ c.args.cells.now c.args.first (length c.args.columns.now) c.loop-choice.choice _ true t) s

pub loop-choice-preserved : goal.loop-choice-preserved
loop-choice-preserved c = record {
  numbers = omega (arith, c.bind_row.ensures.length);
  scanning = λ m r.
      (let s = c.loop-choice.invariant.scanning m r in
      let t = rw c.if-bind_row.false at (c.bind_row.ensures.tried m s.ready) in
      scanning-more m _ _ _ _ c.loop-choice.images _ (tried-part m _ c.args.cells.now c.args.first (length c.args.columns.now) c.loop-choice.choice _ false t) s);
}

pub returns-clause-scanned : goal.returns-clause-scanned
returns-clause-scanned c = λ m r. scanned-none m _ _ _ _ c.loop-choice.choice _ (omega arith) (c.loop-choice.invariant.scanning m r)
