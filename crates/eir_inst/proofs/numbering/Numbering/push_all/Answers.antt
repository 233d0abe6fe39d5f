use Rattle.std.proofs.Common.{◌≡◌, arith, length}
use Rattle.eir_inst.proofs.ValueLaws.{row-below}
use Rattle.eir_inst.proofs.numbering.Numbering.push_all.Goals as goal

pub push_marks-requires-clause-numbered : goal.push_marks-requires-clause-numbered
push_marks-requires-clause-numbered c =
    let e = c.len-place.ensures in
    let p : c.len-place.result ≡ length c.args.self.now.rows.items = omega arith in
    row-below c.args.self.now.values.keys c.number_all.new.values.keys c.as_slice.result.now c.args.self.now.rows.items c.push.new.self.items c.in_ok-row.row c.index.result.now c.as_slice-2.result.now c.len-place.result c.len-count.result
    p c.in_ok-push.ensures.items c.index.ensures c.as_slice-2.ensures c.in_ok-row.ensures.row c.in_ok-row.ensures.values c.len-count.ensures.len
