use Rattle.std.proofs.Common.{length, ap, map, take, length-append, arith}
use Rattle.std.proofs.lemmas.List.{length-map, length-take-le}
use Rattle.eir_hom.specs.Columns.{unmarked}
use Rattle.eir_hom.proofs.matching.append_columns.Goals as goal

pub returns-in_err-push-clause-room : goal.returns-in_err-push-clause-room
returns-in_err-push-clause-room c = λ h.
    let i = c.loop-slot.slot-index in
    let slots = c.args.slots.now in
    absurd (omega (arith, h, c.loop-slot.invariant.capacity, ap length c.loop-slot.invariant.items, length-append c.args.columns.now.items (map unmarked (take i slots)), length-map (take i slots) unmarked, length-take-le i slots (omega (arith, c.loop-slot-test.true)), c.in_err-push.ensures.full, c.loop-slot.columns.ok.0, c.loop-slot-test.true))
