use Rattle.std.proofs.Common.{ℕ, Bool, get_or, subst, arith}
use Rattle.eir_term.specs.Lists.{◌∈◌}
use Rattle.eir_hom.specs.FactRows.{numbers_at}
use Rattle.eir_hom.specs.Fits.{are_fits, fits_row}
use Rattle.eir_hom.proofs.TableLaws.{∈-at, numbers-read}
use Rattle.eir_hom.proofs.StockLaws.{numbers-under, gathered-room, under-below}
use Rattle.eir_hom.proofs.stock.gather.Goals as goal

pub numbers_at-requires : goal.numbers_at-requires
numbers_at-requires c =
    let ps = c.places_under-place-items.result.now in
    let p = get_or ps c.loop-place.place-index 0 in
    under-below c.args.b.now.facts c.rel_at.result c.args.shape.column c.args.key p (subst (λ xs. p ∈ xs) c.places_under-place-items.ensures (∈-at ps c.loop-place.place-index 0 c.loop-place-test.true))

pub pass-requires-clause-from : goal.pass-requires-clause-from
pass-requires-clause-from c =
    let A = c.args.a.now.facts in
    rw (numbers-read A c.args.shape.place c.numbers_at-row.result.now c.numbers_at-row.ensures) (numbers-under A c.args.shape.place)

pub pass-requires-clause-to : goal.pass-requires-clause-to
pass-requires-clause-to c =
    let B = c.args.b.now.facts in
    let p = get_or c.places_under-place-items.result.now c.loop-place.place-index 0 in
    rw (numbers-read B p c.numbers_at.result.now c.numbers_at.ensures) (numbers-under B p)

pub returns-in_err-push-clause-room : goal.returns-in_err-push-clause-room
returns-in_err-push-clause-room c = λ h.
    let A = c.args.a.now.facts in
    let B = c.args.b.now.facts in
    let t : ℕ → Bool = λ p. fits_row (are_fits A B) c.numbers_at-row.result.now (numbers_at B p) in
    let room = gathered-room t B c.rel_at.result c.args.shape.column c.args.key c.places_under-place-items.result.now c.loop-place.places.items c.loop-place.place-index c.places_under-place-items.ensures c.loop-place-test.true c.loop-place.invariant.gathered in
    absurd (omega (arith, h, room, c.loop-place.invariant.capacity, c.in_err-push.ensures.full, c.loop-place.places.ok.0))
