use Rattle.std.proofs.Common.{sym, subst, ap, get_or, length, arith}
use Rattle.eir_hom.specs.FactRows.{Within, row_at}
use Rattle.std.proofs.lemmas.Bool.{false≢true}
use Rattle.eir_hom.proofs.TableLaws.{numbers-read, ∈-at, row-left}
use Rattle.eir_hom.specs.Levels.{but_at}
use Rattle.eir_hom.proofs.tables.push_rows.Goals as goal

pub numbers_at-requires : goal.numbers_at-requires
numbers_at-requires c =
    (c.requires (get_or c.args.places.now c.loop-place.place-index 0) (∈-at c.args.places.now c.loop-place.place-index 0 c.loop-place-test.true)).0

pub push_row-requires : goal.push_row-requires
push_row-requires c =
    let p = get_or c.args.places.now c.loop-place.place-index 0 in
    subst (Within c.args.column) (sym (numbers-read c.args.b.now.facts p c.numbers_at.result.now c.numbers_at.ensures)) (c.requires p (∈-at c.args.places.now c.loop-place.place-index 0 c.loop-place-test.true)).1

pub returns-in_err-push_row-clause-room : goal.returns-in_err-push_row-clause-room
returns-in_err-push_row-clause-room c = λ h.
    let row = row_at c.args.b.now.facts c.args.column in
    let p = get_or c.args.places.now c.loop-place.place-index 0 in
    let same = ap (λ ns. length (but_at c.args.column ns)) (numbers-read c.args.b.now.facts p c.numbers_at.result.now c.numbers_at.ensures) in
    let left = row-left row c.args.cells.now.items c.loop-place.cells.items c.args.places.now c.loop-place.place-index c.loop-place.invariant.0 c.loop-place-test.true in
    absurd (false≢true (c.in_err-push_row.ensures.room (omega (arith, h, same, left, c.loop-place.invariant.1))))
