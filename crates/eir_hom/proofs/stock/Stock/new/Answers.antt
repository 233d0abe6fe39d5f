use Rattle.std.proofs.Common.{◌*◌, ◌+◌, ℕ, ◌≤◌, length, vec_capacity, ap, ap₂, ◌∙◌, arith}
use Rattle.eir_term.specs.Instances.{values}
use Rattle.eir_hom.specs.Occurring.{columns_of}
use Rattle.eir_hom.specs.Stocks.{IsStocked}
use Rattle.eir_hom.proofs.RoomLaws.{cells-room, ranges-room}
use Rattle.eir_hom.proofs.LaidLaws.{nothing-laid}
use Rattle.eir_hom.proofs.stock.Stock.new.Goals as goal

pub invariant_of-result : goal.invariant_of-result
invariant_of-result c =
    let A = c.args.a.now.value.facts in
    let B = c.args.b.now.value.facts in
    let cells = c.in_ok-cells.ensures ∙ ap₂ (λ (x y : ℕ). x * y) (c.len.ensures ∙ ap (λ i. length i.facts) c.deref.ensures) (c.column_count.ensures ∙ ap (λ K. length (columns_of K)) c.requires.source) in
    let ranges = c.in_ok-ranges.ensures ∙ ap₂ (λ (x y : ℕ). x * (y + 1)) (c.len-2.ensures ∙ ap (λ i. length i.facts) c.deref-2.ensures) (ap length c.values.ensures.values ∙ ap (λ i. length (values i.facts)) c.deref-3.ensures) in
    let enough = cells-room A B c.args.course.shapes c.requires.columns in
    let ample = ranges-room A B c.args.course.shapes c.requires.facts in
    let stocked : IsStocked c.args.a.now.value.facts c.args.b.now.value.facts c.args.course.shapes c.in_ok-tables.tables =
    nothing-laid A B c.args.course.shapes c.in_ok-tables.tables c.in_ok-cells.cells c.in_ok-ranges.ranges c.len-3.result c.requires.shapes c.in_ok-tables.ensures
    (omega (arith, cells, enough)) (omega (arith, ranges, ample)) (omega (arith, c.requires.facts, c.len-3.ensures, ap (λ i. length i.facts) c.deref-4.ensures)) in
    let room : length c.args.b.now.value.facts ≤ vec_capacity c.in_ok-places.places = omega (arith, c.in_ok-places.ensures.capacity, c.len-4.ensures, ap (λ i. length i.facts) c.deref-5.ensures) in
    rw (c.in_ok-source.ensures.cases, c.in_ok-target.ensures.cases) (c.requires.source, c.requires.fits, room, stocked)
