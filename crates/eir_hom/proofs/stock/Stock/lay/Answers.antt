use Rattle.std.proofs.Common.{◌≡◌, [], Some, None, get_or, slice_get, ap, sym, refl, ◌∙◌, arith}
use Rattle.eir_hom.specs.Fits.{are_fits}
use Rattle.eir_hom.specs.Tables.{laid_at}
use Rattle.eir_hom.specs.Stocks.{IsStocked, may_be_at}
use Rattle.eir_hom.proofs.LaidLaws.{answer, asked, is_shape, its_rows, room-cells, rows-there, stocked-laid}
use Rattle.eir_hom.proofs.stock.Stock.lay.Goals as goal

pub returns-in-Some-clause-rows : goal.returns-in-Some-clause-rows
returns-in-Some-clause-rows c =
    let so : IsStocked c.self.inside.source.value.facts c.self.inside.target.value.facts c.self.inside.course.shapes c.add_to.new.tables = rw (c.deref.ensures, c.deref-2.ensures) at c.add_to.ensures.stocked in
    let seen = ap (λ v. v.tables) c.self.view_is in
    (asked _ _ _ _ so c.args.table c.add_to.ensures.last c.args.self.now.tables c.add_to.new.tables.cells c.args.key c.in-Some.range _ seen refl (its_rows _ _ _ _ so c.args.table c.add_to.ensures.last c.args.key _ c.in-Some.ensures.rows) c.in-Some.ensures.within).0

pub returns-in-Some-clause-within : goal.returns-in-Some-clause-within
returns-in-Some-clause-within c =
    let so : IsStocked c.self.inside.source.value.facts c.self.inside.target.value.facts c.self.inside.course.shapes c.add_to.new.tables = rw (c.deref.ensures, c.deref-2.ensures) at c.add_to.ensures.stocked in
    let seen = ap (λ v. v.tables) c.self.view_is in
    (asked _ _ _ _ so c.args.table c.add_to.ensures.last c.args.self.now.tables c.add_to.new.tables.cells c.args.key c.in-Some.range _ seen refl (its_rows _ _ _ _ so c.args.table c.add_to.ensures.last c.args.key _ c.in-Some.ensures.rows) c.in-Some.ensures.within).1

pub gather-requires-clause-shape : goal.gather-requires-clause-shape
gather-requires-clause-shape c =
    let so : IsStocked c.self.inside.source.value.facts c.self.inside.target.value.facts c.self.inside.course.shapes c.add_to.new.tables = rw (c.deref.ensures, c.deref-2.ensures) at c.add_to.ensures.stocked in
    let s = c.shape_at-shape.result in
    let at : Some s ≡ slice_get c.self.inside.course.shapes c.args.table = c.shape_at-shape.ensures.shape ∙ ap (λ ss. slice_get ss c.args.table) c.add_to.ensures.shapes in
    let none : get_or (laid_at c.add_to.new.tables.tables c.args.table).rows c.args.key (Some []) ≡ None = sym c.in_default.ensures.rows in
    rw c.deref-4.ensures (is_shape _ _ _ _ so c.args.table c.add_to.ensures.last s at c.args.key none _ refl)

pub lay-requires-clause-rows : goal.lay-requires-clause-rows
lay-requires-clause-rows c =
    let so : IsStocked c.self.inside.source.value.facts c.self.inside.target.value.facts c.self.inside.course.shapes c.add_to.new.tables = rw (c.deref.ensures, c.deref-2.ensures) at c.add_to.ensures.stocked in
    let s = c.shape_at-shape.result in
    let at : Some s ≡ slice_get c.self.inside.course.shapes c.args.table = c.shape_at-shape.ensures.shape ∙ ap (λ ss. slice_get ss c.args.table) c.add_to.ensures.shapes in
    let none : get_or (laid_at c.add_to.new.tables.tables c.args.table).rows c.args.key (Some []) ≡ None = sym c.in_default.ensures.rows in
    let ps : c.deref-7.result.now ≡ may_be_at c.self.inside.source.value.facts c.self.inside.target.value.facts (are_fits c.self.inside.source.value.facts c.self.inside.target.value.facts) s c.args.key = c.deref-7.ensures.value ∙ (rw (c.deref-4.ensures, c.deref-5.ensures) at c.in-Ok.ensures.places) in
    rw c.deref-6.ensures (rows-there _ _ _ _ so c.args.table c.add_to.ensures.last s at c.args.key none _ ps)

pub lay-requires-clause-cells_room : goal.lay-requires-clause-cells_room
lay-requires-clause-cells_room c =
    let so : IsStocked c.self.inside.source.value.facts c.self.inside.target.value.facts c.self.inside.course.shapes c.add_to.new.tables = rw (c.deref.ensures, c.deref-2.ensures) at c.add_to.ensures.stocked in
    let s = c.shape_at-shape.result in
    let at : Some s ≡ slice_get c.self.inside.course.shapes c.args.table = c.shape_at-shape.ensures.shape ∙ ap (λ ss. slice_get ss c.args.table) c.add_to.ensures.shapes in
    let none : get_or (laid_at c.add_to.new.tables.tables c.args.table).rows c.args.key (Some []) ≡ None = sym c.in_default.ensures.rows in
    let ps : c.deref-7.result.now ≡ may_be_at c.self.inside.source.value.facts c.self.inside.target.value.facts (are_fits c.self.inside.source.value.facts c.self.inside.target.value.facts) s c.args.key = c.deref-7.ensures.value ∙ (rw (c.deref-4.ensures, c.deref-5.ensures) at c.in-Ok.ensures.places) in
    room-cells _ _ _ _ so c.args.table c.add_to.ensures.last s at c.args.key none _ ps

pub invariant_of-self-2 : goal.invariant_of-self-2
invariant_of-self-2 c =
    let so : IsStocked c.self.inside.source.value.facts c.self.inside.target.value.facts c.self.inside.course.shapes c.add_to.new.tables = rw (c.deref.ensures, c.deref-2.ensures) at c.add_to.ensures.stocked in
    let s = c.shape_at-shape.result in
    let at : Some s ≡ slice_get c.self.inside.course.shapes c.args.table = c.shape_at-shape.ensures.shape ∙ ap (λ ss. slice_get ss c.args.table) c.add_to.ensures.shapes in
    let none : get_or (laid_at c.add_to.new.tables.tables c.args.table).rows c.args.key (Some []) ≡ None = sym c.in_default.ensures.rows in
    let ps : c.deref-7.result.now ≡ may_be_at c.self.inside.source.value.facts c.self.inside.target.value.facts (are_fits c.self.inside.source.value.facts c.self.inside.target.value.facts) s c.args.key = c.deref-7.ensures.value ∙ (rw (c.deref-4.ensures, c.deref-5.ensures) at c.in-Ok.ensures.places) in
    let laid = stocked-laid _ _ _ _ so c.args.table c.add_to.ensures.last s at c.args.key none _ ps c.lay.new.self (rw c.deref-6.ensures at c.lay.ensures.tables) (rw c.deref-6.ensures at c.lay.ensures.cells) c.lay.ensures.ranges c.lay.ensures.cells_kept c.lay.ensures.ranges_kept c.lay.ensures.tables_kept in (
      c.shape_at-shape.ensures.source ∙ c.add_to.ensures.source ∙ c.self.invariant.0,
      c.self.invariant.1,
      omega (arith, c.self.invariant.2, c.in-Ok.ensures.capacity),
      rw (c.shape_at-shape.ensures.shapes ∙ c.add_to.ensures.shapes) laid,
    )

pub returns-clause-rows : goal.returns-clause-rows
returns-clause-rows c =
    let so : IsStocked c.self.inside.source.value.facts c.self.inside.target.value.facts c.self.inside.course.shapes c.add_to.new.tables = rw (c.deref.ensures, c.deref-2.ensures) at c.add_to.ensures.stocked in
    let s = c.shape_at-shape.result in
    let at : Some s ≡ slice_get c.self.inside.course.shapes c.args.table = c.shape_at-shape.ensures.shape ∙ ap (λ ss. slice_get ss c.args.table) c.add_to.ensures.shapes in
    let none : get_or (laid_at c.add_to.new.tables.tables c.args.table).rows c.args.key (Some []) ≡ None = sym c.in_default.ensures.rows in
    let ps : c.deref-7.result.now ≡ may_be_at c.self.inside.source.value.facts c.self.inside.target.value.facts (are_fits c.self.inside.source.value.facts c.self.inside.target.value.facts) s c.args.key = c.deref-7.ensures.value ∙ (rw (c.deref-4.ensures, c.deref-5.ensures) at c.in-Ok.ensures.places) in
    let seen = ap (λ v. v.tables) c.self.view_is in
    (asked _ _ _ _ so c.args.table c.add_to.ensures.last c.args.self.now.tables c.lay.new.self.cells c.args.key c.lay.result _ seen (rw c.deref-6.ensures at c.lay.ensures.rows) (answer _ _ _ _ so c.args.table c.add_to.ensures.last s at c.args.key none _ ps) c.lay.ensures.within).0

pub returns-clause-within : goal.returns-clause-within
returns-clause-within c =
    let so : IsStocked c.self.inside.source.value.facts c.self.inside.target.value.facts c.self.inside.course.shapes c.add_to.new.tables = rw (c.deref.ensures, c.deref-2.ensures) at c.add_to.ensures.stocked in
    let s = c.shape_at-shape.result in
    let at : Some s ≡ slice_get c.self.inside.course.shapes c.args.table = c.shape_at-shape.ensures.shape ∙ ap (λ ss. slice_get ss c.args.table) c.add_to.ensures.shapes in
    let none : get_or (laid_at c.add_to.new.tables.tables c.args.table).rows c.args.key (Some []) ≡ None = sym c.in_default.ensures.rows in
    let ps : c.deref-7.result.now ≡ may_be_at c.self.inside.source.value.facts c.self.inside.target.value.facts (are_fits c.self.inside.source.value.facts c.self.inside.target.value.facts) s c.args.key = c.deref-7.ensures.value ∙ (rw (c.deref-4.ensures, c.deref-5.ensures) at c.in-Ok.ensures.places) in
    let seen = ap (λ v. v.tables) c.self.view_is in
    (asked _ _ _ _ so c.args.table c.add_to.ensures.last c.args.self.now.tables c.lay.new.self.cells c.args.key c.lay.result _ seen (rw c.deref-6.ensures at c.lay.ensures.rows) (answer _ _ _ _ so c.args.table c.add_to.ensures.last s at c.args.key none _ ps) c.lay.ensures.within).1
