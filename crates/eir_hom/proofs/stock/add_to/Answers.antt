use Rattle.std.proofs.Common.{◌≡◌, ◌<◌, length, get_or, slice_get, sym, subst, ap, ap₂, ◌∙◌, arith}
use Rattle.std.proofs.lemmas.Option.{get_or_from_slice_get}
use Rattle.eir_hom.specs.FactRows.{Within, numbers_at}
use Rattle.eir_hom.specs.Levels.{but_at}
use Rattle.eir_hom.proofs.TableLaws.{numbers-read}
use Rattle.eir_hom.proofs.LaidLaws.{next-shape, room-ranges, stocked-added}
use Rattle.eir_hom.proofs.stock.add_to.Goals as goal

pub numbers_at-requires : goal.numbers_at-requires
numbers_at-requires c =
    let h : length c.loop-course.tables.tables < length c.args.course.now.shapes = omega (arith, c.len.ensures, c.loop-course-test.true, c.requires.last) in
    let at : c.shape_at-shape.result ≡ get_or c.args.course.now.shapes (length c.loop-course.tables.tables) c.shape_at-shape.result =
    sym (get_or_from_slice_get c.args.course.now.shapes _ c.shape_at-shape.result _ (ap₂ slice_get (sym c.loop-course.invariant.shapes) (sym c.len-in-loop-course.ensures) ∙ sym c.shape_at-shape.ensures.shape)) in
    (next-shape _ _ _ _ c.loop-course.invariant.stocked c.shape_at-shape.result h at).0

pub stride_of-stride-requires : goal.stride_of-stride-requires
stride_of-stride-requires c =
    let h : length c.loop-course.tables.tables < length c.args.course.now.shapes = omega (arith, c.len.ensures, c.loop-course-test.true, c.requires.last) in
    let at : c.shape_at-shape.result ≡ get_or c.args.course.now.shapes (length c.loop-course.tables.tables) c.shape_at-shape.result =
    sym (get_or_from_slice_get c.args.course.now.shapes _ c.shape_at-shape.result _ (ap₂ slice_get (sym c.loop-course.invariant.shapes) (sym c.len-in-loop-course.ensures) ∙ sym c.shape_at-shape.ensures.shape)) in
    let s = c.shape_at-shape.result in
    subst (Within s.column) (sym (numbers-read c.args.a.now.facts s.place c.numbers_at.result.now c.numbers_at.ensures)) (next-shape _ _ _ _ c.loop-course.invariant.stocked c.shape_at-shape.result h at).1

pub add-requires-clause-ranges_room : goal.add-requires-clause-ranges_room
add-requires-clause-ranges_room c =
    let h : length c.loop-course.tables.tables < length c.args.course.now.shapes = omega (arith, c.len.ensures, c.loop-course-test.true, c.requires.last) in
    let at : c.shape_at-shape.result ≡ get_or c.args.course.now.shapes (length c.loop-course.tables.tables) c.shape_at-shape.result =
    sym (get_or_from_slice_get c.args.course.now.shapes _ c.shape_at-shape.result _ (ap₂ slice_get (sym c.loop-course.invariant.shapes) (sym c.len-in-loop-course.ensures) ∙ sym c.shape_at-shape.ensures.shape)) in
    omega (arith, c.keys_for.ensures, room-ranges _ _ _ _ c.loop-course.invariant.stocked c.shape_at-shape.result h at)

pub loop-course-preserved : goal.loop-course-preserved
loop-course-preserved c =
    let h : length c.loop-course.tables.tables < length c.args.course.now.shapes = omega (arith, c.len.ensures, c.loop-course-test.true, c.requires.last) in
    let at : c.shape_at-shape.result ≡ get_or c.args.course.now.shapes (length c.loop-course.tables.tables) c.shape_at-shape.result =
    sym (get_or_from_slice_get c.args.course.now.shapes _ c.shape_at-shape.result _ (ap₂ slice_get (sym c.loop-course.invariant.shapes) (sym c.len-in-loop-course.ensures) ∙ sym c.shape_at-shape.ensures.shape)) in
    let s = c.shape_at-shape.result in
    let stride : c.stride_of-stride.result ≡ length (but_at s.column (numbers_at c.args.a.now.facts s.place)) =
    c.stride_of-stride.ensures ∙ ap (λ ns. length (but_at s.column ns)) (numbers-read c.args.a.now.facts s.place c.numbers_at.result.now c.numbers_at.ensures) in
    record {
      stocked = stocked-added _ _ _ _ c.loop-course.invariant.stocked c.shape_at-shape.result h at c.add.new.self c.stride_of-stride.result c.keys_for.result stride c.keys_for.ensures c.add.ensures.tables c.add.ensures.cells c.add.ensures.ranges c.add.ensures.cells_kept c.add.ensures.ranges_kept c.add.ensures.tables_kept;
      source = c.shape_at-shape.ensures.source ∙ c.loop-course.invariant.source;
      shapes = c.shape_at-shape.ensures.shapes ∙ c.loop-course.invariant.shapes;
      cells = c.add.ensures.cells ∙ c.loop-course.invariant.cells;
    }
