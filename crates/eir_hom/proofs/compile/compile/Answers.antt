use Rattle.std.proofs.Common.{◌≡◌, ◌∙◌, [], ◌∷◌, length, map, refl, ap, ap₂, sym, subst, arith}
use Rattle.std.specs.List.{sum_by}
use Rattle.std.proofs.lemmas.List.{length-map}
use Rattle.eir_term.specs.Instances.{values}
use Rattle.eir_term.specs.Plans.{is_known, plan}
use Rattle.eir_hom.specs.Matching.{Match}
use Rattle.eir_hom.specs.Occurring.{columns_of}
use Rattle.eir_hom.specs.Compiling.{bindings_from, given_image}
use Rattle.eir_hom.specs.Courses.{shapes_of}
use Rattle.eir_hom.specs.Stocks.{AreShapes, row_length, shape_table}
use Rattle.eir_hom.specs.Tables.{Table, TablesView}
use Rattle.eir_hom.proofs.CompileLaws.{planned-places, strides-are, course-ready, course-levels, course-start}
use Rattle.eir_hom.proofs.CourseLaws.{length-course}
use Rattle.eir_hom.proofs.DraftingLaws.{shapes-are}
use Rattle.eir_hom.proofs.RoomLaws.{columns-room}
use Rattle.eir_hom.proofs.compile.compile.Goals as goal

pub new-requires-2-clause-shapes : goal.new-requires-2-clause-shapes
new-requires-2-clause-shapes g c =
    let A = c.args.a.now.value.facts in
    let B = c.args.b.now.value.facts in
    let S = c.args.start.now in
    subst (AreShapes A) (sym c.requires.shapes) (shapes-are A (map (is_known S []) (values A)) (plan A B S) (planned-places A B S (plan A B S) refl))

pub new-requires-2-clause-columns : goal.new-requires-2-clause-columns
new-requires-2-clause-columns g c = rw c.requires.shapes (columns-room c.args.a.now.value.facts c.args.b.now.value.facts c.args.start.now)

pub new-requires-2-clause-facts : goal.new-requires-2-clause-facts
new-requires-2-clause-facts g c = rw c.requires.shapes (length-course c.args.a.now.value.facts c.args.b.now.value.facts c.args.start.now)

pub new-requires-3-clause-levels : goal.new-requires-3-clause-levels
new-requires-3-clause-levels g c =
    let A = c.args.a.now.value.facts in
    let B = c.args.b.now.value.facts in
    let S = c.args.start.now in
    omega (arith, ap (λ (s : TablesView). length s.tables) c.in_ok-stock.ensures, length-map c.args.course.shapes (shape_table A B), ap length c.requires.shapes, length-course A B S, c.len.ensures, ap (λ i. length i.facts) c.deref-6.ensures)

pub new-requires-3-clause-columns : goal.new-requires-3-clause-columns
new-requires-3-clause-columns g c =
    let A = c.args.a.now.value.facts in
    let B = c.args.b.now.value.facts in
    let S = c.args.start.now in
    let shapes : AreShapes A c.args.course.shapes = subst (AreShapes A) (sym c.requires.shapes) (shapes-are A (map (is_known S []) (values A)) (plan A B S) (planned-places A B S (plan A B S) refl)) in
    omega (arith, ap (λ (s : TablesView). sum_by (λ (t : Table). t.stride) s.tables) c.in_ok-stock.ensures, strides-are A B c.args.course.shapes shapes, columns-room A B S, ap (sum_by (row_length A)) c.requires.shapes, c.column_count-columns.ensures, ap (λ K. length (columns_of K)) c.requires.source)

pub new-requires-4-clause-facts : goal.new-requires-4-clause-facts
new-requires-4-clause-facts g c =
    let A = c.args.a.now.value.facts in
    ap (λ (m : Match). length m.shapes) c.in_ok-bind_start.ensures ∙ ap (λ (m : Match). length m.shapes) c.in_ok-matcher.ensures ∙ ap (λ (s : TablesView). length s.shapes) c.in_ok-stock.ensures
    ∙ ap length c.requires.shapes ∙ length-course A c.args.b.now.value.facts c.args.start.now

pub new-requires-4-clause-slots : goal.new-requires-4-clause-slots
new-requires-4-clause-slots g c =
    let slots = ap (λ (m : Match). m.slots) c.in_ok-bind_start.ensures ∙ ap (λ (m : Match). m.slots) c.in_ok-matcher.ensures in
    omega (arith, slots, ap length c.values.ensures.values, ap (λ i. length (values i.facts)) c.deref-5.ensures)

pub new-requires-4-clause-ready : goal.new-requires-4-clause-ready
new-requires-4-clause-ready g c =
    let A = c.args.a.now.value.facts in
    let B = c.args.b.now.value.facts in
    let S = c.args.start.now in
    let m = c.bind_start.new.matcher in
    let images : c.in_ok-images.images.items ≡ map (given_image B S) (values A) = c.in_ok-images.ensures ∙ ap₂ (λ x y. map (given_image y.facts S) (values x.facts)) c.deref.ensures c.deref-2.ensures in
    let tables : m.tables ≡ map (shape_table A B) (shapes_of A B S) =
    ap (λ (x : Match). x.tables) c.in_ok-bind_start.ensures ∙ ap (λ (x : Match). x.tables) c.in_ok-matcher.ensures ∙ ap (λ (s : TablesView). s.tables) c.in_ok-stock.ensures ∙ ap (map (shape_table A B)) c.requires.shapes in
    let shapes : m.shapes ≡ shapes_of A B S =
    ap (λ (x : Match). x.shapes) c.in_ok-bind_start.ensures ∙ ap (λ (x : Match). x.shapes) c.in_ok-matcher.ensures ∙ ap (λ (s : TablesView). s.shapes) c.in_ok-stock.ensures ∙ c.requires.shapes in
    let start : m.start ≡ (length c.in_ok-images.images.items, 0) ∷ bindings_from 0 c.in_ok-images.images.items =
    ap (λ (x : Match). x.start) c.in_ok-bind_start.ensures ∙ ap (λ is. (length is, 0) ∷ bindings_from 0 is) c.deref-7.ensures.value in
    course-ready A B S c.in_ok-images.images.items images m tables shapes start

pub new-requires-4-clause-levels : goal.new-requires-4-clause-levels
new-requires-4-clause-levels g c = ap (λ (m : Match). m.levels) c.in_ok-bind_start.ensures ∙ ap (λ (m : Match). m.levels) c.in_ok-matcher.ensures

pub new-requires-4-clause-placed : goal.new-requires-4-clause-placed
new-requires-4-clause-placed g c = ap (λ (m : Match). m.placed) c.in_ok-bind_start.ensures ∙ ap (λ (m : Match). m.placed) c.in_ok-matcher.ensures

pub returns-clause-levels : goal.returns-clause-levels
returns-clause-levels g c =
    let A = c.args.a.now.value.facts in
    let B = c.args.b.now.value.facts in
    let S = c.args.start.now in
    let m = c.bind_start.new.matcher in
    let images : c.in_ok-images.images.items ≡ map (given_image B S) (values A) = c.in_ok-images.ensures ∙ ap₂ (λ x y. map (given_image y.facts S) (values x.facts)) c.deref.ensures c.deref-2.ensures in
    let tables : m.tables ≡ map (shape_table A B) (shapes_of A B S) =
    ap (λ (x : Match). x.tables) c.in_ok-bind_start.ensures ∙ ap (λ (x : Match). x.tables) c.in_ok-matcher.ensures ∙ ap (λ (s : TablesView). s.tables) c.in_ok-stock.ensures ∙ ap (map (shape_table A B)) c.requires.shapes in
    let shapes : m.shapes ≡ shapes_of A B S =
    ap (λ (x : Match). x.shapes) c.in_ok-bind_start.ensures ∙ ap (λ (x : Match). x.shapes) c.in_ok-matcher.ensures ∙ ap (λ (s : TablesView). s.shapes) c.in_ok-stock.ensures ∙ c.requires.shapes in
    let start : m.start ≡ (length c.in_ok-images.images.items, 0) ∷ bindings_from 0 c.in_ok-images.images.items =
    ap (λ (x : Match). x.start) c.in_ok-bind_start.ensures ∙ ap (λ is. (length is, 0) ∷ bindings_from 0 is) c.deref-7.ensures.value in
    ap (λ (x : Match). x.levels) c.in_ok-lazy.ensures ∙ course-levels A B S c.in_ok-images.images.items images m tables shapes

pub returns-clause-start : goal.returns-clause-start
returns-clause-start g c =
    let A = c.args.a.now.value.facts in
    let B = c.args.b.now.value.facts in
    let S = c.args.start.now in
    let m = c.bind_start.new.matcher in
    let images : c.in_ok-images.images.items ≡ map (given_image B S) (values A) = c.in_ok-images.ensures ∙ ap₂ (λ x y. map (given_image y.facts S) (values x.facts)) c.deref.ensures c.deref-2.ensures in
    let tables : m.tables ≡ map (shape_table A B) (shapes_of A B S) =
    ap (λ (x : Match). x.tables) c.in_ok-bind_start.ensures ∙ ap (λ (x : Match). x.tables) c.in_ok-matcher.ensures ∙ ap (λ (s : TablesView). s.tables) c.in_ok-stock.ensures ∙ ap (map (shape_table A B)) c.requires.shapes in
    let shapes : m.shapes ≡ shapes_of A B S =
    ap (λ (x : Match). x.shapes) c.in_ok-bind_start.ensures ∙ ap (λ (x : Match). x.shapes) c.in_ok-matcher.ensures ∙ ap (λ (s : TablesView). s.shapes) c.in_ok-stock.ensures ∙ c.requires.shapes in
    let start : m.start ≡ (length c.in_ok-images.images.items, 0) ∷ bindings_from 0 c.in_ok-images.images.items =
    ap (λ (x : Match). x.start) c.in_ok-bind_start.ensures ∙ ap (λ is. (length is, 0) ∷ bindings_from 0 is) c.deref-7.ensures.value in
    ap (λ (x : Match). x.start) c.in_ok-lazy.ensures ∙ course-start A B S c.in_ok-images.images.items images m tables shapes start

pub returns-clause-placed : goal.returns-clause-placed
returns-clause-placed g c =
    ap (λ (x : Match). x.placed) c.in_ok-lazy.ensures ∙ ap (λ (x : Match). x.placed) c.in_ok-bind_start.ensures ∙ ap (λ (x : Match). x.placed) c.in_ok-matcher.ensures
