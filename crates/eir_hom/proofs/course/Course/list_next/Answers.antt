use Rattle.std.proofs.Common.{◌≡◌, ◌++◌, ◌∷◌, [], map, length, refl, sym, ◌∙◌, ap, subst, arith}
use Rattle.eir_term.specs.Instances.{values}
use Rattle.eir_hom.specs.declared.course.Shape.{Shape}
use Rattle.eir_hom.specs.Compiling.{first_set}
use Rattle.eir_hom.specs.Courses.{CourseView}
use Rattle.eir_hom.proofs.MarkLaws.{Row, row-read, row-below}
use Rattle.eir_hom.proofs.StepLaws.{now-placed, now-fitting, now-counted, now-stands, lent-back}
use Rattle.eir_hom.proofs.TableLaws.{numbers-read}
use Rattle.eir_hom.proofs.StockLaws.{numbers-under}
use Rattle.eir_hom.proofs.CourseLaws.{all-made, course-next, length-course}
use Rattle.eir_hom.proofs.course.Course.list_next.Goals as goal

pub unreachable-requires : goal.unreachable-requires
unreachable-requires g c =
    let all = all-made _ _ _ _ _ _ _ _ c.self.invariant c.in_default.ensures.all in
    omega (arith, all, c.requires.more, ap (λ (v : CourseView). v.listed) c.self.view_is, ap (λ (v : CourseView). length v.shapes) c.self.view_is)

pub first_known-column-requires : goal.first_known-column-requires
first_known-column-requires g c =
    let K = c.args.a.now.facts in
    let is_a : c.args.a.now.facts ≡ c.self.inside.source.value.facts = c.requires.source ∙ sym (ap (λ (v : CourseView). v.source) c.self.view_is) in
    let ns = numbers-read K c.in-Some.place c.numbers_at-numbers.result.now c.numbers_at-numbers.ensures in
    let wide : length c.deref.result.now ≡ length (values c.args.a.now.facts) = ap length c.deref.ensures.value ∙ c.self.invariant.listed.marks.as_many ∙ ap (λ (X : _). length (values X)) (sym is_a) in
    rw (wide, ns) (numbers-under K c.in-Some.place)

pub unreachable-requires-in_default-push : goal.unreachable-requires-in_default-push
unreachable-requires-in_default-push g c =
    let I = c.self.inside in
    let long = length-course I.source.value.facts I.target.value.facts I.start.value in
    omega (arith, long, c.self.invariant.room, c.in_default-push.ensures.full, I.shapes.ok.0, c.requires.more, ap (λ (v : CourseView). v.listed) c.self.view_is, ap (λ (v : CourseView). length v.shapes) c.self.view_is)

pub learn_all-requires-clause-numbered : goal.learn_all-requires-clause-numbered
learn_all-requires-clause-numbered g c k l =
    let K = c.args.a.now.facts in
    let is_a : c.args.a.now.facts ≡ c.self.inside.source.value.facts = c.requires.source ∙ sym (ap (λ (v : CourseView). v.source) c.self.view_is) in
    let row = row-read K c.in-Some.place c.numbers_at-numbers.result.now c.numbers_at-numbers.ensures in
    let below = row-below K c.in-Some.place c.numbers_at-numbers.result.now row k l in
    let wide : length c.self.inside.known.items ≡ length (values c.args.a.now.facts) = c.self.invariant.listed.marks.as_many ∙ ap (λ (X : _). length (values X)) (sym is_a) in
    let lent = ap length c.deref_mut.ensures.value in
    omega arith

pub learn_all-requires-clause-placed : goal.learn_all-requires-clause-placed
learn_all-requires-clause-placed g c =
    let I = c.self.inside in
    now-placed I.source.value.facts I.target.value.facts I.start.value I.known.items I.front (map (λ (s : Shape). s.place) I.shapes.items) c.self.invariant.listed
    I.occurrences.columns c.self.invariant.columns c.in-Some.place c.in-Some.ensures.lightest c.list_lightest.new.self c.in-Some.ensures.listed

pub learn_all-requires-clause-fitting : goal.learn_all-requires-clause-fitting
learn_all-requires-clause-fitting g c =
    let I = c.self.inside in
    now-fitting I.source.value.facts I.target.value.facts I.start.value I.known.items I.front (map (λ (s : Shape). s.place) I.shapes.items) c.self.invariant.listed
    I.occurrences.columns c.self.invariant.columns c.in-Some.place c.in-Some.ensures.lightest c.list_lightest.new.self c.in-Some.ensures.listed

pub learn_all-requires-clause-counted : goal.learn_all-requires-clause-counted
learn_all-requires-clause-counted g c =
    let I = c.self.inside in
    now-counted I.source.value.facts I.target.value.facts I.start.value I.known.items I.front (map (λ (s : Shape). s.place) I.shapes.items) c.self.invariant.listed
    I.occurrences.columns c.self.invariant.columns c.in-Some.place c.in-Some.ensures.lightest c.list_lightest.new.self c.in-Some.ensures.listed c.deref_mut.result.now c.deref_mut.ensures.value

pub invariant_of-self : goal.invariant_of-self
invariant_of-self g c =
    let I = c.self.inside in
    let K = c.args.a.now.facts in
    let A = I.source.value.facts in
    let p = c.in-Some.place in
    let ns = c.numbers_at-numbers.result.now in
    let is_a : c.args.a.now.facts ≡ c.self.inside.source.value.facts = c.requires.source ∙ sym (ap (λ (v : CourseView). v.source) c.self.view_is) in
    let row : Row c.self.inside.source.value.facts c.in-Some.place c.numbers_at-numbers.result.now =
    subst (λ X. Row X c.in-Some.place c.numbers_at-numbers.result.now) is_a (row-read K p ns c.numbers_at-numbers.ensures) in
    let row_is = numbers-read A p ns (rw is_a at c.numbers_at-numbers.ensures) in
    let vec = I.known.ok.0 in
    let long = c.learn_all.ensures.as_many in
    let lent = ap length c.deref_mut.ensures.value in
    let back = lent-back c.learn_all.new.known I.known.items I.known.len (omega arith) in
    let column = c.first_known-column.ensures ∙ ap (λ k. first_set k 0 c.numbers_at-numbers.result.now) c.deref.ensures.value in
    let stands = now-stands A I.target.value.facts I.start.value I.known.items I.front (map (λ (s : Shape). s.place) I.shapes.items) c.self.invariant.listed
    I.occurrences.columns c.self.invariant.columns p c.in-Some.ensures.lightest c.list_lightest.new.self c.in-Some.ensures.listed ns row c.deref_mut.result.now c.learn_all.new.known c.deref_mut.ensures.value c.learn_all.ensures.as_many c.learn_all.ensures.marks
    c.learn_all.new.self c.learn_all.ensures.seats (map (λ (s : Shape). s.place) I.shapes.items ++ p ∷ []) refl _ back in
    course-next A I.target.value.facts I.start.value I.front I.occurrences I.known.items I.shapes.items _ c.self.invariant p ns row_is c.first_known-column.result column
    c.learn_all.new.self I.occurrences refl c.learn_all.new.known _ (c.learn_all.ensures.as_many ∙ lent) (rw c.deref_mut.ensures.value at c.learn_all.ensures.marks) back
    c.push.new.self.items c.in-Ok.ensures.items stands _ c.push.ensures.capacity
