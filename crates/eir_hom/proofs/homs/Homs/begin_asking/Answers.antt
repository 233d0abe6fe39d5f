use Rattle.std.proofs.Common.{sym, ap, ap₂, ◌∙◌}
use Rattle.eir_hom.specs.Courses.{CourseView, shapes_of}
use Rattle.eir_hom.proofs.homs.Homs.begin_asking.Goals as goal

pub list_all-requires : goal.list_all-requires
list_all-requires g c = ap (λ i. i.facts) c.deref-3.ensures ∙ sym (ap (λ (v : CourseView). v.source) c.in_ok-course.ensures ∙ ap (λ i. i.facts) c.deref.ensures)

pub begin_along-requires-clause-source : goal.begin_along-requires-clause-source
begin_along-requires-clause-source g c = ap (λ (v : CourseView). v.source) c.list_all.ensures ∙ ap (λ (v : CourseView). v.source) c.in_ok-course.ensures ∙ ap (λ i. i.facts) c.deref.ensures

pub begin_along-requires-clause-shapes : goal.begin_along-requires-clause-shapes
begin_along-requires-clause-shapes g c =
    ap (λ (v : CourseView). v.shapes) c.list_all.ensures ∙ ap (λ (v : CourseView). v.shapes) c.in_ok-course.ensures ∙ ap₂ (λ x y. shapes_of x.facts y.facts c.args.start.now) c.deref.ensures c.deref-2.ensures
