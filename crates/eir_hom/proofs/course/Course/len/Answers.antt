use Rattle.std.proofs.Common.{length, ap, arith}
use Rattle.eir_hom.specs.Courses.{CourseView}
use Rattle.eir_hom.proofs.CourseLaws.{length-course, made-within}
use Rattle.eir_hom.proofs.course.Course.len.Goals as goal

pub returns-clause-within : goal.returns-clause-within
returns-clause-within c =
    let w = made-within _ _ _ _ _ _ _ _ c.self.invariant in
    omega (arith, w, ap (λ (v : CourseView). v.listed) c.self.view_is, ap (λ (v : CourseView). length v.shapes) c.self.view_is)

pub returns-clause-facts : goal.returns-clause-facts
returns-clause-facts c =
    let I = c.self.inside in
    omega (arith, length-course I.source.value.facts I.target.value.facts I.start.value, ap (λ (v : CourseView). length v.source) c.self.view_is, ap (λ (v : CourseView). length v.shapes) c.self.view_is)
