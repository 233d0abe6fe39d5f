use Rattle.std.proofs.Common.{length, map, take, ap, ◌∙◌, arith}
use Rattle.std.proofs.lemmas.List.{take_all}
use Rattle.eir_term.specs.Plans.{plan}
use Rattle.eir_hom.specs.declared.course.Shape.{Shape}
use Rattle.eir_hom.specs.Courses.{CourseView, shapes_of}
use Rattle.eir_hom.proofs.CourseLaws.{places-of}
use Rattle.eir_hom.proofs.plan.plan_between.Goals as goal

pub returns : goal.returns
returns c =
    let S = shapes_of c.args.a.now.facts c.args.b.now.facts c.args.start.now in
    let all = c.list_all.ensures ∙ ap (λ (v : CourseView). let w : CourseView = record v { listed = length v.shapes } in w) c.in_ok-course.ensures in
    c.in_ok-places.ensures ∙ ap (λ (v : CourseView). map (λ (s : Shape). s.place) (take v.listed v.shapes)) all
    ∙ ap (map (λ (s : Shape). s.place)) (take_all (length S) S (omega arith)) ∙ places-of c.args.a.now.facts _ (plan c.args.a.now.facts c.args.b.now.facts c.args.start.now)
