use Rattle.std.proofs.Common.{◌≡◌, ◌+◌, ℕ, length, ap, sym, ◌∙◌, arith}
use Rattle.eir_hom.specs.Courses.{CourseView}
use Rattle.eir_hom.proofs.course.Course.list_all.Goals as goal

pub loop-init : goal.loop-init
loop-init g c = record {
  listed = ap (λ (n : ℕ). let v : CourseView = record c.args.self.now { listed = n } in v) (sym c.len-counter.ensures.listed);
  within = omega (arith, c.len-counter.ensures.listed, c.len-counter.ensures.within);
}

pub list_next-requires-clause-source : goal.list_next-requires-clause-source
list_next-requires-clause-source g c = c.requires ∙ ap (λ (v : CourseView). v.source) (sym c.loop.invariant.listed)

pub list_next-requires-clause-more : goal.list_next-requires-clause-more
list_next-requires-clause-more g c =
    omega (arith, ap (λ (v : CourseView). v.listed) c.loop.invariant.listed, ap (λ (v : CourseView). length v.shapes) c.loop.invariant.listed, c.len-counter.ensures.facts, ap length c.requires, c.len-end.ensures, c.loop-test.true)

pub loop-preserved : goal.loop-preserved
loop-preserved g c = record {
  listed = c.list_next.ensures ∙ ap (λ (v : CourseView). let w : CourseView = record v { listed = v.listed + 1 } in w) c.loop.invariant.listed;
  within = omega (arith, c.len-counter.ensures.facts, ap length c.requires, c.len-end.ensures, c.loop-test.true);
}

pub returns : goal.returns
returns g c =
    let all : c.loop.counter ≡ length c.args.self.now.shapes = omega (arith, c.loop.invariant.within, c.len-counter.ensures.facts, ap length c.requires, c.len-end.ensures, c.loop-test.false) in
    c.loop.invariant.listed ∙ ap (λ (n : ℕ). let v : CourseView = record c.args.self.now { listed = n } in v) all
