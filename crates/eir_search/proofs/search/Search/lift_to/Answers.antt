use Rattle.std.proofs.Common.{◌≡◌, ◌∙◌, arith, ap, sym}
use Rattle.std.specs.Prelude.{vec_len}
use Rattle.eir_search.proofs.search.Search.lift_to.Goals as goal

pub invariant_of-self : goal.invariant_of-self
invariant_of-self g c =
    let kept = c.loop-self.invariant in
    let levels : (g.P.Problem.space c.loop-self.self-inside.problem).levels ≡ (g.P.Problem.space c.self.inside.problem).levels = ap (λ s. s.levels) kept.2 in (
      (let room : vec_len c.loop-self.self-inside.choices ≡ vec_len c.self.inside.choices = ap (λ v. vec_len v) kept.5 in omega arith),
      omega arith,
      kept.4,
      (λ full next. let none = c.self.invariant.3 (omega arith) (sym kept.6 ∙ next) in omega arith),
      rw kept.5 c.self.invariant.4,
    )
