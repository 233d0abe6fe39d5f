use Rattle.std.proofs.Common.{◌≡◌, ◌-◌, take, min, arith, ap, refl}
use Rattle.eir_search.proofs.TryLaws.{coming-empty}
use Rattle.eir_search.proofs.search.Search.turn.Goals as goal

pub returns-then-is_untold-clause-takes : goal.returns-then-is_untold-clause-takes
returns-then-is_untold-clause-takes g c =
    let problem : c.self.inside.problem ≡ c.args.self.now.problem = ap (λ s. s.problem) c.self.view_is in
    let placed : take c.self.inside.depth c.self.inside.choices.items ≡ c.args.self.now.choices = ap (λ s. s.choices) c.self.view_is in
    let untold = c.if-is_untold.ensures.untold.0 refl in
    let empty = c.if-is_untold.ensures.empty refl in
    let none : min 1 (g.P.Problem.space c.args.self.now.problem).levels ≡ 0 = omega arith in
    let made : c.args.fuel.now.used - c.args.fuel.now.used ≡ 0 = omega arith in
    rw (none, made, placed, problem) (omega arith, coming-empty _ _ _ untold.0 untold.1 empty)
