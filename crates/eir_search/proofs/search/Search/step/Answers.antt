use Rattle.std.proofs.Common.{◌≡◌, ◌<◌, take, length, arith, ap, refl}
use Rattle.eir_search.specs.Tries.{coming, tries_left}
use Rattle.eir_search.proofs.TryLaws.{coming-empty, coming-some-in}
use Rattle.eir_search.proofs.CountLaws.{tries_left-some}
use Rattle.eir_search.proofs.search.Search.step.Goals as goal

pub returns-then-is_untold-clause-takes : goal.returns-then-is_untold-clause-takes
returns-then-is_untold-clause-takes g c =
    let problem : c.self.inside.problem ≡ c.args.self.now.problem = ap (λ s. s.problem) c.self.view_is in
    let placed : take c.self.inside.depth c.self.inside.choices.items ≡ c.args.self.now.choices = ap (λ s. s.choices) c.self.view_is in
    let untold = c.if-is_untold.ensures.untold.0 refl in
    rw (placed, problem) (coming-empty _ _ _ untold.0 untold.1 (c.if-is_untold.ensures.empty refl))

pub returns-then-is_untold-clause-done : goal.returns-then-is_untold-clause-done
returns-then-is_untold-clause-done g c =
    let untold = c.if-is_untold.ensures.untold.0 refl in
    let told = coming-empty (g.P.Problem.space c.args.self.now.problem) c.args.self.now.choices c.args.self.now.next untold.0 untold.1 (c.if-is_untold.ensures.empty refl) in
    ((λ e. cc), (λ e. cc))

pub returns-then-left-eq0-clause-takes : goal.returns-then-left-eq0-clause-takes
returns-then-left-eq0-clause-takes g c =
    let some : 0 < length (coming (g.P.Problem.space c.args.self.now.problem) c.args.self.now.choices c.args.self.now.next) =
    rw c.in-Some.ensures.same (coming-some-in _ _ _ _ c.in-Some.ensures.within c.in-Some.ensures.below c.in-Some.ensures.choice) in
    ((λ e. absurd (omega (arith, ap length e))), refl)

pub returns-then-left-eq0-clause-done : goal.returns-then-left-eq0-clause-done
returns-then-left-eq0-clause-done g c =
    let some : 0 < length (coming (g.P.Problem.space c.args.self.now.problem) c.args.self.now.choices c.args.self.now.next) =
    rw c.in-Some.ensures.same (coming-some-in _ _ _ _ c.in-Some.ensures.within c.in-Some.ensures.below c.in-Some.ensures.choice) in
    ((λ e. cc), (λ e. absurd (omega (arith, ap length e))))

pub returns-then-left-eq0-clause-spent : goal.returns-then-left-eq0-clause-spent
returns-then-left-eq0-clause-spent g c =
    let some : 0 < length (coming (g.P.Problem.space c.args.self.now.problem) c.args.self.now.choices c.args.self.now.next) =
    rw c.in-Some.ensures.same (coming-some-in _ _ _ _ c.in-Some.ensures.within c.in-Some.ensures.below c.in-Some.ensures.choice) in
    let levels : 0 < (g.P.Problem.space c.args.self.now.problem).levels = omega (arith, c.in-Some.ensures.below) in
    let left : 0 < tries_left (g.P.Problem.space c.args.self.now.problem) c.args.self.now.choices c.args.self.now.next =
    rw (tries_left-some (g.P.Problem.space c.args.self.now.problem) c.args.self.now.choices c.args.self.now.next levels) some in
    ((λ e. (left, omega arith)), (λ e. refl))
