use Rattle.std.proofs.Common.{◌+◌, ◌-◌, ◌*◌, ◌≡◌, ◌≤◌, length, take}
use Rattle.eir_search.specs.Tries.{coming}
use Rattle.eir_search.proofs.RunLaws.{IsRunning}
use Rattle.eir_search.proofs.run.make_tries.Given as goal

abbrev pub invariant-tries : goal.invariant-tries
invariant-tries g l =
    (g.P.Problem.space l.problem ≡ g.P.Problem.space l.fn.problem)
    × (g.P.Problem.base l.problem ≡ g.P.Problem.base l.fn.problem)
    × (length l.choices ≡ length l.fn.choices)
    × (l.left ≤ l.tries)
    × (IsRunning (g.P.Problem.space l.fn.problem)
    (coming (g.P.Problem.space l.fn.problem) (take l.fn.level l.fn.choices) l.fn.choice)
    (g.P.Problem.placed l.problem) l.choices l.level l.choice l.width (l.tries - l.left))

abbrev pub decreases-tries : goal.decreases-tries
decreases-tries g l = 2 * length (coming (g.P.Problem.space l.fn.problem) (g.P.Problem.placed l.problem) l.choice) + l.level
