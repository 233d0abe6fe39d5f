use Rattle.std.proofs.Common.{◌-◌, ◌≡◌, ◌≤◌, take}
use Rattle.eir_search.proofs.search.Search.lift_to.Given as goal

abbrev pub invariant-loop-self : goal.invariant-loop-self
invariant-loop-self g l =
    (l.level ≤ l.self-inside.depth)
    × (l.self-inside.depth ≤ l.initial.self-inside.depth)
    × (g.P.Problem.space l.self-inside.problem ≡ g.P.Problem.space l.initial.self-inside.problem)
    × (g.P.Problem.base l.self-inside.problem ≡ g.P.Problem.base l.initial.self-inside.problem)
    × (g.P.Problem.placed l.self-inside.problem ≡ take l.self-inside.depth l.self-inside.choices.items)
    × (l.self-inside.choices ≡ l.initial.self-inside.choices)
    × (l.self-inside.next ≡ l.initial.self-inside.next)

abbrev pub decreases-loop-self : goal.decreases-loop-self
decreases-loop-self g l = l.self-inside.depth - l.level
