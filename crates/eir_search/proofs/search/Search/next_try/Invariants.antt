use Rattle.std.proofs.Common.{◌≡◌, ◌<◌, ◌≤◌, length, take}
use Rattle.eir_search.specs.Tries.{coming}
use Rattle.eir_search.proofs.search.Search.next_try.Given as goal

abbrev pub invariant-loop-level : goal.invariant-loop-level
invariant-loop-level g l =
    (l.level ≤ length l.self.choices)
    × (l.level ≡ l.levels → 0 < l.choice)
    × (coming (g.P.Problem.space l.self.problem) l.self.choices l.self.next
    ≡ coming (g.P.Problem.space l.self.problem) (take l.level l.self.choices) l.choice)

abbrev pub decreases-loop-level : goal.decreases-loop-level
decreases-loop-level g l = l.level
