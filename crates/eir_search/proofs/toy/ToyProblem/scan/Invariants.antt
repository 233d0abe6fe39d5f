use Rattle.std.proofs.Common.{◌≡◌, ℕ, ◌-◌, ◌<◌, ◌≤◌, ◌==◌, ◌&&◌, Bool, false, not, List, [], ◌∷◌, ◌++◌, take, length, get_or}
use Rattle.eir_search.proofs.toy.ToyProblem.scan.Given as goal

-- the toy's test
abbrev good : List ℕ → Bool
good p = not (get_or p (length p - 1) 0 == 1 && get_or p (length p - 2) 0 == 2)

abbrev pub invariant-loop-choice : goal.invariant-loop-choice
invariant-loop-choice l =
    (l.self.levels ≡ l.fn.self.levels)
    × (take l.self.depth l.self.choices ≡ take l.fn.self.depth l.fn.self.choices)
    × ((k : ℕ) → l.from ≤ k → k < l.choice → good (take l.fn.self.depth l.fn.self.choices ++ k ∷ []) ≡ false)
