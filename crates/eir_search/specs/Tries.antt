-- The tries that a search has still to make, in order (this project's own).
--   Event                           == what a try tells: nothing, or the good full list that it completes
--   tries_at s after placed c       == the try of one choice, and all below it where the choice is good
--   tries_from s after placed c     == the tries of the choices from c on, and all below them
--   tries_after s togo placed       == the try that placed the last choice of this good list, and all below it
--   tries_below s togo placed next  == all that is still to come below this list, where `next` is the choice to try
--   tries_above s placed level      == the tries of the levels above this one, after the choices placed there
--   coming s placed next            == all that is still to come where this list is placed, and `next` is to be tried
--   tries_left s placed next        == how many tries that is
--   told events                     == the lists that are told
-- A full list that was not told yet has `next` 0. Only the empty list is ever so, where there are no levels: it is told
-- without a try.
use Rattle.std.specs.Prelude.{ℕ, zero, suc, ◌+◌, ◌-◌, ◌==◌, List, [], ◌∷◌, ◌++◌, Option, None, Some, if◌then◌else◌, take, length, slice_index, flat_map, filter_map}
use Rattle.std.specs.List.{range_with_len}
use Rattle.eir_search.specs.Spaces.{Space}

-- what a try tells: nothing, or the good full list that it completes
abbrev pub Event : Type 0
Event = Option (List ℕ)

-- the try of one choice, and all below it where the choice is good; `after` has these for each good list
abbrev pub tries_at : Space → (List ℕ → List Event) → List ℕ → ℕ → List Event
tries_at s after placed c = if s.good (placed ++ c ∷ []) then after (placed ++ c ∷ []) else None ∷ []

-- the tries of the choices from c on, and all below them
abbrev pub tries_from : Space → (List ℕ → List Event) → List ℕ → ℕ → List Event
tries_from s after placed c = flat_map (tries_at s after placed) (range_with_len c (s.width placed - c))

-- the try that placed the last choice of this good list, and all below it, with so many levels to go
unfoldable pub tries_after : Space → ℕ → List ℕ → List Event
tries_after s zero placed = Some placed ∷ []
tries_after s (suc togo) placed = None ∷ tries_from s (tries_after s togo) placed 0

-- all that is still to come below this list, where `next` is the choice to try, with so many levels to go
unfoldable pub tries_below : Space → ℕ → List ℕ → ℕ → List Event
tries_below s zero placed zero = Some placed ∷ []
tries_below s zero placed (suc next) = []
tries_below s (suc togo) placed next = tries_from s (tries_after s togo) placed next

-- the tries of the levels above this one, the deepest first, each after the choice that is placed there
unfoldable pub tries_above : Space → List ℕ → ℕ → List Event
tries_above s placed zero = []
tries_above s placed (suc level) =
    tries_below s (s.levels - level) (take level placed) (slice_index placed level + 1) ++ tries_above s placed level

-- all that is still to come where this list is placed, and `next` is the choice to try
unfoldable pub coming : Space → List ℕ → ℕ → List Event
coming s placed next = tries_below s (s.levels - length placed) placed next ++ tries_above s placed (length placed)

-- how many tries that is; where there are no levels, the empty list is told without a try
abbrev pub tries_left : Space → List ℕ → ℕ → ℕ
tries_left s placed next = if s.levels == 0 then 0 else length (coming s placed next)

-- the lists that are told, in order
abbrev pub told : List Event → List (List ℕ)
told events = filter_map (λ event. event) events
