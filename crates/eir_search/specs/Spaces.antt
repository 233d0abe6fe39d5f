-- What backtracking goes through, and what it looks for (textbook).
--   Space                     == how many levels there are, how many choices after each list, and which lists are good
--   good_choices s placed     == the choices after this list that make a good list, in order
--   full_lists s togo placed  == the good full lists that begin with this one, in order; it lacks so many levels
--   need s togo placed        == the tries that finding these takes
-- `good` is asked of lists alone whose shorter beginnings are good; the empty list counts as good.
use Rattle.std.specs.Prelude.{ℕ, zero, suc, ◌+◌, Bool, List, [], ◌∷◌, ◌++◌, filter, flat_map, sum_by}
use Rattle.std.specs.List.{range_with_len}

-- how many levels, how many choices there are after a list, and which lists are good
pub record Space : Type 0 where
  pub levels : ℕ
  pub width : List ℕ → ℕ
  pub good : List ℕ → Bool

-- the choices after this list that make a good list, in order
abbrev pub good_choices : Space → List ℕ → List ℕ
good_choices s placed = filter (λ c. s.good (placed ++ c ∷ [])) (range_with_len 0 (s.width placed))

-- the good full lists that begin with this one, in order
unfoldable pub full_lists : Space → ℕ → List ℕ → List (List ℕ)
full_lists s zero placed = placed ∷ []
full_lists s (suc togo) placed = flat_map (λ c. full_lists s togo (placed ++ c ∷ [])) (good_choices s placed)

-- the width after this list, and after each longer good list that is not full
unfoldable pub need : Space → ℕ → List ℕ → ℕ
need s zero placed = 0
need s (suc togo) placed = s.width placed + sum_by (λ c. need s togo (placed ++ c ∷ [])) (good_choices s placed)
