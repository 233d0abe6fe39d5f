-- Matching rows of numbers level by level: the search for homomorphisms in numbers alone (this project's own). A slot
-- is the number of a value of the source; what is bound to it is the number of its image in the target.
--   Level                == the slot whose number picks the rows, the slots that a row binds, and the rows by that
--                           number
--   Bindings             == slots with the numbers that they are bound to
--   bound_to m s         == what s is bound to
--   bind_slot m s w      == m that also binds s to w, where it may
--   bind_row m ss ws     == m that also binds these slots to those numbers, one by one
--   rows_at l m          == the rows of a level after m
--   matched ls m cs      == the bindings after the rows that are chosen at the first levels
--   match_space ls m     == all this as a space of a search
--   with_number m s w    == m with w for the number of s, where it binds s
--   Match                == what a contract sees of a matcher
use Rattle.std.specs.Prelude.{ℕ, ◌==◌, cond, List, [], ◌∷◌, ◌++◌, map, length, get_or, Option, Some, None, is_some}
use Rattle.std.specs.Prelude.{option_and_then, unwrap_or, slice_get}
use Rattle.eir_search.specs.Spaces.{Space}
use Rattle.eir_hom.specs.Tables.{Table}
use Rattle.eir_hom.specs.declared.course.Shape.{Shape}

-- one level: the slot whose number picks the rows, the slots that a row binds, and the rows by that number
pub record Level : Type 0 where
  pub key : ℕ
  pub slots : List ℕ
  pub rows : List (List (List ℕ))

-- slots with the numbers that they are bound to
abbrev pub Bindings : Type 0
Bindings = List (ℕ × ℕ)

-- what a slot is bound to
abbrev pub bound_to : Bindings → ℕ → Option ℕ
bound_to [] s = None
bound_to (p ∷ m) s = cond (p.0 == s) (Some p.1) (bound_to m s)

-- m with s bound to w, given what s is bound to
abbrev pub bind_slot_as : Option ℕ → Bindings → ℕ → ℕ → Option Bindings
bind_slot_as None m s w = Some (m ++ (s, w) ∷ [])
bind_slot_as (Some u) m s w = cond (u == w) (Some m) None

-- m that also binds s to w, unless it binds it to another number
abbrev pub bind_slot : Bindings → ℕ → ℕ → Option Bindings
bind_slot m s w = bind_slot_as (bound_to m s) m s w

-- m that also binds these slots to those numbers, one by one
abbrev pub bind_row : Bindings → List ℕ → List ℕ → Option Bindings
bind_row m [] [] = Some m
bind_row m [] (w ∷ ws) = None
bind_row m (s ∷ ss) [] = None
bind_row m (s ∷ ss) (w ∷ ws) = option_and_then (λ n. bind_row n ss ws) (bind_slot m s w)

-- the rows of a level after m
abbrev pub rows_at : Level → Bindings → List (List ℕ)
rows_at l m = get_or l.rows (unwrap_or (bound_to m l.key) 0) []

-- the bindings after the rows that are chosen at the first levels, by their places among the rows of the level
abbrev pub matched : List Level → Bindings → List ℕ → Option Bindings
matched ls m [] = Some m
matched [] m (c ∷ cs) = None
matched (l ∷ ls) m (c ∷ cs) =
    option_and_then (λ row. option_and_then (λ n. matched ls n cs) (bind_row m l.slots row)) (slice_get (rows_at l m) c)

-- how many rows there are at the next level
abbrev pub rows_next : Option Level → Option Bindings → ℕ
rows_next (Some l) (Some m) = length (rows_at l m)
rows_next (Some l) None = 0
rows_next None m = 0

-- all this as a space of a search: a list of choices is good where its rows bind no slot twice
abbrev pub match_space : List Level → Bindings → Space
match_space ls m = record {
  levels = length ls;
  width = λ cs. rows_next (slice_get ls (length cs)) (matched ls m cs);
  good = λ cs. is_some (matched ls m cs);
}

-- m with w for the number of s, where it binds s
abbrev pub with_number : Bindings → ℕ → ℕ → Bindings
with_number m s w = map (λ p. (p.0, cond (p.0 == s) w p.1)) m

-- what a contract sees of a matcher: how many slots it has, its tables and their shapes, its levels, the bindings at
-- the start, and the choices that are placed
pub record Match : Type 0 where
  pub slots : ℕ
  pub tables : List Table
  pub shapes : List Shape
  pub levels : List Level
  pub start : Bindings
  pub placed : List ℕ
