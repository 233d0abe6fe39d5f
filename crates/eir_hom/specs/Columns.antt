-- Binding a row column by column, in place (this project's own). Each slot has one cell that keeps the number that it
-- is bound to; a slot that is not bound may keep any number.
--   is_among s seen               == whether s is one of these slots
--   seen_after seen ss            == these slots and those before them
--   bound_slots ss ls             == the slots that these levels bind and those before them
--   slots_of cs                   == the slots of these columns
--   unmarked s                    == a column of which it is not known that it is new
--   AreBelow ss n                 == these slots are below n
--   AreColumns seen cs            == a column is new where its slot is not bound before it
--   Holds images m                == the slots that m binds keep their numbers
--   AreReady m cs images          == the columns can be bound after m
--   Tried m cs row images done    == a row was bound after m, or cannot be
--   row_at cells first n k        == the row k of those that stand from a cell on
--   Scanned m cs row from to k images    == of these rows k is the first that can be bound after m, and it was
use Rattle.std.specs.Prelude.{◌≡◌, ℕ, ◌+◌, ◌*◌, ◌<◌, ◌≤◌, ◌==◌, Bool, true, false, not, cond, List, [], ◌∷◌, map}
use Rattle.std.specs.Prelude.{length, take, drop, get_or, Some, None, is_some}
use Rattle.eir_hom.specs.declared.columns.Column.{Column}
use Rattle.eir_hom.specs.Matching.{Level, Bindings, bound_to, bind_row}

-- whether s is one of these slots
abbrev pub is_among : ℕ → List ℕ → Bool
is_among s [] = false
is_among s (t ∷ ts) = cond (t == s) true (is_among s ts)

-- these slots and those before them
abbrev pub seen_after : List ℕ → List ℕ → List ℕ
seen_after seen [] = seen
seen_after seen (s ∷ ss) = seen_after (s ∷ seen) ss

-- the slots that these levels bind and those before them
abbrev pub bound_slots : List ℕ → List Level → List ℕ
bound_slots seen [] = seen
bound_slots seen (l ∷ ls) = bound_slots (seen_after seen l.slots) ls

-- the slots of these columns
abbrev pub slots_of : List Column → List ℕ
slots_of cs = map (λ c. c.slot) cs

-- a column of which it is not known that it is new
abbrev pub unmarked : ℕ → Column
unmarked s = record { slot = s; is_new = false }

-- these slots are below n
abbrev pub AreBelow : List ℕ → ℕ → Type 0
AreBelow ss n = (k : ℕ) → k < length ss → get_or ss k 0 < n

-- a column is new where its slot is not bound before it
abbrev pub AreColumns : List ℕ → List Column → Type 0
AreColumns seen [] = Unit {0}
AreColumns seen (c ∷ cs) = (c.is_new ≡ not (is_among c.slot seen)) × AreColumns (c.slot ∷ seen) cs

-- the slots that m binds keep their numbers
pub record Holds (images : List ℕ) (m : Bindings) : Type 0 where
  pub images_are : (s w : ℕ) → bound_to m s ≡ Some w → get_or images s 0 ≡ w

-- m binds exactly these slots
pub record Binds (m : Bindings) (seen : List ℕ) : Type 0 where
  pub slots_are : (s : ℕ) → is_some (bound_to m s) ≡ is_among s seen

-- the columns can be bound after m
pub record AreReady (m : Bindings) (cs : List Column) (images : List ℕ) : Type 0 where
  pub seen : List ℕ
  pub binds : Binds m seen
  pub columns : AreColumns seen cs
  pub holds : Holds images m

-- a row was bound after m, or cannot be
abbrev pub Tried : Bindings → List Column → List ℕ → List ℕ → Bool → Type 0
Tried m cs row images true = (n : Bindings) × (bind_row m (slots_of cs) row ≡ Some n) × Holds images n
Tried m cs row images false = (bind_row m (slots_of cs) row ≡ None) × Holds images m

-- the row k of those that stand from a cell on
abbrev pub row_at : List ℕ → ℕ → ℕ → ℕ → List ℕ
row_at cells first n k = take n (drop (first + k * n) cells)

-- of these rows k is the first that can be bound after m, and it was; where k is their end none can be
pub record Scanned (m : Bindings) (cs : List Column) (row : ℕ → List ℕ) (from to k : ℕ) (images : List ℕ) : Type 0 where
  pub bad : (j : ℕ) → from ≤ j → j < k → bind_row m (slots_of cs) (row j) ≡ None
  pub good : k < to → (n : Bindings) × (bind_row m (slots_of cs) (row k) ≡ Some n) × Holds images n
  pub none : k ≡ to → Holds images m
