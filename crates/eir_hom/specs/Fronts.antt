-- Fronts: facts with their views, of which some are listed (this project's own).
--   seat_weight s            == the weight of a fact that is not listed; of a listed one the greatest number
--   raised_by k s            == the seat of a fact with k known columns more
--   raised cs v seats        == the seats after the value v became known
--   seated cs known seats    == the seats with their known columns counted
--   free_places seats        == the places of the facts that are not listed
--   IsLightestFree seats p   == p is the first place of the least weight of a fact that is not listed
use Rattle.std.specs.Prelude.{◌≡◌, ℕ, suc, ◌+◌, ◌<◌, ◌≤◌, Bool, true, false, not, cond, List, [], ◌∷◌, length}
use Rattle.std.specs.Prelude.{slice_index_or}
use Rattle.eir_term.specs.declared.val.Val.{Val}
use Rattle.eir_term.specs.declared.fact.Fact.{Fact}
use Rattle.eir_term.specs.Lists.{places}
use Rattle.eir_hom.specs.declared.front.Seat.{Seat}
use Rattle.eir_hom.specs.declared.occurrences.Column.{Column}
use Rattle.eir_hom.specs.Views.{IsView, view_weight, view_of}
use Rattle.eir_hom.specs.Occurring.{occurring, known_columns}

-- the seat at a place
abbrev pub seat_at : List Seat → ℕ → Seat
seat_at seats p =
    slice_index_or seats p (record { view = record { rel = 0; arity = 0; bound = 0; count = 0 }; is_listed = true })

-- the weight of a fact that is not listed; of a listed one the greatest number
abbrev pub seat_weight : Seat → ℕ
seat_weight s = cond s.is_listed 18446744073709551615 (view_weight s.view)

-- each seat has the view of a fact that can be
abbrev pub AreViews : List Seat → Type 0
AreViews seats = (p : ℕ) → p < length seats → IsView (seat_at seats p).view

-- the seat with so many known columns
abbrev pub with_bound : ℕ → Seat → Seat
with_bound k s = record {
  view = record { rel = s.view.rel; arity = s.view.arity; bound = k; count = s.view.count };
  is_listed = s.is_listed;
}

-- the seat of a fact with k known columns more
abbrev pub raised_by : ℕ → Seat → Seat
raised_by k s = with_bound (s.view.bound + k) s

-- the seat of a fact that is listed
abbrev pub listed : Seat → Seat
listed s = record { view = s.view; is_listed = true }

-- the seats, counted on from n, after the value v became known
abbrev pub raised_from : List Column → ℕ → ℕ → List Seat → List Seat
raised_from cs v n [] = []
raised_from cs v n (s ∷ ss) = raised_by (occurring cs v n) s ∷ raised_from cs v (suc n) ss

-- the seats after the value v became known
abbrev pub raised : List Column → ℕ → List Seat → List Seat
raised cs v seats = raised_from cs v 0 seats

-- the seats, counted on from n, with their known columns counted
abbrev pub seated_from : List Column → List Bool → ℕ → List Seat → List Seat
seated_from cs known n [] = []
seated_from cs known n (s ∷ ss) = with_bound (known_columns cs known n) s ∷ seated_from cs known (suc n) ss

-- the seats with their known columns counted
abbrev pub seated : List Column → List Bool → List Seat → List Seat
seated cs known seats = seated_from cs known 0 seats

-- whether the fact is not listed
abbrev pub is_free : Seat → Bool
is_free s = not s.is_listed

-- the places of the facts that are not listed
abbrev pub free_places : List Seat → List ℕ
free_places seats = places is_free 0 seats

-- p is the first place of the least weight of a fact that is not listed
pub record IsLightestFree (seats : List Seat) (p : ℕ) : Type 0 where
  pub within : p < length seats
  pub free : is_free (seat_at seats p) ≡ true
  pub least : (q : ℕ) → q < length seats → is_free (seat_at seats q) ≡ true
      → view_weight (seat_at seats p).view ≤ view_weight (seat_at seats q).view
  pub first : (q : ℕ) → q < p → is_free (seat_at seats q) ≡ true
      → view_weight (seat_at seats p).view < view_weight (seat_at seats q).view

-- the seat of a fact that is not listed, before any is
abbrev pub first_seat : List Fact → List (Val × Val) → Fact → Seat
first_seat B start f = record { view = view_of B start [] f; is_listed = false }
