-- The levels of a search for homomorphisms from A to B that agree with a start, in numbers (this project's own).
--   number K v             == the number of v among the values of K, by first occurrence
--   first_known p n vs     == the first column, counted on from n, whose value is known
--   but_at i xs            == the list without the element at a place, if one is named
--   may_go A B f g         == whether f may go to g, by its relation and by profiles
--   row_of B i g           == the numbers of g's values but that of column i
--   level_of A B start k f == the level of the fact that is placed after k others
--   levels_of A B start    == all levels, in plan order
--   bindings_of A B start  == the slots of given values with the numbers of their images, and a slot of no value, to 0
--   hom_of A B m           == the map that the bindings say, on the values of A
--   matched_hom A B s cs   == the map at the rows that are chosen
use Rattle.std.specs.Prelude.{ℕ, suc, Bool, false, ◌==◌, ◌&&◌, cond, List, [], ◌∷◌, ◌++◌, map, filter, length, take}
use Rattle.std.specs.Prelude.{drop, get_or, Option, Some, None, option_and_then, option_map, unwrap_or, slice_get}
use Rattle.std.specs.List.{range_with_len}
use Rattle.eir_term.specs.declared.val.Val.{Val}
use Rattle.eir_term.specs.declared.fact.Fact.{Fact}
use Rattle.eir_term.specs.Lists.{place_of}
use Rattle.eir_term.specs.Values.{val_eq}
use Rattle.eir_term.specs.Instances.{values}
use Rattle.eir_term.specs.Maps.{image}
use Rattle.eir_term.specs.Plans.{is_known, fits_profiles, listed_first}
use Rattle.eir_term.specs.Search.{planned}
use Rattle.eir_hom.specs.Matching.{Level, Bindings, bound_to, matched}

-- the number of a value among those of K, by first occurrence; the number of values where it is none of them
abbrev pub number : List Fact → Val → ℕ
number K v = place_of val_eq v (values K)

-- the first column, counted on from n, whose value is known
abbrev pub first_known : (Val → Bool) → ℕ → List Val → Option ℕ
first_known known n [] = None
first_known known n (v ∷ vs) = cond (known v) (Some n) (first_known known (suc n) vs)

-- the list without the element at a place, if one is named
abbrev pub but_at : {X : Type 0} → Option ℕ → List X → List X
but_at None xs = xs
but_at (Some i) xs = take i xs ++ drop (suc i) xs

-- whether f may go to g, by its relation and by profiles
abbrev pub may_go : List Fact → List Fact → Fact → Fact → Bool
may_go A B f g = (f.rel == g.rel) && fits_profiles A B f.args g.args

-- whether the value of g at the column has the number
abbrev pub has_number : List Fact → ℕ → ℕ → Fact → Bool
has_number B i w g = unwrap_or (option_map (λ v. number B v == w) (slice_get g.args i)) false

-- the numbers of g's values but that of the column
abbrev pub row_of : List Fact → Option ℕ → Fact → List ℕ
row_of B i g = but_at i (map (number B) g.args)

-- the rows of the facts that f may go to: one list where no column is named, else one for each number at the column
abbrev pub rows_for : List Fact → List Fact → Fact → Option ℕ → List (List (List ℕ))
rows_for A B f None = map (row_of B None) (filter (may_go A B f) B) ∷ []
rows_for A B f (Some i) =
    map (λ w. map (row_of B (Some i)) (filter (λ g. may_go A B f g && has_number B i w g) B))
    (range_with_len 0 (suc (length (values B))))

-- the slot of the value at the column; the slot of no value where no column is named
abbrev pub slot_of : List Fact → Fact → Option ℕ → ℕ
slot_of A f i = unwrap_or (option_map (number A) (option_and_then (slice_get f.args) i)) (length (values A))

-- the first column of f whose value is known where k facts are placed
abbrev pub key_column : List Fact → List Fact → List (Val × Val) → ℕ → Fact → Option ℕ
key_column A B start k f = first_known (is_known start (listed_first A B start k)) 0 f.args

-- the level of f at a key column
abbrev pub level_at : List Fact → List Fact → Fact → Option ℕ → Level
level_at A B f i = record { key = slot_of A f i; slots = but_at i (map (number A) f.args); rows = rows_for A B f i }

-- the level of the fact that is placed after k others
abbrev pub level_of : List Fact → List Fact → List (Val × Val) → ℕ → Fact → Level
level_of A B start k f = level_at A B f (key_column A B start k f)

-- the levels of these facts, the first of which is placed after k others
abbrev pub levels_from : List Fact → List Fact → List (Val × Val) → ℕ → List Fact → List Level
levels_from A B start k [] = []
levels_from A B start k (f ∷ fs) = level_of A B start k f ∷ levels_from A B start (suc k) fs

-- all levels, in plan order
abbrev pub levels_of : List Fact → List Fact → List (Val × Val) → List Level
levels_of A B start = levels_from A B start 0 (planned A B start)

-- the values of A that are given by the start or fixed
abbrev pub given_values : List Fact → List (Val × Val) → List Val
given_values A start = filter (is_known start []) (values A)

-- the slot of no value bound to 0, and the slots of given values with the numbers of their images
abbrev pub bindings_of : List Fact → List Fact → List (Val × Val) → Bindings
bindings_of A B start =
    (length (values A), 0) ∷ map (λ v. (number A v, number B (image start v))) (given_values A start)

-- the value of B that v goes to
abbrev pub value_of : List Fact → List Fact → Bindings → Val → Val
value_of A B m v = get_or (values B) (unwrap_or (bound_to m (number A v)) 0) v

-- the map that the bindings say, on the values of A
abbrev pub hom_of : List Fact → List Fact → Bindings → List (Val × Val)
hom_of A B m = map (λ v. (v, value_of A B m v)) (values A)

-- the map at the rows that are chosen; any map where they do not match
abbrev pub matched_hom : List Fact → List Fact → List (Val × Val) → List ℕ → List (Val × Val)
matched_hom A B start cs = hom_of A B (unwrap_or (matched (levels_of A B start) (bindings_of A B start) cs) [])
