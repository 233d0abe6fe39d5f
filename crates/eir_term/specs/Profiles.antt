-- Profiles: at which columns of which relations a value stands (this project's own). A homomorphism keeps them.
--   has_at r i v f   == whether f is a fact of the relation r with v at column i, from 0
--   Mark             == a relation and a column
--   marks K v        == the relation and the column of each occurrence of v, fact by fact
--   profile K v      == the marks of v, each once, ascending by relation and then by column
--   is_within p q    == whether each mark of the one profile is in the other
use Rattle.std.specs.Prelude.{ℕ, Bool, false, ◌==◌, ◌&&◌, ◌||◌, cond, List, [], ◌∷◌, map, flat_map, option_map, unwrap_or, slice_get, ltb}
use Rattle.std.specs.List.{list_any, list_all}
use Rattle.eir_term.specs.declared.val.Val.{Val}
use Rattle.eir_term.specs.declared.fact.Fact.{Fact}
use Rattle.eir_term.specs.Lists.{places}
use Rattle.eir_term.specs.Values.{val_eq}

-- whether f is a fact of the relation with v at the column
abbrev pub has_at : ℕ → ℕ → Val → Fact → Bool
has_at r i v f = (f.rel == r) && unwrap_or (option_map (val_eq v) (slice_get f.args i)) false

-- a relation and a column
abbrev pub Mark : Type 0
Mark = ℕ × ℕ

-- whether the two marks are the same
abbrev pub mark_eq : Mark → Mark → Bool
mark_eq a b = (a.0 == b.0) && (a.1 == b.1)

-- by relation, then by column
abbrev pub is_mark_before : Mark → Mark → Bool
is_mark_before a b = ltb a.0 b.0 || ((a.0 == b.0) && ltb a.1 b.1)

-- the relation and the column of each occurrence of v, fact by fact
abbrev pub marks : List Fact → Val → List Mark
marks K v = flat_map (λ f. map (λ i. (f.rel, i)) (places (val_eq v) 0 f.args)) K

-- the ascending list with the mark at its place, unless it is there
abbrev pub with_mark : Mark → List Mark → List Mark
with_mark m [] = m ∷ []
with_mark m (q ∷ qs) = cond (mark_eq m q) (q ∷ qs) (cond (is_mark_before m q) (m ∷ q ∷ qs) (q ∷ with_mark m qs))

-- these marks, each once, ascending
abbrev pub in_order : List Mark → List Mark
in_order [] = []
in_order (m ∷ ms) = with_mark m (in_order ms)

-- the marks of v, each once, ascending
abbrev pub profile : List Fact → Val → List Mark
profile K v = in_order (marks K v)

-- whether each mark of the one is in the other
abbrev pub is_within : List Mark → List Mark → Bool
is_within ps qs = list_all (λ p. list_any (mark_eq p) qs) ps
