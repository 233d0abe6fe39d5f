-- The place that a search finds, as the place of an element.
use Rattle.std.proofs.Common.{◌≡◌, suc, ◌+◌, ◌≤◌, inl, inr, Bool, true, false, cond, Some, None, unwrap_or, List, []}
use Rattle.std.proofs.Common.{◌∷◌, length, position, nat_lt, refl, sym, ap, arith}
use Rattle.std.specs.List.{position_or_len}
use Rattle.std.proofs.lemmas.Bool.{cases_Bool, ltb-false}
use Rattle.std.proofs.lemmas.List.Recursion.{is_position_or_len}
use Rattle.eir_term.specs.Lists.{place_of}

-- a place is at most the length
pub place_of-bound : {X : Type 0} (eq : X → X → Bool) (x : X) (xs : List X) → place_of eq x xs ≤ length xs
place_of-bound eq x [] = omega arith
place_of-bound eq x (y ∷ ys) = elim (cases_Bool (eq x y))
    [ inl t ↦ rw t (omega arith) | inr t ↦ rw t (let h = place_of-bound eq x ys in omega arith) ]

-- the place of a value is where it is found, or the length
pub place_of-position : {X : Type 0} (eq : X → X → Bool) (x : X) (xs : List X) → unwrap_or (position (eq x) xs)
    (length xs) ≡ place_of eq x xs
place_of-position {X} eq x xs = by (nat_lt (position_or_len (eq x) xs) (length xs)) refl
  where
    e : place_of eq x xs ≡ position_or_len (eq x) xs
    e = is_position_or_len (place_of eq x) (eq x) refl
        (λ y ys. ap (λ k. cond (eq x y) 0 k) (let q : suc (place_of eq x ys) ≡ 1 + place_of eq x ys = omega arith in q))
        xs

    by : (b : Bool) → nat_lt (position_or_len (eq x) xs) (length xs) ≡ b →
        unwrap_or (cond b (Some (position_or_len (eq x) xs)) None) (length xs) ≡ place_of eq x xs
    by true t = sym e
    by false t = let h : length xs ≤ position_or_len (eq x) xs = ltb-false (position_or_len (eq x) xs) (length xs) t in
        let k = place_of-bound eq x xs in let p = e in let q : length xs ≡ place_of eq x xs = omega arith in q
