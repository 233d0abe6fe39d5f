-- First places and tests in lists, and in lists of images; all places of the elements that pass.
use Rattle.std.proofs.Common.{◌≡◌, ℕ, zero, suc, ◌+◌, ◌<◌, inl, inr, Bool, true, false, not, cond, ltb, List, [], ◌∷◌, ◌++◌, map, filter, length, Some, None, slice_get, refl, sym, ◌∙◌, ap, subst, arith}
use Rattle.std.specs.List.{list_any, position, position_or_len}
use Rattle.std.proofs.lemmas.Bool.{cases_Bool, ltb-true}
use Rattle.std.proofs.lemmas.Option.{none-some, same_Some}
use Rattle.eir_term.specs.Lists.{place_of, places}

-- a place, and a test, in a list of images
pub place_of-map : {X Y : Type 0} (eq : X → X → Bool) (h : Y → X) (x : X) (ys : List Y) → place_of eq x (map h ys) ≡ position_or_len (λ y. eq x (h y)) ys
place_of-map eq h x [] = refl
place_of-map eq h x (y ∷ ys) = elim (cases_Bool (eq x (h y))) [ inl t ↦ rw t | inr t ↦ rw t (omega (arith, place_of-map eq h x ys)) ]

pub list_any-map : {X Y : Type 0} (p : X → Bool) (h : Y → X) (ys : List Y) → list_any p (map h ys) ≡ list_any (λ y. p (h y)) ys
list_any-map p h [] = refl
list_any-map p h (y ∷ ys) = rw (list_any-map p h ys)

module _ {X : Type 0} (p : X → Bool) where
  -- the place that a search gives is the first one and lies in the list
  pub position-some : (xs : List X) (n : ℕ) → position p xs ≡ Some n → (n < length xs) × (n ≡ position_or_len p xs)
  position-some xs n s = elim (cases_Bool (ltb (position_or_len p xs) (length xs))) [
    | inl t ↦ (
        let e : Some (position_or_len p xs) ≡ Some n = sym (rw t) ∙ s in
        let place : n ≡ position_or_len p xs = cc in
        let within = ltb-true _ _ t in
        (subst (λ k. k < length xs) (sym place) within, place)
        )
    | inr t ↦ (let e : None ≡ Some n = sym (rw t) ∙ s in absurd (none-some n e))
  ]

  -- an element at whose place the list has not ended passes
  pub list_any-position : (xs : List X) → position_or_len p xs < length xs → list_any p xs ≡ true
  list_any-position [] l = absurd (omega arith)
  list_any-position (x ∷ xs) l = by (p x) refl (list_any-position xs) l
    where
      by : (b : Bool) → p x ≡ b → (position_or_len p xs < length xs → list_any p xs ≡ true) → cond (not b) (1 + position_or_len p xs) 0 < suc (length xs) → list_any p (x ∷ xs) ≡ true
      by true t rest l = rw t
      by false t rest l = rw t (rest (omega arith))

  -- ---- all places of the elements that pass

  -- of one element more it is the place behind the others, if it passes
  pub places-last : (n : ℕ) (xs : List X) (x : X) → places p n (xs ++ x ∷ []) ≡ places p n xs ++ cond (p x) ((n + length xs) ∷ []) []
  places-last n [] x = let e : n + 0 ≡ n = omega arith in rw e refl
  places-last n (y ∷ xs) x =
      let tail = places-last (suc n) xs x in
      let e : suc n + length xs ≡ n + suc (length xs) = omega arith in
      let all = tail ∙ ap (λ k. places p (suc n) xs ++ cond (p x) (k ∷ []) []) e in
      elim (cases_Bool (p y)) [ inl t ↦ rw t (ap (λ ks. n ∷ ks) all) | inr t ↦ rw t all ]

  -- they are as many as the elements that pass
  pub length-places : (n : ℕ) (xs : List X) → length (places p n xs) ≡ length (filter p xs)
  length-places n [] = refl
  length-places n (x ∷ xs) = elim (cases_Bool (p x)) [ inl t ↦ rw t (ap suc (length-places (suc n) xs)) | inr t ↦ rw t (length-places (suc n) xs) ]

  -- where there is no k-th place, no k-th element passes
  pub none-at : (n : ℕ) (xs : List X) (k : ℕ) → slice_get (places p n xs) k ≡ None → slice_get (filter p xs) k ≡ None
  none-at n [] k e = refl
  none-at n (x ∷ xs) k e = by (p x) k e (none-at (suc n) xs)
    where
      by : (b : Bool) (k : ℕ) → slice_get (cond b (n ∷ places p (suc n) xs) (places p (suc n) xs)) k ≡ None → ((j : ℕ) → slice_get (places p (suc n) xs) j ≡ None → slice_get (filter p xs) j ≡ None) →
          slice_get (cond b (x ∷ filter p xs) (filter p xs)) k ≡ None
      by true zero e rest = absurd (none-some n (sym e))
      by true (suc k) e rest = rest k e
      by false k e rest = rest k e

  -- the k-th element that passes stands at the k-th place, which is counted on from n
  pub passes-at : (n : ℕ) (xs : List X) (k q : ℕ) → slice_get (places p n xs) k ≡ Some q → (m : ℕ) × (q ≡ n + m) × (slice_get (filter p xs) k ≡ slice_get xs m)
  passes-at n [] k q e = absurd (none-some q e)
  passes-at n (x ∷ xs) k q e = by (p x) k e (λ j d. let r = passes-at (suc n) xs j q d in let c = r.1 in (suc r.0, omega arith, r.2))
    where
      by : (b : Bool) (k : ℕ) → slice_get (cond b (n ∷ places p (suc n) xs) (places p (suc n) xs)) k ≡ Some q →
          ((j : ℕ) → slice_get (places p (suc n) xs) j ≡ Some q → (m : ℕ) × (q ≡ n + m) × (slice_get (filter p xs) j ≡ slice_get (x ∷ xs) m)) →
          (m : ℕ) × (q ≡ n + m) × (slice_get (cond b (x ∷ filter p xs) (filter p xs)) k ≡ slice_get (x ∷ xs) m)
      by true zero e rest = let c = same_Some n q e in (zero, omega arith, refl)
      by true (suc k) e rest = rest k e
      by false k e rest = rest k e
