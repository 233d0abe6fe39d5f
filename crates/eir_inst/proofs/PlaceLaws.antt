-- Places of the elements that pass, against the elements that pass. The points are `places-push`: one element more, and
-- `length-places`: there are as many.
use Rattle.std.proofs.Common.{◌≡◌, ℕ, suc, ◌+◌, inl, inr, Bool, cond, List, [], ◌∷◌, ◌++◌, filter, length, refl, ◌∙◌, ap, arith}
use Rattle.std.proofs.lemmas.Bool.{cases_Bool}
use Rattle.eir_term.specs.Lists.{places}

module _ {X : Type 0} (p : X → Bool) where
  -- an element more has the place behind the others, if it passes
  pub places-push : (n : ℕ) (xs : List X) (x : X) → places p n (xs ++ x ∷ []) ≡ places p n xs ++ cond (p x) ((n + length xs) ∷ []) []
  places-push n [] x = let e : n + 0 ≡ n = omega arith in rw e refl
  places-push n (y ∷ xs) x =
      let r = places-push (suc n) xs x in
      let e : suc n + length xs ≡ n + suc (length xs) = omega arith in
      elim (cases_Bool (p y)) [ inl t ↦ rw t (ap (λ qs. n ∷ qs) (r ∙ ap (λ k. places p (suc n) xs ++ cond (p x) (k ∷ []) []) e)) | inr t ↦ rw t (r ∙ ap (λ k. places p (suc n) xs ++ cond (p x) (k ∷ []) []) e) ]

  -- there are as many places as elements that pass
  pub length-places : (n : ℕ) (xs : List X) → length (places p n xs) ≡ length (filter p xs)
  length-places n [] = refl
  length-places n (x ∷ xs) = elim (cases_Bool (p x)) [ inl t ↦ rw t (ap suc (length-places (suc n) xs)) | inr t ↦ rw t (length-places (suc n) xs) ]
