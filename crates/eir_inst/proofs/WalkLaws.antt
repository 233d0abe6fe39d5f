-- Walks along a list that count the elements that pass, look for the k-th of them, or for one element. The points are
-- `counted-below`, `sought-on` with `sought-skip`, and `absent-next`.
use Rattle.std.proofs.Common.{◌≡◌, ℕ, suc, ◌+◌, ◌<◌, ◌≤◌, inl, inr, Bool, true, false, cond, List, [], ◌∷◌, ◌++◌, filter, length, take, get_or, Option, slice_get, refl, sym, ◌∙◌, ap, ap₂, subst, arith, length-take}
use Rattle.std.proofs.lemmas.Bool.{cases_Bool}
use Rattle.std.proofs.Math.Seq.{take-suc}
use Rattle.eir_term.specs.Lists.{◌∈◌}
use Rattle.eir_term.proofs.ListLaws.{∈-append_cases}

-- what of a list is walked
pub take-at : {X : Type 0} (xs : List X) (i : ℕ) (x : X) → i < length xs → x ≡ get_or xs i x → take (i + 1) xs ≡ take i xs ++ x ∷ []
take-at xs i x l e = let c : i + 1 ≡ suc i = omega arith in ap (λ k. take k xs) c ∙ take-suc xs i x l ∙ ap (λ y. take i xs ++ y ∷ []) (sym e)

-- an element that is neither among those walked nor the next
pub absent-next : {X : Type 0} (y : X) (xs : List X) (i : ℕ) (x : X) → i < length xs → x ≡ get_or xs i x → (y ∈ take i xs → ⊥) → (y ≡ x → ⊥) → y ∈ take (i + 1) xs → ⊥
absent-next y xs i x l e a n h = elim (∈-append_cases y (take i xs) (x ∷ []) (subst (λ zs. y ∈ zs) (take-at xs i x l e) h)) [
  | inl k ↦ a k
  | inr k ↦ elim k [ inl s ↦ n s | inr k ↦ absurd k ]
]

module _ {X : Type 0} (p : X → Bool) where
  pub filter-append : (xs ys : List X) → filter p (xs ++ ys) ≡ filter p xs ++ filter p ys
  filter-append [] ys = refl
  filter-append (x ∷ xs) ys = elim (cases_Bool (p x)) [ inl t ↦ rw t (ap (λ zs. x ∷ zs) (filter-append xs ys)) | inr t ↦ rw t (filter-append xs ys) ]

  pub filter-last : (xs : List X) (x : X) → filter p (xs ++ x ∷ []) ≡ filter p xs ++ cond (p x) (x ∷ []) []
  filter-last xs x = filter-append xs (x ∷ [])

  pub length-filter : (xs : List X) → length (filter p xs) ≤ length xs
  length-filter [] = omega arith
  length-filter (x ∷ xs) = let r = length-filter xs in elim (cases_Bool (p x)) [ inl t ↦ rw t (omega arith) | inr t ↦ rw t (omega arith) ]

  -- the count stays below the turns
  pub counted-below : (xs : List X) (i n : ℕ) → n ≡ length (filter p (take i xs)) → n ≤ i
  counted-below xs i n s =
      let a = length-filter (take i xs) in
      let b = length-take i xs in
      omega arith

-- the turns of a walk that looks for the k-th of those that pass
module _ {X : Type 0} (goal : Option X) (left : ℕ) (rest more : List X) (x : X) (b : Bool) (s : goal ≡ slice_get rest left) (e : rest ≡ cond b (x ∷ more) more) where
  pub sought-on : (next : ℕ) → b ≡ true → suc next ≡ left → goal ≡ slice_get more next
  sought-on next t z = s ∙ ap₂ slice_get (e ∙ ap (λ q. cond q (x ∷ more) more) t) (sym z)

  pub sought-skip : b ≡ false → goal ≡ slice_get more left
  sought-skip t = s ∙ ap (λ ys. slice_get ys left) (e ∙ ap (λ q. cond q (x ∷ more) more) t)
