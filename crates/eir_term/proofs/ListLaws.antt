-- Laws of lists as finite sets.
use Rattle.std.proofs.Common.{◌≡◌, ◌≢◌, ◌⊎◌, ◌+◌, suc, inl, inr, Bool, true, false, cond, Decides, List, [], ◌∷◌, ◌++◌, map, filter, flat_map, length, Some, slice_get, refl, sym, ◌∙◌, ap, ap₂, subst, arith}
use Rattle.std.specs.List.{list_any}
use Rattle.std.proofs.lemmas.Bool.{cases_Bool, or_cases, false≢true}
use Rattle.eir_term.specs.Lists.{◌∈◌, IsDistinct, without, distinct, place_of}

module _ {X : Type 0} where
  pub ∈-append_left : (x : X) (xs ys : List X) → x ∈ xs → x ∈ (xs ++ ys)
  ∈-append_left x [] ys h = elim h [ ]
  ∈-append_left x (z ∷ xs) ys (inl e) = inl e
  ∈-append_left x (z ∷ xs) ys (inr h) = inr (∈-append_left x xs ys h)

  pub ∈-append_right : (x : X) (xs ys : List X) → x ∈ ys → x ∈ (xs ++ ys)
  ∈-append_right x [] ys h = h
  ∈-append_right x (z ∷ xs) ys h = inr (∈-append_right x xs ys h)

  pub ∈-append_cases : (x : X) (xs ys : List X) → x ∈ (xs ++ ys) → (x ∈ xs) ⊎ (x ∈ ys)
  ∈-append_cases x [] ys h = inr h
  ∈-append_cases x (z ∷ xs) ys (inl e) = inl (inl e)
  ∈-append_cases x (z ∷ xs) ys (inr h) = elim (∈-append_cases x xs ys h) [ inl k ↦ inl (inr k) | inr k ↦ inr k ]

  pub ∈-filter : (p : X → Bool) (x : X) (xs : List X) → p x ≡ true → x ∈ xs → x ∈ filter p xs
  ∈-filter p x [] t h = elim h [ ]
  ∈-filter p x (z ∷ xs) t (inl e) = rw (sym (ap p e) ∙ t) (inl e)
  ∈-filter p x (z ∷ xs) t (inr h) = elim (cases_Bool (p z)) [ inl s ↦ rw s (inr (∈-filter p x xs t h)) | inr s ↦ rw s (∈-filter p x xs t h) ]

  pub ∈-filter_from : (p : X → Bool) (x : X) (xs : List X) → x ∈ filter p xs → (x ∈ xs) × (p x ≡ true)
  ∈-filter_from p x [] h = elim h [ ]
  ∈-filter_from p x (z ∷ xs) h = by (p z) refl (∈-filter_from p x xs) h
    where
      by : (b : Bool) → p z ≡ b → (x ∈ filter p xs → (x ∈ xs) × (p x ≡ true)) → x ∈ cond b (z ∷ filter p xs) (filter p xs) → (x ∈ (z ∷ xs)) × (p x ≡ true)
      by true t rest (inl e) = (inl e, ap p e ∙ t)
      by true t rest (inr k) = (inr (rest k).0, (rest k).1)
      by false t rest k = (inr (rest k).0, (rest k).1)

  -- a filter leaves no element twice
  pub IsDistinct-filter : (p : X → Bool) (xs : List X) → IsDistinct xs → IsDistinct (filter p xs)
  IsDistinct-filter p [] d = tt
  IsDistinct-filter p (x ∷ xs) d = elim (cases_Bool (p x))
      [ inl t ↦ rw t (λ h. d.0 (∈-filter_from p x xs h).0, IsDistinct-filter p xs d.1) | inr t ↦ rw t (IsDistinct-filter p xs d.1) ]

  -- tests that agree on the elements keep the same ones
  pub filter-agree : (p q : X → Bool) (xs : List X) → ((x : X) → x ∈ xs → p x ≡ q x) → filter p xs ≡ filter q xs
  filter-agree p q [] e = refl
  filter-agree p q (x ∷ xs) e = ap₂ (λ b ys. cond b (x ∷ ys) ys) (e x (inl refl)) (filter-agree p q xs (λ y i. e y (inr i)))

  -- an element that passes is found
  pub list_any-some : (p : X → Bool) (x : X) (xs : List X) → p x ≡ true → x ∈ xs → list_any p xs ≡ true
  list_any-some p x [] t h = elim h [ ]
  list_any-some p x (z ∷ xs) t (inl e) = rw (sym (ap p e) ∙ t)
  list_any-some p x (z ∷ xs) t (inr h) =
      elim (cases_Bool (p z)) [ inl s ↦ rw s | inr s ↦ rw s (list_any-some p x xs t h) ]

  -- and none is found where none passes
  pub list_any-none : (p : X → Bool) (xs : List X) → ((x : X) → x ∈ xs → p x ≡ false) → list_any p xs ≡ false
  list_any-none p [] e = refl
  list_any-none p (x ∷ xs) e = rw (e x (inl refl)) (list_any-none p xs (λ y i. e y (inr i)))

module _ {X Y : Type 0} where
  pub ∈-map : (f : X → Y) (x : X) (xs : List X) → x ∈ xs → f x ∈ map f xs
  ∈-map f x [] h = elim h [ ]
  ∈-map f x (z ∷ xs) (inl e) = inl (ap f e)
  ∈-map f x (z ∷ xs) (inr h) = inr (∈-map f x xs h)

  pub ∈-map_from : (f : X → Y) (y : Y) (xs : List X) → y ∈ map f xs → (x : X) × (x ∈ xs) × (y ≡ f x)
  ∈-map_from f y [] h = elim h [ ]
  ∈-map_from f y (z ∷ xs) (inl e) = (z, inl refl, e)
  ∈-map_from f y (z ∷ xs) (inr h) = let r = ∈-map_from f y xs h in (r.0, inr r.1, r.2)

  pub ∈-flat_map : (f : X → List Y) (x : X) (y : Y) (xs : List X) → x ∈ xs → y ∈ f x → y ∈ flat_map f xs
  ∈-flat_map f x y [] h k = elim h [ ]
  ∈-flat_map f x y (z ∷ xs) (inl e) k = ∈-append_left y (f z) (flat_map f xs) (subst (λ u. y ∈ f u) e k)
  ∈-flat_map f x y (z ∷ xs) (inr h) k = ∈-append_right y (f z) (flat_map f xs) (∈-flat_map f x y xs h k)

  pub ∈-flat_map_from : (f : X → List Y) (y : Y) (xs : List X) → y ∈ flat_map f xs → (x : X) × (x ∈ xs) × (y ∈ f x)
  ∈-flat_map_from f y [] h = elim h [ ]
  ∈-flat_map_from f y (z ∷ xs) h = elim (∈-append_cases y (f z) (flat_map f xs) h)
      [ inl k ↦ (z, inl refl, k) | inr k ↦ (let r = ∈-flat_map_from f y xs k in (r.0, inr r.1, r.2)) ]

module _ {X : Type 0} (eq : X → X → Bool) (same : (a b : X) → Decides (eq a b) (a ≡ b)) where
  pub eq-refl : (x : X) → eq x x ≡ true
  eq-refl x = (same x x).1 refl

  pub apart-false : (x y : X) → x ≢ y → eq x y ≡ false
  apart-false x y ne = by (eq x y) refl
    where
      by : (b : Bool) → eq x y ≡ b → eq x y ≡ false
      by true t = absurd (ne ((same x y).0 t))
      by false t = t

  pub false-apart : (x y : X) → eq x y ≡ false → x ≢ y
  false-apart x y f e = let t : eq x y ≡ true = (same x y).1 e in cc

  pub ∈-without : (x y : X) (xs : List X) → y ≢ x → x ∈ xs → x ∈ without eq y xs
  ∈-without x y [] ne h = elim h [ ]
  ∈-without x y (z ∷ xs) ne (inl e) = rw (apart-false y z (λ k. ne (k ∙ sym e))) (inl e)
  ∈-without x y (z ∷ xs) ne (inr h) = elim (cases_Bool (eq y z)) [ inl s ↦ rw s (∈-without x y xs ne h) | inr s ↦ rw s (inr (∈-without x y xs ne h)) ]

  pub ∈-without_from : (x y : X) (xs : List X) → x ∈ without eq y xs → (x ∈ xs) × (y ≢ x)
  ∈-without_from x y [] h = elim h [ ]
  ∈-without_from x y (z ∷ xs) h = by (eq y z) refl (∈-without_from x y xs) h
    where
      by : (b : Bool) → eq y z ≡ b → (x ∈ without eq y xs → (x ∈ xs) × (y ≢ x)) → x ∈ cond b (without eq y xs) (z ∷ without eq y xs) → (x ∈ (z ∷ xs)) × (y ≢ x)
      by true t rest k = (inr (rest k).0, (rest k).1)
      by false t rest (inl e) = (inl e, λ k. false-apart y z t (k ∙ e))
      by false t rest (inr k) = (inr (rest k).0, (rest k).1)

  pub ∈-distinct : (x : X) (xs : List X) → x ∈ xs → x ∈ distinct eq xs
  ∈-distinct x [] h = elim h [ ]
  ∈-distinct x (z ∷ xs) (inl e) = inl e
  ∈-distinct x (z ∷ xs) (inr h) = elim (cases_Bool (eq z x))
      [ inl t ↦ inl (sym ((same z x).0 t)) | inr t ↦ inr (∈-without x z (distinct eq xs) (false-apart z x t) (∈-distinct x xs h)) ]

  pub ∈-distinct_from : (x : X) (xs : List X) → x ∈ distinct eq xs → x ∈ xs
  ∈-distinct_from x [] h = elim h [ ]
  ∈-distinct_from x (z ∷ xs) (inl e) = inl e
  ∈-distinct_from x (z ∷ xs) (inr h) = inr (∈-distinct_from x xs (∈-without_from x z (distinct eq xs) h).0)

  pub IsDistinct-without : (y : X) (xs : List X) → IsDistinct xs → IsDistinct (without eq y xs)
  IsDistinct-without y [] d = tt
  IsDistinct-without y (z ∷ xs) d = elim (cases_Bool (eq y z))
      [ inl s ↦ rw s (IsDistinct-without y xs d.1) | inr s ↦ rw s (λ h. d.0 (∈-without_from z y xs h).0, IsDistinct-without y xs d.1) ]

  pub IsDistinct-distinct : (xs : List X) → IsDistinct (distinct eq xs)
  IsDistinct-distinct [] = tt
  IsDistinct-distinct (x ∷ xs) = (λ h. (∈-without_from x x (distinct eq xs) h).1 refl, IsDistinct-without x (distinct eq xs) (IsDistinct-distinct xs))

  pub slice_get-place_of : (x : X) (xs : List X) → x ∈ xs → slice_get xs (place_of eq x xs) ≡ Some x
  slice_get-place_of x [] h = elim h [ ]
  slice_get-place_of x (z ∷ xs) (inl e) = rw ((same x z).1 e) (ap Some (sym e))
  slice_get-place_of x (z ∷ xs) (inr h) = elim (cases_Bool (eq x z))
      [ inl s ↦ rw s (ap Some (sym ((same x z).0 s))) | inr s ↦ rw s (slice_get-place_of x xs h) ]

  -- where an element is not the head, its place is one more than in the tail
  pub place_of-tail : (x y : X) (xs : List X) → x ≢ y → place_of eq x (y ∷ xs) ≡ suc (place_of eq x xs)
  place_of-tail x y xs ne = rw (apart-false x y ne)

  -- where the first list lacks an element, its place is counted on from that list's length
  pub place_of-append_right : (x : X) (xs ys : List X) → (x ∈ xs → ⊥) → place_of eq x (xs ++ ys) ≡ length xs + place_of eq x ys
  place_of-append_right x [] ys absent = omega arith
  place_of-append_right x (z ∷ xs) ys absent =
      let e = place_of-tail x z (xs ++ ys) (λ k. absent (inl k)) in
      let r = place_of-append_right x xs ys (λ k. absent (inr k)) in
      omega arith

  pub ∈-list_any : (x : X) (xs : List X) → x ∈ xs → list_any (eq x) xs ≡ true
  ∈-list_any x xs h = list_any-some (eq x) x xs (eq-refl x) h

  pub ∈-list_any_from : (x : X) (xs : List X) → list_any (eq x) xs ≡ true → x ∈ xs
  ∈-list_any_from x [] t = absurd (false≢true t)
  ∈-list_any_from x (z ∷ xs) t = elim (or_cases (eq x z) (list_any (eq x) xs) t) [ inl s ↦ inl ((same x z).0 s) | inr s ↦ inr (∈-list_any_from x xs s) ]

  pub list_any-decides : (x : X) (xs : List X) → Decides (list_any (eq x) xs) (x ∈ xs)
  list_any-decides x xs = (∈-list_any_from x xs, ∈-list_any x xs)

-- a new element may stand last
pub IsDistinct-push : {X : Type 0} (xs : List X) (x : X) → IsDistinct xs → (x ∈ xs → ⊥) → IsDistinct (xs ++ x ∷ [])
IsDistinct-push [] x d n = (λ h. h, tt)
IsDistinct-push (y ∷ xs) x d n =
    (λ h. elim (∈-append_cases y xs (x ∷ []) h) [ inl k ↦ d.0 k | inr k ↦ elim k [ inl e ↦ n (inl (sym e)) | inr k ↦ absurd k ] ], IsDistinct-push xs x d.1 (λ h. n (inr h)))
