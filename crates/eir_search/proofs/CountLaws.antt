-- How many tries a search makes from its beginning to its end, and which lists they tell. The point is `tries-all` and
-- `told-all`.
use Rattle.std.proofs.Common.{◌≡◌, ℕ, zero, suc, ◌+◌, ◌-◌, ◌<◌, inl, inr, List, [], ◌∷◌, ◌++◌, length, filter, flat_map, refl, ap, ◌∙◌, arith, length-append, append-nil}
use Rattle.std.specs.List.{range_with_len, sum_by}
use Rattle.std.proofs.lemmas.Bool.{cases_Bool, ne_eqb}
use Rattle.std.proofs.lemmas.List.Elements.{filter_map-append}
use Rattle.std.proofs.lemmas.List.Sums.{sum_by-cons}
use Rattle.std.proofs.lemmas.List.FromFn.{length-range_with_len}
use Rattle.eir_search.specs.Spaces.{Space, full_lists, need}
use Rattle.eir_search.specs.Tries.{Event, tries_at, tries_from, tries_after, tries_below, tries_above, coming, tries_left, told}

-- one try for each choice, and below each good one as many as its need
length-tries_at : (s : Space) (t : ℕ) (p cs : List ℕ) → ((q : List ℕ) → length (tries_after s t q) ≡ need s t q + 1) →
    length (flat_map (tries_at s (tries_after s t) p) cs) ≡ length cs + sum_by (λ c. need s t (p ++ c ∷ [])) (filter (λ c. s.good (p ++ c ∷ [])) cs)
length-tries_at s t p [] h = refl
length-tries_at s t p (c ∷ cs) h =
    elim (cases_Bool (s.good (p ++ c ∷ []))) [
      | inl e ↦ rw (e, length-append, sum_by-cons (λ d. need s t (p ++ d ∷ [])) c (filter (λ d. s.good (p ++ d ∷ [])) cs)) (omega (arith, h (p ++ c ∷ []), length-tries_at s t p cs h))
      | inr e ↦ rw (e, length-append) (omega (arith, length-tries_at s t p cs h))
    ]

length-tries_from : (s : Space) (t : ℕ) (p : List ℕ) → ((q : List ℕ) → length (tries_after s t q) ≡ need s t q + 1) → length (tries_from s (tries_after s t) p 0) ≡ need s (suc t) p
unfolding need
length-tries_from s t p h =
    let all : s.width p - 0 ≡ s.width p = omega arith in
    rw all (omega (arith, length-tries_at s t p (range_with_len 0 (s.width p)) h, length-range_with_len 0 (s.width p)))

-- a placed good list takes the try that placed it, and its need
length-tries_after : (s : Space) (t : ℕ) (p : List ℕ) → length (tries_after s t p) ≡ need s t p + 1
unfolding tries_after need
length-tries_after s zero p = refl
length-tries_after s (suc t) p = omega (arith, length-tries_from s t p (length-tries_after s t))

length-tries_below : (s : Space) (t : ℕ) (p : List ℕ) → length (tries_below s (suc t) p 0) ≡ need s (suc t) p
unfolding tries_below
length-tries_below s t p = length-tries_from s t p (length-tries_after s t)

-- where nothing was tried, all tries are below the empty list
coming-all : (s : Space) → coming s [] 0 ≡ tries_below s s.levels [] 0
unfolding coming tries_above
coming-all s = let off : s.levels - 0 ≡ s.levels = omega arith in rw off (append-nil (tries_below s s.levels [] 0))

pub tries_left-none : (s : Space) (p : List ℕ) (c : ℕ) → s.levels ≡ 0 → tries_left s p c ≡ 0
tries_left-none s p c z = rw z refl

pub tries_left-some : (s : Space) (p : List ℕ) (c : ℕ) → 0 < s.levels → tries_left s p c ≡ length (coming s p c)
tries_left-some s p c h = rw (ne_eqb s.levels 0 (λ z. omega arith)) refl

-- from the beginning to the end there are as many tries as the need
pub tries-all : (s : Space) → tries_left s [] 0 ≡ need s s.levels []
unfolding need
tries-all s = by s.levels refl
  where
    by : (n : ℕ) → s.levels ≡ n → tries_left s [] 0 ≡ need s n []
    by zero e = tries_left-none s [] 0 e
    by (suc t) e =
        tries_left-some s [] 0 (omega arith) ∙ ap length (coming-all s ∙ ap (λ n. tries_below s n [] 0) e) ∙ length-tries_below s t []

-- ---- the lists that are told

told-append : (a b : List Event) → told (a ++ b) ≡ told a ++ told b
told-append a b = filter_map-append (λ event. event) a b

told-tries_at : (s : Space) (t : ℕ) (p cs : List ℕ) → ((q : List ℕ) → told (tries_after s t q) ≡ full_lists s t q) →
    told (flat_map (tries_at s (tries_after s t) p) cs) ≡ flat_map (λ c. full_lists s t (p ++ c ∷ [])) (filter (λ c. s.good (p ++ c ∷ [])) cs)
told-tries_at s t p [] h = refl
told-tries_at s t p (c ∷ cs) h =
    elim (cases_Bool (s.good (p ++ c ∷ []))) [
      | inl e ↦ rw (e, told-append (tries_after s t (p ++ c ∷ [])) (flat_map (tries_at s (tries_after s t) p) cs), h (p ++ c ∷ []), told-tries_at s t p cs h) refl
      | inr e ↦ rw (e, told-tries_at s t p cs h) refl
    ]

told-tries_from : (s : Space) (t : ℕ) (p : List ℕ) → ((q : List ℕ) → told (tries_after s t q) ≡ full_lists s t q) → told (tries_from s (tries_after s t) p 0) ≡ full_lists s (suc t) p
unfolding full_lists
told-tries_from s t p h =
    let all : s.width p - 0 ≡ s.width p = omega arith in
    rw all (told-tries_at s t p (range_with_len 0 (s.width p)) h)

told-tries_after : (s : Space) (t : ℕ) (p : List ℕ) → told (tries_after s t p) ≡ full_lists s t p
unfolding tries_after full_lists
told-tries_after s zero p = refl
told-tries_after s (suc t) p = told-tries_from s t p (told-tries_after s t)

told-tries_below : (s : Space) (t : ℕ) (p : List ℕ) → told (tries_below s t p 0) ≡ full_lists s t p
unfolding tries_below full_lists
told-tries_below s zero p = refl
told-tries_below s (suc t) p = told-tries_from s t p (told-tries_after s t)

-- they are all good full lists, in order
pub told-all : (s : Space) → told (coming s [] 0) ≡ full_lists s s.levels []
told-all s = ap told (coming-all s) ∙ told-tries_below s s.levels []
