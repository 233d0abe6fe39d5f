-- How the tries that are still to come change with each try. The point is `coming-bad`, `coming-deeper` and
-- `coming-full`: a try takes the first event off; `coming-up`: where a level has no choice left, the next one above
-- comes; `coming-none` and `coming-some`: something is left exactly where a choice is.
use Rattle.std.proofs.Common.{◌≡◌, ℕ, zero, suc, ◌+◌, ◌-◌, ◌<◌, ◌≤◌, inl, inr, true, false, List, [], ◌∷◌, ◌++◌, length, take, drop, set, get_or, Some, None, refl, ap, sym, ◌∙◌, arith, append_assoc, length-append}
use Rattle.std.proofs.Math.Nat.{eq-or-lt_of_le}
use Rattle.std.proofs.lemmas.Bool.{cases_Bool}
use Rattle.std.proofs.lemmas.List.{take-take, take-append-le, take-append-drop, length-take-le, get_or-take, get_or_append_left}
use Rattle.std.proofs.Math.Seq.{take-append_seam, get_or-append_seam, take-suc-set}
use Rattle.eir_search.specs.Spaces.{Space}
use Rattle.eir_search.specs.Tries.{tries_after, tries_below, tries_above, coming}

-- ---- below a placed list

-- at a choice that is not good the first try tells nothing, and the next choice comes
below-bad : (s : Space) (t : ℕ) (p : List ℕ) (c : ℕ) → c < s.width p → s.good (p ++ c ∷ []) ≡ false → tries_below s (suc t) p c ≡ None ∷ tries_below s (suc t) p (c + 1)
unfolding tries_below
below-bad s t p c w bad = let m : s.width p - c ≡ suc (s.width p - (c + 1)) = omega arith in rw (m, bad) refl

-- at a good one the tries after it come first
below-good : (s : Space) (t : ℕ) (p : List ℕ) (c : ℕ) → c < s.width p → s.good (p ++ c ∷ []) ≡ true → tries_below s (suc t) p c ≡ tries_after s t (p ++ c ∷ []) ++ tries_below s (suc t) p (c + 1)
unfolding tries_below
below-good s t p c w good = let m : s.width p - c ≡ suc (s.width p - (c + 1)) = omega arith in rw (m, good) refl

-- a level with no choice left has no tries
below-none : (s : Space) (t : ℕ) (p : List ℕ) (c : ℕ) → s.width p ≤ c → tries_below s (suc t) p c ≡ []
unfolding tries_below
below-none s t p c w = let m : s.width p - c ≡ 0 = omega arith in rw m refl

-- nor has a full list that was told
below-told : (s : Space) (p : List ℕ) (c : ℕ) → 0 < c → tries_below s 0 p c ≡ []
unfolding tries_below
below-told s p zero h = absurd (omega arith)
below-told s p (suc c) h = refl

-- ---- above a placed list

-- the tries above a level read no choice from that level on
above-append : (s : Space) (p q : List ℕ) (level : ℕ) → level ≤ length p → tries_above s (p ++ q) level ≡ tries_above s p level
unfolding tries_above
above-append s p q zero h = refl
above-append s p q (suc level) h =
    let le : level ≤ length p = omega arith in
    let same : take level (p ++ q) ≡ take level p = take-append-le level p q le in
    let item : get_or (p ++ q) level 0 ≡ get_or p level 0 = get_or_append_left p q 0 level h in
    rw (same, item, above-append s p q level le) refl

above-take : (s : Space) (n : ℕ) (p : List ℕ) (level : ℕ) → level ≤ n → n ≤ length p → tries_above s (take n p) level ≡ tries_above s p level
above-take s n p level le within =
    let long : level ≤ length (take n p) = omega (arith, length-take-le n p within) in
    sym (above-append s (take n p) (drop n p) level long) ∙ ap (λ l. tries_above s l level) (take-append-drop n p)

-- with one more choice placed, what follows that choice is above
above-placed : (s : Space) (p : List ℕ) (c : ℕ) → tries_above s (p ++ c ∷ []) (suc (length p)) ≡ tries_below s (s.levels - length p) p (c + 1) ++ tries_above s p (length p)
unfolding tries_above
above-placed s p c =
    rw (take-append_seam p (c ∷ []), get_or-append_seam p c [] 0, above-append s p (c ∷ []) (length p) (omega arith)) refl

-- ---- where a list is placed

length-placed : (p : List ℕ) (c : ℕ) → length (p ++ c ∷ []) ≡ suc (length p)
length-placed p c = omega (arith, length-append p (c ∷ []))

-- a choice that is written behind the placed ones is placed
pub take-placed : (choices p : List ℕ) (level c : ℕ) → level < length choices → take level choices ≡ p → take (level + 1) (set choices level c) ≡ p ++ c ∷ []
take-placed choices p level c lt e =
    let k : level + 1 ≡ suc level = omega arith in
    rw (k, take-suc-set choices level c lt, e) refl

-- a choice that is not good: its try tells nothing, and the next choice comes
pub coming-bad : (s : Space) (p : List ℕ) (c : ℕ) → length p < s.levels → c < s.width p → s.good (p ++ c ∷ []) ≡ false → coming s p c ≡ None ∷ coming s p (c + 1)
unfolding coming
coming-bad s p c lt w bad =
    let m : s.levels - length p ≡ suc (s.levels - (length p + 1)) = omega arith in
    rw (m, below-bad s (s.levels - (length p + 1)) p c w bad) refl

-- a good choice at the last level: its try tells the list
pub coming-full : (s : Space) (p : List ℕ) (c : ℕ) → length p + 1 ≡ s.levels → c < s.width p → s.good (p ++ c ∷ []) ≡ true → coming s p c ≡ Some (p ++ c ∷ []) ∷ coming s (p ++ c ∷ []) 1
unfolding coming tries_after
coming-full s p c full w good =
    let m : s.levels - length p ≡ suc 0 = omega arith in
    let z : s.levels - suc (length p) ≡ 0 = omega arith in
    rw (length-placed p c, above-placed s p c, z, m, below-good s 0 p c w good, below-told s (p ++ c ∷ []) 1 (omega arith)) refl

-- a good choice above the last level: its try tells nothing, and the choices after it come
pub coming-deeper : (s : Space) (p : List ℕ) (c : ℕ) → length p + 1 < s.levels → c < s.width p → s.good (p ++ c ∷ []) ≡ true → coming s p c ≡ None ∷ coming s (p ++ c ∷ []) 0
unfolding coming tries_after tries_below
coming-deeper s p c deep w good =
    let t : ℕ = s.levels - (length p + 2) in
    let m : s.levels - length p ≡ suc (suc t) = omega arith in
    let z : s.levels - suc (length p) ≡ suc t = omega arith in
    rw (length-placed p c, above-placed s p c, z, m, below-good s (suc t) p c w good) (simp append_assoc)

-- ---- where a level has no choice left

-- no choice is left after this list: it is full and was told, or all its choices were tried
pub record IsExhausted (s : Space) (p : List ℕ) (c : ℕ) : Type 0 where
  pub within : length p ≤ s.levels
  pub full : length p ≡ s.levels → 0 < c
  pub tried : length p < s.levels → s.width p ≤ c

below-exhausted : (s : Space) (p : List ℕ) (c : ℕ) → IsExhausted s p c → tries_below s (s.levels - length p) p c ≡ []
below-exhausted s p c x =
    elim (eq-or-lt_of_le x.within) [
      | inl e ↦ (let m : s.levels - length p ≡ 0 = omega arith in rw m (below-told s p c (x.full e)))
      | inr lt ↦ (let m : s.levels - length p ≡ suc (s.levels - (length p + 1)) = omega arith in rw m (below-none s (s.levels - (length p + 1)) p c (x.tried lt)))
    ]

-- nothing is left at all where nothing is placed
pub coming-none : (s : Space) (p : List ℕ) (c : ℕ) → length p ≡ 0 → IsExhausted s p c → coming s p c ≡ []
unfolding coming tries_above
coming-none s p c z x = rw (below-exhausted s p c x, z) refl

-- else the choice after the last placed one comes
pub coming-up : (s : Space) (p : List ℕ) (c level : ℕ) → length p ≡ level + 1 → IsExhausted s p c → coming s p c ≡ coming s (take level p) (get_or p level 0 + 1)
unfolding coming tries_above
coming-up s p c level n x =
    let k : length p ≡ suc level = omega arith in
    let l : length (take level p) ≡ level = length-take-le level p (omega arith) in
    rw (below-exhausted s p c x, k, l, above-take s level p level (omega arith) (omega arith)) refl

-- the same, where the list is the beginning of a longer one
pub coming-up-in : (s : Space) (p : List ℕ) (n c level : ℕ) → n ≡ level + 1 → n ≤ length p → IsExhausted s (take n p) c → coming s (take n p) c ≡ coming s (take level p) (get_or p level 0 + 1)
coming-up-in s p n c level up le x =
    let long : length (take n p) ≡ level + 1 = length-take-le n p le ∙ up in
    let same : take level (take n p) ≡ take level p = take-take level n p (omega arith) in
    let item : get_or (take n p) level 0 ≡ get_or p level 0 = get_or-take n p level 0 (omega arith) in
    coming-up s (take n p) c level long x ∙ ap (λ l. coming s l (get_or (take n p) level 0 + 1)) same ∙ ap (λ j. coming s (take level p) (j + 1)) item

-- no choice is left after the beginning of a placed list
pub exhausted-at : (s : Space) (p : List ℕ) (level c : ℕ) → level ≤ length p → length p ≤ s.levels → (level ≡ s.levels → 0 < c) → (level < s.levels → s.width (take level p) ≤ c) → IsExhausted s (take level p) c
exhausted-at s p level c le within full tried =
    let n : length (take level p) ≡ level = length-take-le level p le in
    record {
      within = omega arith;
      full = λ e. full (sym n ∙ e);
      tried = λ lt. tried (omega arith);
    }

-- ---- where a choice is left

after-some : (s : Space) (t : ℕ) (p : List ℕ) → 0 < length (tries_after s t p)
unfolding tries_after
after-some s zero p = omega arith
after-some s (suc t) p = omega arith

below-some : (s : Space) (t : ℕ) (p : List ℕ) (c : ℕ) → c < s.width p → 0 < length (tries_below s (suc t) p c)
below-some s t p c w =
    elim (cases_Bool (s.good (p ++ c ∷ []))) [
      | inl good ↦ rw (below-good s t p c w good, length-append) (omega (arith, after-some s t (p ++ c ∷ [])))
      | inr bad ↦ rw (below-bad s t p c w bad) (omega arith)
    ]

-- where a choice is left, something is still to come
pub coming-some : (s : Space) (p : List ℕ) (c : ℕ) → length p < s.levels → c < s.width p → 0 < length (coming s p c)
unfolding coming
coming-some s p c lt w =
    let m : s.levels - length p ≡ suc (s.levels - (length p + 1)) = omega arith in
    rw (m, length-append) (omega (arith, below-some s (s.levels - (length p + 1)) p c w))

pub coming-some-in : (s : Space) (p : List ℕ) (level c : ℕ) → level ≤ length p → level < s.levels → c < s.width (take level p) → 0 < length (coming s (take level p) c)
coming-some-in s p level c le lt w =
    let n : length (take level p) ≡ level = length-take-le level p le in
    coming-some s (take level p) c (omega arith) w

-- ---- where there are no levels

-- the empty list is told, and nothing comes after it
pub coming-empty : (s : Space) (p : List ℕ) (c : ℕ) → length p ≡ s.levels → c ≡ 0 → s.levels ≡ 0 → coming s p c ≡ Some p ∷ coming s p 1
unfolding coming tries_below tries_above
coming-empty s p c full n z =
    let l : length p ≡ 0 = omega arith in
    rw (l, n, z) refl
