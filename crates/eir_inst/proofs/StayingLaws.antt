-- The facts that are not marked as gone. The points are `staying-drop` and `staying-next`: what a walk along facts and marks
-- has passed, and has before it; `staying-gone`: what is left once one more is marked; `staying-more`: a fact is put behind
-- them; `counted-under` and `found-under`: the places under a key, of which some are gone.
use Rattle.std.proofs.Common.{◌≡◌, ◌≢◌, ℕ, zero, suc, ◌+◌, ◌<◌, ◌≤◌, inl, inr, Bool, true, false, cond, List, [], ◌∷◌, ◌++◌, filter, length, take, drop, set, get_or, replicate, Some, slice_get, refl, sym, ◌∙◌, ap, ap₂, subst, arith, append_assoc, append-nil}
use Rattle.std.proofs.lemmas.Bool.{false≢true}
use Rattle.std.proofs.lemmas.Option.{same_Some, none-some}
use Rattle.std.proofs.lemmas.List.{drop_all}
use Rattle.eir_term.specs.declared.fact.Fact.{Fact}
use Rattle.eir_term.specs.Lists.{◌∈◌, IsDistinct, places, without}
use Rattle.eir_term.specs.Facts.{fact_eq, fact_eq-decides}
use Rattle.eir_term.proofs.ListLaws.{apart-false}
use Rattle.eir_inst.specs.Layers.{stays, staying}
use Rattle.eir_term.proofs.OrderLaws.{∈-slice_get_from}
use Rattle.eir_inst.proofs.WithoutLaws.{without-absent, IsDistinct-apart}

-- where no mark is, all stay
pub staying-none : (fs : List Fact) → staying fs [] ≡ fs
staying-none [] = refl
staying-none (f ∷ fs) = refl

-- the first fact, and the rest
pub staying-first : (f : Fact) (fs : List Fact) (gone : List Bool) → staying (f ∷ fs) gone ≡ cond (stays gone 0) (f ∷ staying fs (drop 1 gone)) (staying fs (drop 1 gone))
staying-first f fs [] = ap (λ gs. f ∷ gs) (sym (staying-none fs))
staying-first f fs (true ∷ gone) = refl
staying-first f fs (false ∷ gone) = refl

pub stays-later : (gone : List Bool) (i : ℕ) → stays gone (suc i) ≡ stays (drop 1 gone) i
stays-later [] i = refl
stays-later (g ∷ gone) i = refl

drop-later : (gone : List Bool) (i : ℕ) → drop (suc i) gone ≡ drop i (drop 1 gone)
drop-later [] zero = refl
drop-later [] (suc i) = refl
drop-later (g ∷ gone) i = refl

take-first : (f : Fact) (fs : List Fact) (gone : List Bool) (i : ℕ) → staying (f ∷ fs) (take (suc i) gone) ≡ cond (stays gone 0) (f ∷ staying fs (take i (drop 1 gone))) (staying fs (take i (drop 1 gone)))
take-first f fs [] zero = ap (λ gs. f ∷ gs) (sym (staying-none fs))
take-first f fs [] (suc i) = ap (λ gs. f ∷ gs) (sym (staying-none fs))
take-first f fs (true ∷ gone) i = refl
take-first f fs (false ∷ gone) i = refl

-- what a walk has before it
pub staying-drop : (fs : List Fact) (gone : List Bool) (i : ℕ) (x : Fact) (b : Bool) → i < length fs → x ≡ get_or fs i x → b ≡ stays gone i →
    staying (drop i fs) (drop i gone) ≡ cond b (x ∷ staying (drop (i + 1) fs) (drop (i + 1) gone)) (staying (drop (i + 1) fs) (drop (i + 1) gone))
staying-drop fs gone i x b l e t =
    let c : suc i ≡ i + 1 = omega arith in
    by fs gone i l ∙ ap₂ (λ q y. cond q (y ∷ staying (drop (suc i) fs) (drop (suc i) gone)) (staying (drop (suc i) fs) (drop (suc i) gone))) (sym t) (sym e)
    ∙ ap (λ k. cond b (x ∷ staying (drop k fs) (drop k gone)) (staying (drop k fs) (drop k gone))) c
  where
    by : (fs : List Fact) (gone : List Bool) (i : ℕ) → i < length fs →
        staying (drop i fs) (drop i gone) ≡ cond (stays gone i) (get_or fs i x ∷ staying (drop (suc i) fs) (drop (suc i) gone)) (staying (drop (suc i) fs) (drop (suc i) gone))
    by [] gone i l = absurd (omega arith)
    by (f ∷ fs) gone zero l = staying-first f fs gone
    by (f ∷ fs) gone (suc i) l =
        ap (staying (drop i fs)) (drop-later gone i) ∙ by fs (drop 1 gone) i (omega arith)
        ∙ ap₂ (λ q gs. cond q (get_or fs i x ∷ staying (drop (suc i) fs) gs) (staying (drop (suc i) fs) gs)) (sym (stays-later gone i)) (sym (drop-later gone (suc i)))

-- and what it has passed
pub staying-split : (fs : List Fact) (gone : List Bool) (i : ℕ) → staying fs gone ≡ staying (take i fs) (take i gone) ++ staying (drop i fs) (drop i gone)
staying-split fs gone zero = refl
staying-split [] gone (suc i) = refl
staying-split (f ∷ fs) gone (suc i) =
    staying-first f fs gone ∙ by (stays gone 0) (staying-split fs (drop 1 gone) i)
    ∙ ap₂ (λ gs hs. gs ++ staying (drop i fs) hs) (sym (take-first f (take i fs) gone i)) (sym (drop-later gone i))
  where
    by : (b : Bool) → staying fs (drop 1 gone) ≡ staying (take i fs) (take i (drop 1 gone)) ++ staying (drop i fs) (drop i (drop 1 gone)) → cond b (f ∷ staying fs (drop 1 gone)) (staying fs (drop 1 gone))
        ≡ cond b (f ∷ staying (take i fs) (take i (drop 1 gone))) (staying (take i fs) (take i (drop 1 gone))) ++ staying (drop i fs) (drop i (drop 1 gone))
    by true rest = ap (λ gs. f ∷ gs) rest
    by false rest = rest

pub staying-next : (fs : List Fact) (gone : List Bool) (i : ℕ) (x : Fact) (b : Bool) → i < length fs → x ≡ get_or fs i x → b ≡ stays gone i →
    staying (take (i + 1) fs) (take (i + 1) gone) ≡ staying (take i fs) (take i gone) ++ cond b (x ∷ []) []
staying-next fs gone i x b l e t =
    let c : i + 1 ≡ suc i = omega arith in
    ap (λ k. staying (take k fs) (take k gone)) c ∙ by fs gone i l ∙ ap₂ (λ y q. staying (take i fs) (take i gone) ++ cond q (y ∷ []) []) (sym e) (sym t)
  where
    by : (fs : List Fact) (gone : List Bool) (i : ℕ) → i < length fs → staying (take (suc i) fs) (take (suc i) gone) ≡ staying (take i fs) (take i gone) ++ cond (stays gone i) (get_or fs i x ∷ []) []
    by [] gone i l = absurd (omega arith)
    by (f ∷ fs) gone zero l = take-first f [] gone zero
    by (f ∷ fs) gone (suc i) l =
        take-first f (take (suc i) fs) gone (suc i) ∙ step (stays gone 0) (by fs (drop 1 gone) i (omega arith)) ∙ ap₂ (λ gs q. gs ++ cond q (get_or fs i x ∷ []) []) (sym (take-first f (take i fs) gone i)) (sym (stays-later gone i))
      where
        step : (q : Bool) → staying (take (suc i) fs) (take (suc i) (drop 1 gone)) ≡ staying (take i fs) (take i (drop 1 gone)) ++ cond (stays (drop 1 gone) i) (get_or fs i x ∷ []) [] → cond q (f ∷ staying (take (suc i) fs) (take (suc i) (drop 1 gone))) (staying (take (suc i) fs) (take (suc i) (drop 1 gone)))
            ≡ cond q (f ∷ staying (take i fs) (take i (drop 1 gone))) (staying (take i fs) (take i (drop 1 gone))) ++ cond (stays (drop 1 gone) i) (get_or fs i x ∷ []) []
        step true rest = ap (λ gs. f ∷ gs) rest
        step false rest = rest

-- without a mark that says so none is gone
pub staying-all : (fs : List Fact) (n : ℕ) → staying fs (replicate n false) ≡ fs
staying-all [] n = refl
staying-all (f ∷ fs) zero = refl
staying-all (f ∷ fs) (suc n) = ap (λ gs. f ∷ gs) (staying-all fs n)

pub length-staying : (fs : List Fact) (gone : List Bool) → length (staying fs gone) ≤ length fs
length-staying [] gone = omega arith
length-staying (f ∷ fs) [] = omega arith
length-staying (f ∷ fs) (true ∷ gone) = let r = length-staying fs gone in omega arith
length-staying (f ∷ fs) (false ∷ gone) = let r = length-staying fs gone in omega arith

-- where as many stay as there are, all stay
pub staying-full : (fs : List Fact) (gone : List Bool) → length fs ≤ length (staying fs gone) → staying fs gone ≡ fs
staying-full [] gone l = refl
staying-full (f ∷ fs) [] l = refl
staying-full (f ∷ fs) (true ∷ gone) l = let r = length-staying fs gone in absurd (omega arith)
staying-full (f ∷ fs) (false ∷ gone) l = ap (λ gs. f ∷ gs) (staying-full fs gone (omega arith))

-- a fact more, with a mark by which it stays
pub staying-more : (fs : List Fact) (gone : List Bool) (f : Fact) → length gone ≡ length fs → staying (fs ++ f ∷ []) (gone ++ false ∷ []) ≡ staying fs gone ++ f ∷ []
staying-more [] [] f n = refl
staying-more [] (g ∷ gone) f n = absurd (omega arith)
staying-more (x ∷ fs) [] f n = absurd (omega arith)
staying-more (x ∷ fs) (true ∷ gone) f n = staying-more fs gone f (omega arith)
staying-more (x ∷ fs) (false ∷ gone) f n = ap (λ gs. x ∷ gs) (staying-more fs gone f (omega arith))

-- a fact whose place is not marked stays, and one that stays has such a place
pub ∈-staying : (fs : List Fact) (gone : List Bool) (p : ℕ) (f : Fact) → slice_get fs p ≡ Some f → stays gone p ≡ true → f ∈ staying fs gone
∈-staying [] gone p f e t = absurd (none-some f e)
∈-staying (x ∷ fs) [] zero f e t = inl (sym (same_Some x f e))
∈-staying (x ∷ fs) [] (suc p) f e t = inr (subst (λ gs. f ∈ gs) (staying-none fs) (∈-staying fs [] p f e t))
∈-staying (x ∷ fs) (true ∷ gone) zero f e t = absurd (false≢true t)
∈-staying (x ∷ fs) (false ∷ gone) zero f e t = inl (sym (same_Some x f e))
∈-staying (x ∷ fs) (true ∷ gone) (suc p) f e t = ∈-staying fs gone p f e t
∈-staying (x ∷ fs) (false ∷ gone) (suc p) f e t = inr (∈-staying fs gone p f e t)

pub ∈-staying_from : (fs : List Fact) (gone : List Bool) (f : Fact) → f ∈ staying fs gone → (p : ℕ) × (slice_get fs p ≡ Some f) × (stays gone p ≡ true)
∈-staying_from [] gone f h = elim h [ ]
∈-staying_from (x ∷ fs) [] f (inl e) = (0, ap Some (sym e), refl)
∈-staying_from (x ∷ fs) [] f (inr h) = let r = ∈-staying_from fs [] f (subst (λ gs. f ∈ gs) (sym (staying-none fs)) h) in (suc r.0, r.1, refl)
∈-staying_from (x ∷ fs) (true ∷ gone) f h = let r = ∈-staying_from fs gone f h in (suc r.0, r.1, r.2)
∈-staying_from (x ∷ fs) (false ∷ gone) f (inl e) = (0, ap Some (sym e), refl)
∈-staying_from (x ∷ fs) (false ∷ gone) f (inr h) = let r = ∈-staying_from fs gone f h in (suc r.0, r.1, r.2)

-- once one more fact is marked, the others stay
pub staying-gone : (fs : List Fact) (gone : List Bool) (p : ℕ) (f : Fact) → p < length gone → slice_get fs p ≡ Some f → stays gone p ≡ true → IsDistinct (staying fs gone) → staying fs (set gone p true) ≡ without fact_eq f (staying fs gone)
staying-gone [] gone p f l e t d = absurd (none-some f e)
staying-gone (x ∷ fs) [] p f l e t d = absurd (omega arith)
staying-gone (x ∷ fs) (true ∷ gone) zero f l e t d = absurd (false≢true t)
staying-gone (x ∷ fs) (false ∷ gone) zero f l e t d =
    let s : f ≡ x = sym (same_Some x f e) in
    rw ((fact_eq-decides f x).1 s) (sym (without-absent f (staying fs gone) (λ h. d.0 (subst (λ y. y ∈ staying fs gone) s h))))
staying-gone (x ∷ fs) (true ∷ gone) (suc p) f l e t d = staying-gone fs gone p f (omega arith) e t d
staying-gone (x ∷ fs) (false ∷ gone) (suc p) f l e t d =
    let apart : f ≢ x = λ s. d.0 (subst (λ y. y ∈ staying fs gone) s (∈-staying fs gone p f e t)) in
    rw (apart-false fact_eq fact_eq-decides f x apart) (ap (λ gs. x ∷ gs) (staying-gone fs gone p f (omega arith) e t d.1))

-- ---- the places under a key, of which some are gone
module _ (p : Fact → Bool) where
  -- a test of the places, counted on from n, is whether they stay
  later : (W : ℕ → Bool) (n : ℕ) (gone : List Bool) → ((i : ℕ) → W (n + i) ≡ stays gone i) → (i : ℕ) → W (suc n + i) ≡ stays (drop 1 gone) i
  later W n gone w i = let c : suc n + i ≡ n + suc i = omega arith in ap W c ∙ w (suc i) ∙ stays-later gone i

  first : (W : ℕ → Bool) (n : ℕ) (gone : List Bool) → ((i : ℕ) → W (n + i) ≡ stays gone i) → W n ≡ stays gone 0
  first W n gone w = let c : n ≡ n + 0 = omega arith in ap W c ∙ w 0

  counted-at : (W : ℕ → Bool) (n : ℕ) (fs : List Fact) (gone : List Bool) → ((i : ℕ) → W (n + i) ≡ stays gone i) → length (filter W (places p n fs)) ≡ length (filter p (staying fs gone))
  counted-at W n [] gone w = refl
  counted-at W n (x ∷ fs) gone w =
      by (p x) refl (W n) refl (counted-at W (suc n) fs (drop 1 gone) (later W n gone w)) ∙ ap (λ b. length (filter p (cond b (x ∷ staying fs (drop 1 gone)) (staying fs (drop 1 gone))))) (first W n gone w) ∙ ap (λ gs. length (filter p gs)) (sym (staying-first x fs gone))
    where
      by : (a : Bool) → p x ≡ a → (b : Bool) → W n ≡ b → length (filter W (places p (suc n) fs)) ≡ length (filter p (staying fs (drop 1 gone))) → length (filter W (cond a (n ∷ places p (suc n) fs) (places p (suc n) fs))) ≡ length (filter p (cond b (x ∷ staying fs (drop 1 gone)) (staying fs (drop 1 gone))))
      by true s true t rest = rw (s, t) (ap suc rest)
      by true s false t rest = rw t rest
      by false s true t rest = rw s rest
      by false s false t rest = rest

  found-at : (W : ℕ → Bool) (n : ℕ) (fs : List Fact) (gone : List Bool) → ((i : ℕ) → W (n + i) ≡ stays gone i) → (k q : ℕ) → slice_get (filter W (places p n fs)) k ≡ Some q → (m : ℕ) × (q ≡ n + m) × (slice_get fs m ≡ slice_get (filter p (staying fs gone)) k)
  found-at W n [] gone w k q e = absurd (none-some q e)
  found-at W n (x ∷ fs) gone w k q e =
      let r = by (p x) refl (W n) refl k e (λ j h. found-at W (suc n) fs (drop 1 gone) (later W n gone w) j q h) in
      (r.0, r.1, r.2 ∙ ap (λ b. slice_get (filter p (cond b (x ∷ staying fs (drop 1 gone)) (staying fs (drop 1 gone)))) k) (first W n gone w) ∙ ap (λ gs. slice_get (filter p gs) k) (sym (staying-first x fs gone)))
    where
      next : ((j : ℕ) → slice_get (filter W (places p (suc n) fs)) j ≡ Some q → (m : ℕ) × (q ≡ suc n + m) × (slice_get fs m ≡ slice_get (filter p (staying fs (drop 1 gone))) j)) → (j : ℕ) → slice_get (filter W (places p (suc n) fs)) j ≡ Some q → (m : ℕ) × (q ≡ n + m) × (slice_get (x ∷ fs) m ≡ slice_get (filter p (staying fs (drop 1 gone))) j)
      next rest j e = let r = rest j e in let c = r.1 in (suc r.0, omega arith, r.2)

      by : (a : Bool) → p x ≡ a → (b : Bool) → W n ≡ b → (k : ℕ) → slice_get (filter W (cond a (n ∷ places p (suc n) fs) (places p (suc n) fs))) k ≡ Some q → ((j : ℕ) → slice_get (filter W (places p (suc n) fs)) j ≡ Some q → (m : ℕ) × (q ≡ suc n + m) × (slice_get fs m ≡ slice_get (filter p (staying fs (drop 1 gone))) j)) →
          (m : ℕ) × (q ≡ n + m) × (slice_get (x ∷ fs) m ≡ slice_get (filter p (cond b (x ∷ staying fs (drop 1 gone)) (staying fs (drop 1 gone)))) k)
      by true s true t zero e rest = let f : Some n ≡ Some q = rw t at e in let c = same_Some n q f in (0, omega arith, rw s refl)
      by true s true t (suc k) e rest = let f : slice_get (filter W (places p (suc n) fs)) k ≡ Some q = rw t at e in let r = next rest k f in (r.0, r.1, r.2 ∙ rw s refl)
      by true s false t k e rest = let f : slice_get (filter W (places p (suc n) fs)) k ≡ Some q = rw t at e in next rest k f
      by false s true t k e rest = let r = next rest k e in (r.0, r.1, r.2 ∙ rw s refl)
      by false s false t k e rest = next rest k e

  -- as many places under the key stay as facts that have it
  pub counted-under : (fs : List Fact) (gone : List Bool) → length (filter (stays gone) (places p 0 fs)) ≡ length (filter p (staying fs gone))
  counted-under fs gone = counted-at (stays gone) 0 fs gone (λ i. let c : 0 + i ≡ i = omega arith in ap (stays gone) c)

  -- and at the k-th of them stands the k-th that has it
  pub found-under : (fs : List Fact) (gone : List Bool) (k q : ℕ) → slice_get (filter (stays gone) (places p 0 fs)) k ≡ Some q → slice_get fs q ≡ slice_get (filter p (staying fs gone)) k
  found-under fs gone k q e =
      let r = found-at (stays gone) 0 fs gone (λ i. let c : 0 + i ≡ i = omega arith in ap (stays gone) c) k q e in
      let c : q ≡ r.0 = let d = r.1 in omega arith in
      ap (slice_get fs) c ∙ r.2

-- what stays is among the facts
pub staying-within : (fs : List Fact) (gone : List Bool) (f : Fact) → f ∈ staying fs gone → f ∈ fs
staying-within fs gone f h = let r = ∈-staying_from fs gone f h in ∈-slice_get_from f fs r.0 r.1

-- at the end of a walk all is passed
pub staying-end : (fs : List Fact) (gone : List Bool) (i : ℕ) → length fs ≤ i → staying (take i fs) (take i gone) ≡ staying fs gone
staying-end fs gone i l =
    sym (append-nil (staying (take i fs) (take i gone))) ∙ ap (λ gs. staying (take i fs) (take i gone) ++ staying gs (drop i gone)) (sym (drop_all i fs l)) ∙ sym (staying-split fs gone i)

-- the next that stays is neither among those passed nor among what stands before them
pub not-yet : (to fs : List Fact) (gone : List Bool) (i : ℕ) (x : Fact) (b : Bool) → IsDistinct (to ++ staying fs gone) → i < length fs → x ≡ get_or fs i x → b ≡ stays gone i → b ≡ true → x ∈ (to ++ staying (take i fs) (take i gone)) → ⊥
not-yet to fs gone i x b d l e s t h =
    let front = to ++ staying (take i fs) (take i gone) in
    let split : to ++ staying fs gone ≡ front ++ staying (drop i fs) (drop i gone) =
    ap (λ gs. to ++ gs) (staying-split fs gone i) ∙ sym (append_assoc to (staying (take i fs) (take i gone)) (staying (drop i fs) (drop i gone))) in
    let next = staying-drop fs gone i x b l e s ∙ ap (λ q. cond q (x ∷ staying (drop (i + 1) fs) (drop (i + 1) gone)) (staying (drop (i + 1) fs) (drop (i + 1) gone))) t in
    IsDistinct-apart x front (staying (drop i fs) (drop i gone)) (subst (λ gs. IsDistinct gs) split d) h (subst (λ gs. x ∈ gs) (sym next) (inl refl))
