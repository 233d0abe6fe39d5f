-- A run of tries, between two of its steps. The point is `IsRunning`: what has come off so far are tries that tell
-- nothing, and what is still to come begins at the next choice. The laws keep it through each step, and say what it gives
-- where the run ends.
use Rattle.std.proofs.Common.{◌≡◌, ◌≢◌, ℕ, zero, suc, ◌+◌, ◌-◌, ◌*◌, ◌<◌, ◌≤◌, ◌^◌, ◌⊎◌, inl, inr, true, false, List, [], ◌∷◌, ◌++◌, length, take, set, get_or, None, Some, replicate, refl, ap, sym, ◌∙◌, arith, append_assoc, length-append}
use Rattle.std.proofs.Common.{get_or-set_other, get_or-set_same}
use Rattle.std.proofs.lemmas.List.{length-take-le, length-set, take-take, take_all, replicate-append-replicate, length-replicate}
use Rattle.std.proofs.lemmas.Bool.{cases_eq}
use Rattle.eir_search.specs.Spaces.{Space}
use Rattle.eir_search.specs.Tries.{Event, coming}
use Rattle.eir_search.proofs.TryLaws.{IsExhausted, take-placed, coming-bad, coming-full, coming-deeper, coming-none, coming-up-in, coming-some}

-- choices that are not good, one after another: their tries tell nothing
coming-scan : (s : Space) (p : List ℕ) (n c : ℕ) → length p < s.levels → c + n ≤ s.width p → ((k : ℕ) → c ≤ k → k < c + n → s.good (p ++ k ∷ []) ≡ false) → coming s p c ≡ replicate n None ++ coming s p (c + n)
coming-scan s p zero c lt w bad = let e : c + 0 ≡ c = omega arith in rw e refl
coming-scan s p (suc n) c lt w bad =
    let e : c + suc n ≡ c + 1 + n = omega arith in
    let rest = coming-scan s p n (c + 1) lt (omega arith) (λ k from to. bad k (omega arith) (omega arith)) in
    coming-bad s p c lt (omega arith) (bad c (omega arith) (omega arith)) ∙ ap (λ l. None ∷ l) rest ∙ ap (λ m. None ∷ (replicate n None ++ coming s p m)) (sym e)

-- so many tries that tell nothing came off, and then more
more : (old : List Event) (m n k : ℕ) (a b : List Event) → old ≡ replicate m None ++ a → a ≡ replicate n None ++ b → k ≡ m + n → old ≡ replicate k None ++ b
more old m n k a b h e plus =
    h ∙ ap (λ l. replicate m None ++ l) e ∙ sym (append_assoc (replicate m None) (replicate n None) b) ∙ ap (λ l. l ++ b) (replicate-append-replicate m n None) ∙ ap (λ j. replicate j None ++ b) (sym plus)

-- the choices of a space are placed up to a level; `made` tries came off, and `choice` is next, of so many
pub record IsRunning (s : Space) (old : List Event) (placed choices : List ℕ) (level choice width made : ℕ) : Type 0 where
  pub within : level ≤ s.levels
  pub room : s.levels ≤ length choices
  pub placed_is : placed ≡ take level choices
  pub width_is : level < s.levels → width ≡ s.width placed
  pub full : level ≡ s.levels → (0 < choice) × (width ≤ choice)
  pub fits : (k : ℕ) → get_or choices k 0 + 1 < 2 ^ 64
  pub came : old ≡ replicate made None ++ coming s placed choice

length-running : {s : Space} {old : List Event} {p ch : List ℕ} {level c w n : ℕ} → IsRunning s old p ch level c w n → length p ≡ level
length-running {ch = ch} {level = level} r = ap length r.placed_is ∙ length-take-le level ch (omega (arith, r.within, r.room))

-- no choice is left at this level
exhausted-running : {s : Space} {old : List Event} {p ch : List ℕ} {level c w n : ℕ} → IsRunning s old p ch level c w n → w ≤ c → IsExhausted s p c
exhausted-running r le =
    let n = length-running r in
    record {
      within = omega (arith, r.within);
      full = λ e. (r.full (sym n ∙ e)).0;
      tried = λ lt. omega (arith, r.width_is (omega arith));
    }

-- one level up: the choice after the one that is placed there comes
pub running-up : (s : Space) (old : List Event) (p ch : List ℕ) (level c w n level' : ℕ) (p' : List ℕ) (item w' : ℕ) → IsRunning s old p ch level c w n →
    w ≤ c → level ≡ level' + 1 → p' ≡ take level' p → item ≡ get_or ch level' 0 → w' ≡ s.width (take level' p') → IsRunning s old p' ch level' (item + 1) w' n
running-up s old p ch level c w n level' p' item w' r le up e i v =
    let same : take level' p ≡ take level' ch = ap (take level') r.placed_is ∙ take-take level' level ch (omega arith) in
    let long : length (take level' ch) ≡ level' = length-take-le level' ch (omega (arith, r.within, r.room)) in
    let p'_is : p' ≡ take level' ch = e ∙ same in
    let again : take level' p' ≡ p' = ap (take level') p'_is ∙ take_all level' (take level' ch) (omega arith) ∙ sym p'_is in
    let down : coming s (take level ch) c ≡ coming s (take level' ch) (get_or ch level' 0 + 1) =
    coming-up-in s ch level c level' up (omega (arith, r.within, r.room)) (rw r.placed_is at (exhausted-running r le)) in
    record {
      within = omega (arith, r.within);
      room = r.room;
      placed_is = p'_is;
      width_is = λ lt. v ∙ ap s.width again;
      full = λ full. absurd (omega (arith, r.within));
      fits = r.fits;
      came = r.came ∙ ap (λ l. replicate n None ++ l) (ap (λ l. coming s l c) r.placed_is ∙ down ∙ ap (λ j. coming s (take level' ch) (j + 1)) (sym i) ∙ ap (λ l. coming s l (item + 1)) (sym p'_is));
    }

-- nothing is left at all
pub running-none : (s : Space) (old : List Event) (p ch : List ℕ) (level c w n : ℕ) → IsRunning s old p ch level c w n → w ≤ c → level ≡ 0 → coming s p c ≡ []
running-none s old p ch level c w n r le z = coming-none s p c (length-running r ∙ z) (exhausted-running r le)

-- the try of a choice that is left is next
pub running-next : (s : Space) (old : List Event) (p ch : List ℕ) (level c w n : ℕ) → IsRunning s old p ch level c w n → c < w → level < s.levels
running-next s old p ch level c w n r lt =
    elim (cases_eq level s.levels) [ inl e ↦ absurd (omega (arith, (r.full e).1)) | inr ne ↦ omega (arith, r.within) ]

pub running-some : (s : Space) (old : List Event) (p ch : List ℕ) (level c w n : ℕ) → IsRunning s old p ch level c w n → c < w → 0 < length (coming s p c)
running-some s old p ch level c w n r lt =
    let below = running-next s old p ch level c w n r lt in
    coming-some s p c (omega (arith, length-running r, below)) (omega (arith, r.width_is below))

-- none of these choices is good
pub running-bad : (s : Space) (old : List Event) (p ch : List ℕ) (level c w n end : ℕ) → IsRunning s old p ch level c w n → c < w → c ≤ end → end ≤ w →
    ((k : ℕ) → c ≤ k → k < end → s.good (p ++ k ∷ []) ≡ false) → coming s p c ≡ replicate (end - c) None ++ coming s p end
running-bad s old p ch level c w n end r lt from to bad =
    let below = running-next s old p ch level c w n r lt in
    let long = length-running r in
    let e : c + (end - c) ≡ end = omega arith in
    coming-scan s p (end - c) c (omega arith) (omega (arith, r.width_is below)) (λ k f t. bad k f (omega arith)) ∙ ap (λ m. replicate (end - c) None ++ coming s p m) e

pub running-on : (s : Space) (old : List Event) (p ch : List ℕ) (level c w n end k : ℕ) (p' : List ℕ) → IsRunning s old p ch level c w n → c < w → c ≤ end → end ≤ w →
    ((j : ℕ) → c ≤ j → j < end → s.good (p ++ j ∷ []) ≡ false) → p' ≡ p → k ≡ n + (end - c) → IsRunning s old p' ch level end w k
running-on s old p ch level c w n end k p' r lt from to bad e plus =
    let below = running-next s old p ch level c w n r lt in
    record {
      within = r.within;
      room = r.room;
      placed_is = e ∙ r.placed_is;
      width_is = λ lower. r.width_is lower ∙ ap s.width (sym e);
      full = λ full. absurd (omega (arith, below));
      fits = r.fits;
      came = more old n (end - c) k (coming s p c) (coming s p end) r.came (running-bad s old p ch level c w n end r lt from to bad) plus
          ∙ ap (λ l. replicate k None ++ coming s l end) (sym e);
    }

-- where a choice is written, each still has a number for the next one
fits-set : (ch : List ℕ) (level c : ℕ) → level < length ch → c + 1 < 2 ^ 64 → ((k : ℕ) → get_or ch k 0 + 1 < 2 ^ 64) → (k : ℕ) → get_or (set ch level c) k 0 + 1 < 2 ^ 64
fits-set ch level c lt h fits k =
    elim (cases_eq k level) [
      | inl e ↦ rw (e, get_or-set_same ch level c 0 lt) h
      | inr ne ↦ rw (get_or-set_other ch level k c 0 ne) (fits k)
    ]

-- the first good one, above the last level: it is placed, and the level below it comes
pub running-down : (s : Space) (old : List Event) (p ch : List ℕ) (level c w n at k : ℕ) (p' : List ℕ) (w' : ℕ) → IsRunning s old p ch level c w n → c < w → c ≤ at → at < w → at + 1 < 2 ^ 64 →
    ((j : ℕ) → c ≤ j → j < at → s.good (p ++ j ∷ []) ≡ false) → s.good (p ++ at ∷ []) ≡ true → level + 1 ≢ s.levels → p' ≡ p ++ at ∷ [] → w' ≡ s.width (take (level + 1) p') → k ≡ n + (at - c + 1) →
    IsRunning s old p' (set ch level at) (level + 1) 0 w' k
running-down s old p ch level c w n at k p' w' r lt from to h bad good deep e v plus =
    let below = running-next s old p ch level c w n r lt in
    let long = length-running r in
    let room : level < length ch = omega (arith, r.room) in
    let placed : take (level + 1) (set ch level at) ≡ p ++ at ∷ [] = take-placed ch p level at room (sym r.placed_is) in
    let p'_is : p' ≡ take (level + 1) (set ch level at) = e ∙ sym placed in
    let long' : length p' ≡ level + 1 = ap length p'_is ∙ length-take-le (level + 1) (set ch level at) (omega (arith, length-set ch level at)) in
    let all : take (level + 1) p' ≡ p' = take_all (level + 1) p' (omega arith) in
    let deeper : coming s p at ≡ None ∷ coming s p' 0 = coming-deeper s p at (omega arith) (omega (arith, r.width_is below)) good ∙ ap (λ l. None ∷ coming s l 0) (sym e) in
    record {
      within = omega arith;
      room = omega (arith, r.room, length-set ch level at);
      placed_is = p'_is;
      width_is = λ lower. v ∙ ap s.width all;
      full = λ full. absurd (omega (arith, deep full));
      fits = fits-set ch level at room h r.fits;
      came = more old (n + (at - c)) 1 k (coming s p at) (coming s p' 0)
          (more old n (at - c) (n + (at - c)) (coming s p c) (coming s p at) r.came (running-bad s old p ch level c w n at r lt from (omega arith) bad) refl) deeper (omega arith);
    }

-- the first good one, at the last level: it completes a full list, and its try tells that
pub running-found : (s : Space) (old : List Event) (p ch : List ℕ) (level c w n at m : ℕ) (p' : List ℕ) → IsRunning s old p ch level c w n → c < w → c ≤ at → at < w →
    ((j : ℕ) → c ≤ j → j < at → s.good (p ++ j ∷ []) ≡ false) → s.good (p ++ at ∷ []) ≡ true → level + 1 ≡ s.levels → p' ≡ p ++ at ∷ [] → m ≡ n + (at - c) →
    old ≡ replicate m None ++ Some p' ∷ coming s p' 1
running-found s old p ch level c w n at m p' r lt from to bad good last e plus =
    let below = running-next s old p ch level c w n r lt in
    let long = length-running r in
    let told : coming s p at ≡ Some p' ∷ coming s p' 1 = coming-full s p at (omega arith) (omega (arith, r.width_is below)) good ∙ ap (λ l. Some l ∷ coming s l 1) (sym e) in
    more old n (at - c) m (coming s p c) (coming s p at) r.came (running-bad s old p ch level c w n at r lt from (omega arith) bad) plus ∙ ap (λ l. replicate m None ++ l) told

-- what came off, and what is still to come, is all there was
pub length-came : {s : Space} {old : List Event} {p ch : List ℕ} {level c w n : ℕ} → IsRunning s old p ch level c w n → n + length (coming s p c) ≡ length old
length-came {s = s} {old = old} {p = p} {c = c} {n = n} r = sym (ap length r.came ∙ length-append (replicate n None) (coming s p c) ∙ ap (λ k. k + length (coming s p c)) (length-replicate n None))

-- more tries came off and it is one level deeper at most, or it is higher up: so many fewer steps are to come
pub running-smaller : {s : Space} {old : List Event} {p ch p' ch' : List ℕ} {level c w n level' c' w' k : ℕ} → IsRunning s old p ch level c w n → IsRunning s old p' ch' level' c' w' k →
    ((n < k) × (level' ≤ level + 1)) ⊎ ((n ≡ k) × (level' < level)) → 2 * length (coming s p' c') + level' < 2 * length (coming s p c) + level
running-smaller r r' (inl h) = omega (arith, length-came r, length-came r')
running-smaller r r' (inr h) = omega (arith, length-came r, length-came r')
