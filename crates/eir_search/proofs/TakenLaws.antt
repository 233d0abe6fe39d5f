-- For callers: what a step and a turn take off, said of the lists that are still to be told and of the tries that are
-- still to be made. The point is `tries_left-step`, `tries_left-turn`, `told-quiet` and `told-tells`.
use Rattle.std.proofs.Common.{◌≡◌, ℕ, zero, suc, ◌+◌, ◌-◌, ◌≤◌, ◌⊎◌, inl, inr, List, [], ◌∷◌, ◌++◌, length, None, Some, replicate, refl, ap, sym, ◌∙◌, arith, length-append}
use Rattle.std.proofs.lemmas.List.{length-replicate}
use Rattle.std.proofs.lemmas.Bool.{cases_eq}
use Rattle.eir_search.specs.declared.search.Step.{Step}
use Rattle.eir_search.specs.declared.search.Step.TheVariants.{Tried, Found, Done, Spent}
use Rattle.eir_search.specs.declared.search.Turn.{Turn}
use Rattle.eir_search.specs.declared.search.Turn.TheVariants as turn
use Rattle.eir_search.specs.Spaces.{Space}
use Rattle.eir_search.specs.Tries.{Event, tries_below, tries_above, coming, tries_left, told}
use Rattle.eir_search.specs.Outcomes.{tries_to_tell, tries_of, TakesFirst, TakesRun}
use Rattle.eir_search.proofs.CountLaws.{tries_left-none, tries_left-some}

-- tries that tell nothing
pub told-quiet : (n : ℕ) (events : List Event) → told (replicate n None ++ events) ≡ told events
told-quiet zero events = refl
told-quiet (suc n) events = told-quiet n events

-- and then one that tells a list
pub told-tells : (n : ℕ) (p : List ℕ) (events : List Event) → told (replicate n None ++ Some p ∷ events) ≡ p ∷ told events
told-tells n p events = told-quiet n (Some p ∷ events)

length-quiet : (n : ℕ) (events : List Event) → length (replicate n None ++ events) ≡ n + length events
length-quiet n events = omega (arith, length-append (replicate n None) events, length-replicate {A = Event} n None)

-- where there are no levels, the empty list is all that can come
coming-no_levels : (s : Space) (p : List ℕ) (c : ℕ) → s.levels ≡ 0 → length p ≤ s.levels → (coming s p c ≡ Some [] ∷ []) ⊎ (coming s p c ≡ [])
unfolding coming tries_below tries_above
coming-no_levels s [] zero z le = inl (rw z refl)
coming-no_levels s [] (suc c) z le = inr (rw z refl)
coming-no_levels s (x ∷ p) c z le = absurd (omega arith)

-- so no try comes off
no_tries : (n : ℕ) (old new : List Event) → (old ≡ Some [] ∷ []) ⊎ (old ≡ []) → old ≡ replicate n None ++ new → n ≡ 0
no_tries zero old new h e = refl
no_tries (suc n) old new (inl h) e = absurd (cc)
no_tries (suc n) old new (inr h) e = absurd (cc)

quiet-left : (s : Space) (n : ℕ) (p : List ℕ) (c : ℕ) (p' : List ℕ) (c' : ℕ) → length p ≤ s.levels → coming s p c ≡ replicate n None ++ coming s p' c' → tries_left s p c ≡ n + tries_left s p' c'
quiet-left s n p c p' c' le h =
    elim (cases_eq s.levels 0) [
      | inl z ↦ (let none : n ≡ 0 = no_tries n (coming s p c) (coming s p' c') (coming-no_levels s p c z le) h in omega (arith, tries_left-none s p c z, tries_left-none s p' c' z))
      | inr some ↦ omega (arith, tries_left-some s p c (omega arith), tries_left-some s p' c' (omega arith), ap length h, length-quiet n (coming s p' c'))
    ]

tells-left : (s : Space) (n : ℕ) (p : List ℕ) (c : ℕ) (p' : List ℕ) (c' : ℕ) (choices : List ℕ) → length p ≤ s.levels → tries_to_tell s ≤ n → coming s p c ≡ replicate (n - tries_to_tell s) None ++ Some choices ∷ coming s p' c' →
    tries_left s p c ≡ n + tries_left s p' c'
tells-left s n p c p' c' choices le last h =
    elim (cases_eq s.levels 0) [
      | inl z ↦ (
          let none : n - tries_to_tell s ≡ 0 = no_tries (n - tries_to_tell s) (coming s p c) (Some choices ∷ coming s p' c') (coming-no_levels s p c z le) h in
          omega (arith, none, tries_left-none s p c z, tries_left-none s p' c' z)
          )
      | inr some ↦ omega (arith, last, tries_left-some s p c (omega arith), tries_left-some s p' c' (omega arith), ap length h, length-quiet (n - tries_to_tell s) (Some choices ∷ coming s p' c'))
    ]

-- a turn takes its tries off those that are still to be made
pub tries_left-turn : (turn : Turn) (s : Space) (n : ℕ) (p : List ℕ) (c : ℕ) (p' : List ℕ) (c' : ℕ) (choices : List ℕ) → length p ≤ s.levels →
    TakesRun turn s n (coming s p c) (coming s p' c') choices → tries_left s p c ≡ n + tries_left s p' c'
tries_left-turn turn.Going s n p c p' c' choices le h = quiet-left s n p c p' c' le h
tries_left-turn turn.Found s n p c p' c' choices le h = tells-left s n p c p' c' choices le h.0 h.1
tries_left-turn turn.Done s n p c p' c' choices le h = quiet-left s n p c p' c' le h.0
tries_left-turn turn.Spent s n p c p' c' choices le h = quiet-left s n p c p' c' le h

-- and so does a step
pub tries_left-step : (step : Step) (s : Space) (p : List ℕ) (c : ℕ) (p' : List ℕ) (c' : ℕ) (choices : List ℕ) → length p ≤ s.levels →
    TakesFirst step (coming s p c) (coming s p' c') choices → tries_left s p c ≡ tries_of step s + tries_left s p' c'
tries_left-step Tried s p c p' c' choices le h = quiet-left s 1 p c p' c' le h
tries_left-step Found s p c p' c' choices le h =
    let first : tries_to_tell s - tries_to_tell s ≡ 0 = omega arith in
    tells-left s (tries_to_tell s) p c p' c' choices le (omega arith) (rw first h)
tries_left-step Done s p c p' c' choices le h = quiet-left s 0 p c p' c' le (h.0 ∙ sym h.1)
tries_left-step Spent s p c p' c' choices le h = quiet-left s 0 p c p' c' le (sym h.1)
