-- Laws of an input that is cut into its lines piece by piece.
use Rattle.std.proofs.Common.{◌≡◌, inl, inr, ℕ, suc, ◌+◌, ◌-◌, ◌<◌, ◌≤◌, ◌==◌, min, Bool, false, cond, List, [], ◌∷◌, ◌++◌, length, take, get_or, Some, None, refl, sym, ◌∙◌, ap, subst, arith, append_assoc, append-nil}
use Rattle.std.specs.Prelude.{nat_lt}
use Rattle.std.specs.List.{position, position_or_len}
use Rattle.std.proofs.lemmas.Bool.{cases_Bool, cases_lt, ltb-false, eqb-true, eq-eqb, ne_eqb}
use Rattle.std.proofs.lemmas.List.{take_more, take_all, take_min, take-append-le, get_or-take, length-take, length-take-le}
use Rattle.std.proofs.lemmas.List.Quantifiers.{position-Some}
use Rattle.std.proofs.lemmas.List.Sums.{fails_before_first}
use Rattle.std.proofs.Math.Seq.{take-append-add}
use Rattle.eir_script.specs.Lines.{Cut, cut_at, trimmed, cut_more, cut_after}
use Rattle.eir_script.specs.Pieces.{Taking, Holds}

-- ---- a carriage return at the end

trimmed-push : (bytes : List ℕ) (b : ℕ) → trimmed (bytes ++ b ∷ []) ≡ cond (b == 13) bytes (bytes ++ b ∷ [])
trimmed-push [] b = refl
trimmed-push (x ∷ []) b = elim (cases_Bool (b == 13)) [ inl t ↦ rw t refl | inr t ↦ rw t refl ]
trimmed-push (x ∷ y ∷ bytes) b = ap (λ xs. x ∷ xs) (trimmed-push (y ∷ bytes) b) ∙ elim (cases_Bool (b == 13)) [ inl t ↦ rw t refl | inr t ↦ rw t refl ]

-- bytes by their last one
last-split : (bytes : List ℕ) → 1 ≤ length bytes → bytes ≡ take (length bytes - 1) bytes ++ get_or bytes (length bytes - 1) 0 ∷ []
last-split bytes h =
    let within : length bytes - 1 < length bytes = omega arith in
    let all : length bytes - 1 + 1 ≡ length bytes = omega arith in
    sym (ap (λ n. take n bytes) all ∙ take_all (length bytes) bytes (omega arith)) ∙ take_more bytes (length bytes - 1) 0 within

pub trimmed-return : (bytes : List ℕ) → 1 ≤ length bytes → get_or bytes (length bytes - 1) 0 ≡ 13 → take (length bytes - 1) bytes ≡ trimmed bytes
trimmed-return bytes h t = sym (ap trimmed (last-split bytes h) ∙ trimmed-push (take (length bytes - 1) bytes) (get_or bytes (length bytes - 1) 0) ∙ rw (eq-eqb (get_or bytes (length bytes - 1) 0) 13 t) refl)

pub trimmed-other : (bytes : List ℕ) → 1 ≤ length bytes → (get_or bytes (length bytes - 1) 0 ≡ 13 → ⊥) → bytes ≡ trimmed bytes
trimmed-other bytes h t = last-split bytes h ∙ sym (ap trimmed (last-split bytes h) ∙ trimmed-push (take (length bytes - 1) bytes) (get_or bytes (length bytes - 1) 0) ∙ rw (ne_eqb (get_or bytes (length bytes - 1) 0) 13 t) refl)

-- at most one byte is dropped
length-trimmed : (bytes : List ℕ) → length bytes ≤ length (trimmed bytes) + 1
length-trimmed [] = omega arith
length-trimmed (b ∷ []) = omega arith
length-trimmed (b ∷ c ∷ bytes) = omega (arith, length-trimmed (c ∷ bytes))

-- ---- what is held

-- the bytes that are held, and as many more as there is room for
pub hold-more : (line bytes : List ℕ) → take 4098 line ++ take (min (4098 - length (take 4098 line)) (length bytes)) bytes ≡ take 4098 (line ++ bytes)
hold-more line bytes = elim (cases_lt 4098 (length line)) [
  | inl long ↦ (
      let full : length (take 4098 line) ≡ 4098 = length-take-le 4098 line (omega arith) in
      let none : min (4098 - length (take 4098 line)) (length bytes) ≡ 0 = omega arith in
      ap (λ n. take 4098 line ++ take n bytes) none ∙ append-nil (take 4098 line) ∙ sym (take-append-le 4098 line bytes (omega arith))
      )
  | inr short ↦ (
      let all : take 4098 line ≡ line = take_all 4098 line short in
      let sum : 4098 ≡ length line + (4098 - length line) = omega arith in
      ap (λ xs. xs ++ take (min (4098 - length xs) (length bytes)) bytes) all ∙ ap (λ xs. line ++ xs) (take_min (4098 - length line) bytes)
      ∙ sym (ap (λ n. take n (line ++ bytes)) sum ∙ take-append-add line bytes (4098 - length line))
      )
]

-- a line is too long exactly where what is held of it is
pub long-held : (held line : List ℕ) → held ≡ take 4098 line → 4096 < length (trimmed held) → 4096 < length (trimmed line)
long-held held line e long = elim (cases_lt 4098 (length line)) [
  | inl more ↦ omega (arith, length-trimmed line)
  | inr few ↦ subst (λ xs. 4096 < length (trimmed xs)) (e ∙ take_all 4098 line few) long
]

pub short-held : (held line : List ℕ) → held ≡ take 4098 line → length (trimmed held) ≤ 4096 → trimmed held ≡ trimmed line
short-held held line e short = elim (cases_lt 4097 (length line)) [
  | inl more ↦ absurd (
      let full : length held ≡ 4098 = ap length e ∙ length-take-le 4098 line (omega arith) in
      omega (arith, length-trimmed held)
      )
  | inr few ↦ ap trimmed (e ∙ take_all 4098 line (omega arith))
]

-- ---- line feeds

abbrev HasNoFeed : List ℕ → Type 0
HasNoFeed bytes = (k : ℕ) → k < length bytes → (get_or bytes k 0 == 10) ≡ false

-- bytes without a line feed go to the tail
cut_after-tail : (bytes : List ℕ) (whole : List (List ℕ)) (tail : List ℕ) → HasNoFeed bytes → cut_after (cut_at whole tail) bytes ≡ cut_at whole (tail ++ bytes)
cut_after-tail [] whole tail none = ap (cut_at whole) (sym (append-nil tail))
cut_after-tail (b ∷ bytes) whole tail none =
    let t : (b == 10) ≡ false = none 0 (omega arith) in
    ap (λ c. cut_after c bytes) (other b t) ∙ cut_after-tail bytes whole (tail ++ b ∷ []) (λ k h. none (suc k) (omega arith)) ∙ ap (cut_at whole) (append_assoc tail (b ∷ []) bytes)
  where
    other : (b : ℕ) → (b == 10) ≡ false → cut_more (cut_at whole tail) b ≡ cut_at whole (tail ++ b ∷ [])
    other b t = rw t refl

-- a line feed behind them ends a line
cut_after-line : (bytes : List ℕ) (whole : List (List ℕ)) (tail : List ℕ) → HasNoFeed bytes → cut_after (cut_at whole tail) (bytes ++ 10 ∷ []) ≡ cut_at (whole ++ trimmed (tail ++ bytes) ∷ []) []
cut_after-line [] whole tail none = ap (λ t. cut_at (whole ++ trimmed t ∷ []) []) (sym (append-nil tail))
cut_after-line (b ∷ bytes) whole tail none =
    let t : (b == 10) ≡ false = none 0 (omega arith) in
    ap (λ c. cut_after c (bytes ++ 10 ∷ [])) (other b t) ∙ cut_after-line bytes whole (tail ++ b ∷ []) (λ k h. none (suc k) (omega arith)) ∙ ap (λ t. cut_at (whole ++ trimmed t ∷ []) []) (append_assoc tail (b ∷ []) bytes)
  where
    other : (b : ℕ) → (b == 10) ≡ false → cut_more (cut_at whole tail) b ≡ cut_at whole (tail ++ b ∷ [])
    other b t = rw t refl

module _ (bytes : List ℕ) (c : Cut) where
  -- the first line feed stands at a place
  pub cut-at_place : (place : ℕ) → position (λ b. b == 10) bytes ≡ Some place → cut_after c (take (place + 1) bytes) ≡ cut_at (c.whole ++ trimmed (c.tail ++ take place bytes) ∷ []) []
  cut-at_place place e =
      let p = position-Some (λ b. b == 10) bytes place 0 e in
      let none : HasNoFeed (take place bytes) = λ k h. (
      let below : k < place = omega (arith, length-take-le place bytes (omega arith)) in
      rw (get_or-take place bytes k 0 below) (p.2 k below)
      ) in
      ap (cut_after c) (take_more bytes place 0 p.0 ∙ ap (λ b. take place bytes ++ b ∷ []) (eqb-true (get_or bytes place 0) 10 p.1)) ∙ cut_after-line (take place bytes) c.whole c.tail none

  -- there is none
  pub cut-no_place : position (λ b. b == 10) bytes ≡ None → cut_after c (take (length bytes) bytes) ≡ cut_at c.whole (c.tail ++ bytes)
  cut-no_place e =
      let p : ℕ → Bool = λ b. b == 10 in
      let none : HasNoFeed bytes = λ k h. fails_before_first p bytes k 0 (
      elim (cases_Bool (nat_lt (position_or_len p bytes) (length bytes))) [
        | inl t ↦ absurd (let z : Some (position_or_len p bytes) ≡ None = sym (rw t refl) ∙ e in cc)
        | inr t ↦ (let l : length bytes ≤ position_or_len p bytes = ltb-false (position_or_len p bytes) (length bytes) t in omega arith)
      ]
      ) in
      ap (cut_after c) (take_all (length bytes) bytes (omega arith)) ∙ cut_after-tail bytes c.whole c.tail none

-- ---- for callers

-- where no byte is held, none was taken
pub held-nothing : (t : Taking) (line : List ℕ) → Holds t line → t.bytes ≡ [] → line ≡ []
held-nothing t [] h e = refl
held-nothing t (b ∷ line) h e = absurd (let n : length (take 4098 (b ∷ line)) ≡ 0 = ap length (sym h ∙ e) in omega (arith, length-take 4098 (b ∷ line), n))
