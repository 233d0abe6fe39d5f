-- What a list of tests tells.
use Rattle.std.proofs.Common.{◌≡◌, ℕ, Bool, true, false, cond, List, [], ◌∷◌, ◌++◌, map, Option, Some, None, option_map, refl, sym, inl, inr, ◌∙◌}
use Rattle.std.proofs.lemmas.Bool.{cases_Bool}
use Rattle.std.proofs.lemmas.Option.{none-some}
use Rattle.eir_edit.specs.Causes.{Cause, first_cause}

-- no test of the list holds
abbrev pub NoneHolds : List (Bool × Cause) → Type 0
NoneHolds [] = Unit {0}
NoneHolds (t ∷ ts) = (t.0 ≡ false) × NoneHolds ts

-- where there is no cause, no test holds
pub NoneHolds-from_none : (ts : List (Bool × Cause)) → first_cause ts ≡ None → NoneHolds ts
NoneHolds-from_none [] e = tt
NoneHolds-from_none (t ∷ ts) e = elim (cases_Bool t.0) [
  | inl s ↦ (let k : Some t.1 ≡ None = sym (rw s refl) ∙ e in absurd (none-some t.1 (sym k)))
  | inr s ↦ (s, NoneHolds-from_none ts (sym (rw s refl) ∙ e))
]

-- tests behind others are asked where none of the others holds
pub first_cause-append : (ts more : List (Bool × Cause)) → first_cause ts ≡ None → first_cause (ts ++ more) ≡ first_cause more
first_cause-append [] more e = refl
first_cause-append (t ∷ ts) more e = elim (cases_Bool t.0) [
  | inl s ↦ (let k : Some t.1 ≡ None = sym (rw s refl) ∙ e in absurd (none-some t.1 (sym k)))
  | inr s ↦ rw s (first_cause-append ts more (sym (rw s refl) ∙ e))
]

-- and else they change nothing
pub first_cause-before : (ts more : List (Bool × Cause)) (c : Cause) → first_cause ts ≡ Some c → first_cause (ts ++ more) ≡ Some c
first_cause-before [] more c e = absurd (none-some c e)
first_cause-before (t ∷ ts) more c e = elim (cases_Bool t.0) [
  | inl s ↦ rw s (sym (rw s refl) ∙ e)
  | inr s ↦ rw s (first_cause-before ts more c (sym (rw s refl) ∙ e))
]

-- where no test of the whole list holds, none of its first part does
pub first_cause-front : (ts more : List (Bool × Cause)) → first_cause (ts ++ more) ≡ None → first_cause ts ≡ None
first_cause-front [] more e = refl
first_cause-front (t ∷ ts) more e = elim (cases_Bool t.0) [
  | inl s ↦ (let k : Some t.1 ≡ None = sym (rw s refl) ∙ e in absurd (none-some t.1 (sym k)))
  | inr s ↦ rw s (first_cause-front ts more (sym (rw s refl) ∙ e))
]
