-- Lists that have the same element at each place, and terms that a test finds equal.
use Rattle.std.proofs.Common.{◌≡◌, ℕ, suc, ◌<◌, Bool, false, List, [], ◌∷◌, length, slice_get, refl, sym, ap, ap₂, subst, arith}
use Rattle.std.specs.Prelude.{Decides, ◌==◌}
use Rattle.std.proofs.lemmas.Bool.{false≢true}
use Rattle.std.proofs.lemmas.Bool.Decides.{Decides-eqb}
use Rattle.std.proofs.lemmas.Option.{same_Some}
use Rattle.eir_term.specs.declared.term.Term.{Term}
use Rattle.eir_term.specs.declared.term.Term.TheVariants.{Var, Fixed}

-- lists of one length with the same elements are one
pub same-lists : {X : Type 0} (xs ys : List X) → length xs ≡ length ys →
    ((k : ℕ) → k < length xs → slice_get xs k ≡ slice_get ys k) → xs ≡ ys
same-lists [] [] l h = refl
same-lists [] (y ∷ ys) l h = absurd (omega arith)
same-lists (x ∷ xs) [] l h = absurd (omega arith)
same-lists (x ∷ xs) (y ∷ ys) l h =
    ap₂ (λ z zs. z ∷ zs) (same_Some _ _ (h 0 (omega arith)))
    (same-lists xs ys (omega arith) (λ k b. h (suc k) (omega arith)))

-- a test of terms that compares the numbers of terms of one kind decides whether they are equal
pub term-decides : (E : Term → Term → Bool) → ((a b : ℕ) → E (Var a) (Var b) ≡ (a == b)) →
    ((a b : ℕ) → E (Var a) (Fixed b) ≡ false) → ((a b : ℕ) → E (Fixed a) (Var b) ≡ false) →
    ((a b : ℕ) → E (Fixed a) (Fixed b) ≡ (a == b)) → (t u : Term) → Decides (E t u) (t ≡ u)
term-decides E v f g w (Var a) (Var b) =
    subst (λ r. Decides r (Var a ≡ Var b)) (sym (v a b))
    (λ t. ap Var ((Decides-eqb a b).0 t), λ e. (Decides-eqb a b).1 cc)
term-decides E v f g w (Var a) (Fixed b) =
    subst (λ r. Decides r (Var a ≡ Fixed b)) (sym (f a b)) (λ t. absurd (false≢true t), λ e. cc)
term-decides E v f g w (Fixed a) (Var b) =
    subst (λ r. Decides r (Fixed a ≡ Var b)) (sym (g a b)) (λ t. absurd (false≢true t), λ e. cc)
term-decides E v f g w (Fixed a) (Fixed b) =
    subst (λ r. Decides r (Fixed a ≡ Fixed b)) (sym (w a b))
    (λ t. ap Fixed ((Decides-eqb a b).0 t), λ e. (Decides-eqb a b).1 cc)
