-- Lists of facts without one of them, and lists of which one part has what the other lacks.
use Rattle.std.proofs.Common.{◌≡◌, ◌≢◌, ℕ, zero, suc, ◌+◌, inl, inr, List, [], ◌∷◌, ◌++◌, length, remove, Some, slice_get, refl, sym, ap, subst, arith}
use Rattle.std.proofs.lemmas.Bool.{cases_Bool}
use Rattle.std.proofs.lemmas.Option.{same_Some, none-some}
use Rattle.eir_term.specs.declared.fact.Fact.{Fact}
use Rattle.eir_term.specs.Lists.{◌∈◌, IsDistinct, without}
use Rattle.eir_term.specs.Facts.{fact_eq, fact_eq-decides}
use Rattle.eir_term.proofs.ListLaws.{apart-false, ∈-append_left, ∈-append_right}
use Rattle.eir_term.proofs.OrderLaws.{∈-slice_get_from}

-- without a fact that is not there a list stays
pub without-absent : (f : Fact) (K : List Fact) → (f ∈ K → ⊥) → without fact_eq f K ≡ K
without-absent f [] a = refl
without-absent f (x ∷ K) a = rw (apart-false fact_eq fact_eq-decides f x (λ e. a (inl e))) (ap (λ fs. x ∷ fs) (without-absent f K (λ h. a (inr h))))

pub without-append : (f : Fact) (K L : List Fact) → without fact_eq f (K ++ L) ≡ without fact_eq f K ++ without fact_eq f L
without-append f [] L = refl
without-append f (x ∷ K) L = elim (cases_Bool (fact_eq f x)) [ inl t ↦ rw t (without-append f K L) | inr t ↦ rw t (ap (λ fs. x ∷ fs) (without-append f K L)) ]

-- a fact that stands once is taken out by its place
pub remove-without : (f : Fact) (K : List Fact) (p : ℕ) → slice_get K p ≡ Some f → IsDistinct K → remove K p ≡ without fact_eq f K
remove-without f [] p e d = absurd (none-some f e)
remove-without f (x ∷ K) zero e d =
    let s : f ≡ x = sym (same_Some x f e) in
    rw ((fact_eq-decides f x).1 s) (sym (without-absent f K (λ h. d.0 (subst (λ y. y ∈ K) s h))))
remove-without f (x ∷ K) (suc p) e d =
    let apart : f ≢ x = λ s. d.0 (subst (λ y. y ∈ K) s (∈-slice_get_from f K p e)) in
    rw (apart-false fact_eq fact_eq-decides f x apart) (ap (λ fs. x ∷ fs) (remove-without f K p e d.1))

-- and leaves one fact less
pub length-without : (f : Fact) (K : List Fact) → IsDistinct K → f ∈ K → length (without fact_eq f K) + 1 ≡ length K
length-without f [] d h = elim h [ ]
length-without f (x ∷ K) d (inl e) =
    let s = without-absent f K (λ h. d.0 (subst (λ y. y ∈ K) e h)) in
    rw ((fact_eq-decides f x).1 e, s) (omega arith)
length-without f (x ∷ K) d (inr h) =
    let apart : f ≢ x = λ s. d.0 (subst (λ y. y ∈ K) s h) in
    let r = length-without f K d.1 h in
    rw (apart-false fact_eq fact_eq-decides f x apart) (omega arith)

-- the two parts of a list without repeats
pub IsDistinct-front : {X : Type 0} (xs ys : List X) → IsDistinct (xs ++ ys) → IsDistinct xs
IsDistinct-front [] ys d = tt
IsDistinct-front (x ∷ xs) ys d = (λ h. d.0 (∈-append_left x xs ys h), IsDistinct-front xs ys d.1)

pub IsDistinct-back : {X : Type 0} (xs ys : List X) → IsDistinct (xs ++ ys) → IsDistinct ys
IsDistinct-back [] ys d = d
IsDistinct-back (x ∷ xs) ys d = IsDistinct-back xs ys d.1

-- what is in the one is not in the other
pub IsDistinct-apart : {X : Type 0} (x : X) (xs ys : List X) → IsDistinct (xs ++ ys) → x ∈ xs → x ∈ ys → ⊥
IsDistinct-apart x [] ys d h k = elim h [ ]
IsDistinct-apart x (z ∷ xs) ys d (inl e) k = d.0 (subst (λ y. y ∈ (xs ++ ys)) e (∈-append_right x xs ys k))
IsDistinct-apart x (z ∷ xs) ys d (inr h) k = IsDistinct-apart x xs ys d.1 h k
