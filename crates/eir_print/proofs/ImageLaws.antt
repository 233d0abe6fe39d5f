-- Images by their places in a map.
use Rattle.std.proofs.Common.{◌≡◌, ℕ, zero, suc, inl, inr, true, Some, unwrap_or, List, [], ◌∷◌, slice_get, refl, sym, ◌∙◌, ap, subst}
use Rattle.std.proofs.lemmas.Bool.{cases_Bool}
use Rattle.std.proofs.lemmas.Option.{none-some, same_Some}
use Rattle.eir_term.specs.declared.val.Val.{Val}
use Rattle.eir_term.specs.Lists.{◌∈◌, IsDistinct}
use Rattle.eir_term.specs.Values.{val_eq, val_eq-decides}
use Rattle.eir_term.specs.Maps.{domain_of, get, image}

-- the first member at a place is one
∈-domain_at : (h : List (Val × Val)) (i : ℕ) (p : Val × Val) → slice_get h i ≡ Some p → p.0 ∈ domain_of h
∈-domain_at [] i p e = absurd (none-some p e)
∈-domain_at (q ∷ h) zero p e = inl (ap (λ r. r.0) (sym (same_Some q p e)))
∈-domain_at (q ∷ h) (suc i) p e = inr (∈-domain_at h i p e)

-- where first members are distinct, the second member at a place is the image of the first one there
pub get-at : (h : List (Val × Val)) (i : ℕ) (p : Val × Val) → IsDistinct (domain_of h) → slice_get h i ≡ Some p → get h p.0 ≡ Some p.1
get-at [] i p d e = absurd (none-some p e)
get-at (q ∷ h) zero p d e = let t : val_eq q.0 p.0 ≡ true = (val_eq-decides q.0 p.0).1 (ap (λ r. r.0) (same_Some q p e)) in rw t (ap (λ r. Some r.1) (same_Some q p e))
get-at (q ∷ h) (suc i) p d e = elim (cases_Bool (val_eq q.0 p.0)) [
  | inl t ↦ absurd (d.0 (subst (λ v. v ∈ domain_of h) (sym ((val_eq-decides q.0 p.0).0 t)) (∈-domain_at h i p e)))
  | inr t ↦ rw t (get-at h i p d.1 e)
]

pub image-at : (h : List (Val × Val)) (i : ℕ) (p : Val × Val) (v : Val) → IsDistinct (domain_of h) → slice_get h i ≡ Some p → val_eq p.0 v ≡ true → p.1 ≡ image h v
image-at h i p v d e t = ap (λ o. unwrap_or o v) (sym (ap (λ u. get h u) (sym ((val_eq-decides p.0 v).0 t)) ∙ get-at h i p d e))
