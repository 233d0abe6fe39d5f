-- Laws of maps as lists of pairs. The points are what a look-up gives after a put (`get-append`), that a put and a set keep
-- first members distinct (`IsDistinct-after_put`, `IsDistinct-after_set`), and that a map is the pairs of what it names
-- with its images (`graph-domain_of`).
use Rattle.std.proofs.Common.{◌≡◌, ℕ, zero, suc, ◌+◌, ◌<◌, Bool, false, cond, Some, None, slice_get, get_or, take, drop, set, map, length, Vec, vec_len, arith, ◌∙◌, inl, inr, List, [], ◌∷◌, ◌++◌, refl, sym, ap, ap₂, subst}
use Rattle.std.specs.Vec.{with_items}
use Rattle.std.proofs.lemmas.List.{map-append, with_items_is}
use Rattle.std.proofs.lemmas.Bool.{cases_Bool}
use Rattle.std.proofs.lemmas.Option.{none-some, same_Some}
use Rattle.eir_term.specs.declared.val.Val.{Val}
use Rattle.eir_term.specs.Lists.{◌∈◌, IsDistinct}
use Rattle.eir_term.specs.Values.{val_eq, val_eq-decides}
use Rattle.eir_term.specs.Maps.{domain_of, get, with_image, image_at, with_image_at, graph}
use Rattle.eir_term.proofs.ListLaws.{IsDistinct-push, apart-false, false-apart}
use Rattle.eir_term.proofs.OrderLaws.{∈-slice_get_from}

pub IsDistinct-put : (h : List (Val × Val)) (v w : Val) → IsDistinct (domain_of h) → (v ∈ domain_of h → ⊥) → IsDistinct (domain_of (h ++ (v, w) ∷ []))
IsDistinct-put h v w d n = subst (λ vs. IsDistinct vs) (sym (map-append (λ (p : Val × Val). p.0) h ((v, w) ∷ []))) (IsDistinct-push (domain_of h) v d n)

-- a pair was put at the end of what the owner sees as old
pub IsDistinct-after_put : (old inside new : List (Val × Val)) (v w : Val) → inside ≡ old → IsDistinct (domain_of inside) → (v ∈ domain_of old → ⊥) → new ≡ inside ++ (v, w) ∷ [] → IsDistinct (domain_of new)
IsDistinct-after_put old inside new v w seen d n e = subst (λ h. IsDistinct (domain_of h)) (sym e) (IsDistinct-put inside v w d (λ k. n (subst (λ h. v ∈ domain_of h) seen k)))

-- a value with no image is no first member
pub absent-from_get : (m : List (Val × Val)) (v : Val) → get m v ≡ None → v ∈ domain_of m → ⊥
absent-from_get [] v e h = h
absent-from_get (p ∷ m) v e (inl q) = none-some p.1 (sym e ∙ rw ((val_eq-decides p.0 v).1 (sym q)))
absent-from_get (p ∷ m) v e (inr h) = elim (cases_Bool (val_eq p.0 v))
    [ inl t ↦ none-some p.1 (sym e ∙ rw t) | inr t ↦ (let rest : get m v ≡ None = sym (rw t) ∙ e in absent-from_get m v rest h) ]

-- one step of a loop that maps a list in place
pub set-mapped : {X : Type 0} (f : X → X) (old : List X) (i : ℕ) (d : X) → i < length old →
    set (map f (take i old) ++ drop i old) i (f (get_or (map f (take i old) ++ drop i old) i d)) ≡ map f (take (i + 1) old) ++ drop (i + 1) old
set-mapped {X} f old i d l = step old i l ∙ ap (λ k. map f (take k old) ++ drop k old) (let q : suc i ≡ i + 1 = omega arith in q)
  where
    step : (old : List X) (i : ℕ) → i < length old → set (map f (take i old) ++ drop i old) i (f (get_or (map f (take i old) ++ drop i old) i d)) ≡ map f (take (suc i) old) ++ drop (suc i) old
    step [] i l = absurd (omega arith)
    step (x ∷ old) zero l = refl
    step (x ∷ old) (suc i) l = ap (λ xs. f x ∷ xs) (step old i (omega arith))

-- one step of the loop that gives v another image, where the pair at its place begins with v and where not
pub with_image-step : (old now new : List (Val × Val)) (i : ℕ) (v w : Val) (d : Val × Val) (b : Bool) → i < length old → now ≡ with_image (take i old) v w ++ drop i old →
    b ≡ val_eq (get_or now i d).0 v → new ≡ set now i (cond b ((get_or now i d).0, w) (get_or now i d)) → new ≡ with_image (take (i + 1) old) v w ++ drop (i + 1) old
with_image-step old now new i v w d b l e t n =
    n ∙ ap (λ b. set now i (cond b ((get_or now i d).0, w) (get_or now i d))) t ∙ ap (λ now. set now i (cond (val_eq (get_or now i d).0 v) ((get_or now i d).0, w) (get_or now i d))) e
    ∙ set-mapped (λ (p : Val × Val). cond (val_eq p.0 v) (p.0, w) p) old i d l

-- a new image keeps the first members
pub domain_of-with_image : (h : List (Val × Val)) (v w : Val) → domain_of (with_image h v w) ≡ domain_of h
domain_of-with_image [] v w = refl
domain_of-with_image (p ∷ h) v w = elim (cases_Bool (val_eq p.0 v))
    [ inl t ↦ rw t (ap (λ vs. p.0 ∷ vs) (domain_of-with_image h v w)) | inr t ↦ rw t (ap (λ vs. p.0 ∷ vs) (domain_of-with_image h v w)) ]

-- a map has no image for what it does not name
pub with_image-absent : (h : List (Val × Val)) (v w : Val) → (v ∈ domain_of h → ⊥) → with_image h v w ≡ h
with_image-absent [] v w absent = refl
with_image-absent (p ∷ h) v w absent =
    rw (apart-false val_eq val_eq-decides p.0 v (λ e. absent (inl (sym e)))) (ap (λ k. p ∷ k) (with_image-absent h v w (λ i. absent (inr i))))

-- a list of the same first members was written over what a vector holds
pub IsDistinct-after_set : {Z : Type 0} (inside : Vec (Val × Val) Z) (lent new : List (Val × Val)) (v w : Val) → lent ≡ inside.items → length lent ≡ vec_len inside → length new ≡ length lent →
    IsDistinct (domain_of inside.items) → new ≡ with_image lent v w → IsDistinct (domain_of (with_items inside new).items)
IsDistinct-after_set inside lent new v w seen long same d e =
    subst (λ h. IsDistinct (domain_of h)) (sym (with_items_is inside new (same ∙ long)))
    (subst (λ vs. IsDistinct vs) (sym (ap domain_of e ∙ domain_of-with_image lent v w ∙ ap domain_of seen)) d)

-- a pair was written over the one at a place of what the owner sees as old, with the same first member
pub set-with_image_at : (old inside : List (Val × Val)) (n : ℕ) (w : Val) (p : Val × Val) → inside ≡ old → n < length old → p ≡ get_or inside n p → set inside n (p.0, w) ≡ with_image_at old n w
set-with_image_at old inside n w p seen l e = step inside n (subst (λ h. n < length h) (sym seen) l) e ∙ ap (λ h. with_image_at h n w) seen
  where
    step : (h : List (Val × Val)) (n : ℕ) → n < length h → p ≡ get_or h n p → set h n (p.0, w) ≡ with_image_at h n w
    step [] n l e = absurd (omega arith)
    step (q ∷ h) zero l e = ap (λ (x : Val × Val). let y : Val × Val = (x.0, w) in y ∷ h) e
    step (q ∷ h) (suc n) l e = ap (λ k. q ∷ k) (step h n (omega arith) e)

-- an image at a place keeps the first members
pub domain_of-with_image_at : (h : List (Val × Val)) (n : ℕ) (w : Val) → domain_of (with_image_at h n w) ≡ domain_of h
domain_of-with_image_at [] n w = refl
domain_of-with_image_at (p ∷ h) zero w = refl
domain_of-with_image_at (p ∷ h) (suc n) w = ap (λ vs. p.0 ∷ vs) (domain_of-with_image_at h n w)

pub length-with_image_at : (h : List (Val × Val)) (n : ℕ) (w : Val) → length (with_image_at h n w) ≡ length h
length-with_image_at [] n w = refl
length-with_image_at (p ∷ h) zero w = refl
length-with_image_at (p ∷ h) (suc n) w = ap suc (length-with_image_at h n w)

-- an image at the place after the first pairs leaves those, and what comes later
pub with_image_at-append : (h k : List (Val × Val)) (p : Val × Val) (n : ℕ) (w : Val) → n ≡ length h → with_image_at (h ++ p ∷ k) n w ≡ h ++ (p.0, w) ∷ k
with_image_at-append [] k p zero w e = refl
with_image_at-append [] k p (suc n) w e = absurd (omega arith)
with_image_at-append (q ∷ h) k p zero w e = absurd (omega arith)
with_image_at-append (q ∷ h) k p (suc n) w e = ap (λ x. q ∷ x) (with_image_at-append h k p n w (omega arith))

-- at that place stands the new image
pub image_at-with_image_at : (h : List (Val × Val)) (n : ℕ) (w : Val) → n < length h → image_at (with_image_at h n w) n ≡ Some w
image_at-with_image_at [] n w l = absurd (omega arith)
image_at-with_image_at (p ∷ h) zero w l = refl
image_at-with_image_at (p ∷ h) (suc n) w l = image_at-with_image_at h n w (omega arith)

-- and each other place keeps its own
pub image_at-with_image_at_other : (h : List (Val × Val)) (n k : ℕ) (w : Val) → (k ≡ n → ⊥) → image_at (with_image_at h n w) k ≡ image_at h k
image_at-with_image_at_other [] n k w ne = refl
image_at-with_image_at_other (p ∷ h) zero zero w ne = absurd (ne refl)
image_at-with_image_at_other (p ∷ h) zero (suc k) w ne = refl
image_at-with_image_at_other (p ∷ h) (suc n) zero w ne = refl
image_at-with_image_at_other (p ∷ h) (suc n) (suc k) w ne = image_at-with_image_at_other h n k w (λ e. ne (ap suc e))

-- where first members are distinct, an image at a place is the image of what stands there
pub with_image_at-with_image : (h : List (Val × Val)) (n : ℕ) (v w : Val) → IsDistinct (domain_of h) → slice_get (domain_of h) n ≡ Some v → with_image_at h n w ≡ with_image h v w
with_image_at-with_image [] n v w d e = absurd (none-some v e)
with_image_at-with_image (p ∷ h) zero v w d e =
    let q = same_Some p.0 v e in
    rw ((val_eq-decides p.0 v).1 q) (ap (λ k. (p.0, w) ∷ k) (sym (with_image-absent h v w (λ i. d.0 (subst (λ u. u ∈ domain_of h) (sym q) i)))))
with_image_at-with_image (p ∷ h) (suc n) v w d e =
    rw (apart-false val_eq val_eq-decides p.0 v (λ q. d.0 (subst (λ u. u ∈ domain_of h) (sym q) (∈-slice_get_from v (domain_of h) n e))))
    (ap (λ k. p ∷ k) (with_image_at-with_image h n v w d.1 e))

-- what a map names has an image
pub get-domain_of : (m : List (Val × Val)) (v : Val) → v ∈ domain_of m → (w : Val) × (get m v ≡ Some w)
get-domain_of [] v h = elim h [ ]
get-domain_of (p ∷ m) v (inl e) = (p.1, rw ((val_eq-decides p.0 v).1 (sym e)))
get-domain_of (p ∷ m) v (inr h) = elim (cases_Bool (val_eq p.0 v)) [ inl t ↦ (p.1, rw t) | inr t ↦ (let r = get-domain_of m v h in (r.0, rw t r.1)) ]

-- what has an image is named
pub ∈-domain_of : (m : List (Val × Val)) (v w : Val) → get m v ≡ Some w → v ∈ domain_of m
∈-domain_of [] v w e = absurd (none-some w e)
∈-domain_of (p ∷ m) v w e = elim (cases_Bool (val_eq p.0 v))
    [ inl t ↦ inl (sym ((val_eq-decides p.0 v).0 t)) | inr t ↦ (let k : get m v ≡ Some w = sym (rw t) ∙ e in inr (∈-domain_of m v w k)) ]

-- a look-up after a pair of a new value was put last
pub get-append : (m : List (Val × Val)) (v w u : Val) → get m v ≡ None → get (m ++ (v, w) ∷ []) u ≡ cond (val_eq v u) (Some w) (get m u)
get-append [] v w u e = refl
get-append (p ∷ m) v w u e = elim (cases_Bool (val_eq p.0 v)) [
  | inl t ↦ absurd (none-some p.1 (sym e ∙ rw t))
  | inr t ↦ elim (cases_Bool (val_eq p.0 u)) [
    | inl s ↦ (let ne : val_eq v u ≡ false = apart-false val_eq val_eq-decides v u (λ q. false-apart val_eq val_eq-decides p.0 v t ((val_eq-decides p.0 u).0 s ∙ sym q)) in rw (s, ne))
    | inr s ↦ (let rest : get m v ≡ None = sym (rw t) ∙ e in rw s (get-append m v w u rest))
  ]
]

-- the new value's own image
pub get-append_same : (m : List (Val × Val)) (v w : Val) → get m v ≡ None → get (m ++ (v, w) ∷ []) v ≡ Some w
get-append_same m v w e = get-append m v w v e ∙ rw ((val_eq-decides v v).1 refl)

-- the pairs of what a map names with what any function that follows it makes of that are the map
pub graph-domain_of : (g : Val → Val) (h : List (Val × Val)) → IsDistinct (domain_of h) → ((v w : Val) → get h v ≡ Some w → g v ≡ w) → graph g (domain_of h) ≡ h
graph-domain_of g [] d follows = refl
graph-domain_of g (p ∷ h) d follows =
    let first : (p.0, g p.0) ≡ p = ap (λ w. (p.0, w)) (follows p.0 p.1 (rw ((val_eq-decides p.0 p.0).1 refl))) in
    ap₂ (λ q qs. q ∷ qs) first (graph-domain_of g h d.1 (λ v w e. follows v w (later v w e)))
  where
    later : (v w : Val) → get h v ≡ Some w → get (p ∷ h) v ≡ Some w
    later v w e = rw (apart-false val_eq val_eq-decides p.0 v (λ q. d.0 (subst (λ u. u ∈ domain_of h) (sym q) (∈-domain_of h v w e)))) e
