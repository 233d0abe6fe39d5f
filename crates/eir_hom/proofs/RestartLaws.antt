-- A start that gives way to another, pair by pair. The points are `start-kept`, `start-absent` and `start-set`: what each
-- pair of the new start does to the bindings; and `start-end`: after the last pair they are those of the new start.
--   bindings_at A B vs h  == the slot of no value bound to 0, and the slots of these values with the numbers of their images
use Rattle.std.proofs.Common.{◌≡◌, ◌≢◌, ◌↔◌, ℕ, zero, suc, ◌≤◌, ◌==◌, ◌||◌, Bool, true, false, cond, Decides, List, [], ◌∷◌, ◌++◌, Option, Some, None, is_some, map, length, take, drop, slice_get, unwrap_or, inl, inr, arith, refl, sym, ap, ap₂, subst, ◌∙◌}
use Rattle.std.proofs.lemmas.Bool.{cases_Bool, eq-eqb, ne_eqb}
use Rattle.std.proofs.lemmas.List.{take_all}
use Rattle.std.proofs.lemmas.Option.{none-some, same_Some}
use Rattle.eir_term.specs.declared.val.Val.{Val}
use Rattle.eir_term.specs.declared.fact.Fact.{Fact}
use Rattle.eir_term.specs.Lists.{◌∈◌, IsDistinct, place_of}
use Rattle.eir_term.specs.Values.{val_eq, val_eq-decides, is_fixed}
use Rattle.eir_term.specs.Instances.{values, occurrences}
use Rattle.eir_term.specs.Maps.{domain_of, get, image}
use Rattle.eir_term.specs.Plans.{is_known}
use Rattle.eir_term.proofs.ListLaws.{apart-false, false-apart, ∈-filter, ∈-filter_from, filter-agree, IsDistinct-distinct}
use Rattle.eir_term.proofs.HomLaws.{map-agree}
use Rattle.eir_term.proofs.MapLaws.{get-domain_of, ∈-domain_of}
use Rattle.eir_term.proofs.OrderLaws.{∈-slice_get_from, place_of-slice_get}
use Rattle.eir_hom.specs.Matching.{Bindings, with_number}
use Rattle.eir_hom.specs.Levels.{number, given_values, bindings_of}
use Rattle.eir_hom.specs.Columns.{is_among}
use Rattle.eir_hom.specs.declared.given.Given.{Given}
use Rattle.eir_hom.specs.Listings.{IsEntry, AreEntries}
use Rattle.eir_hom.proofs.EntryLaws.{entries-at, pair-next}
use Rattle.eir_hom.proofs.BindingLaws.{same-test, number-below, number-test}

-- ---- numbers of values

place_of-absent : {X : Type 0} (eq : X → X → Bool) (same : (a b : X) → Decides (eq a b) (a ≡ b)) (xs : List X) (x : X) → (x ∈ xs → ⊥) → place_of eq x xs ≡ length xs
place_of-absent eq same [] x n = refl
place_of-absent eq same (y ∷ xs) x n = rw (apart-false eq same x y (λ e. n (inl e))) (ap suc (place_of-absent eq same xs x (λ h. n (inr h))))

pub values-distinct : (K : List Fact) → IsDistinct (values K)
values-distinct K = IsDistinct-distinct val_eq val_eq-decides (occurrences K)

-- the value at a place has the place for its number
pub number-at : (K : List Fact) (n : ℕ) (v : Val) → slice_get (values K) n ≡ Some v → number K v ≡ n
number-at K n v at = place_of-slice_get val_eq val_eq-decides v (values K) n (values-distinct K) at

-- what is no value has the number of values
pub number-absent : (K : List Fact) (v : Val) → (v ∈ values K → ⊥) → number K v ≡ length (values K)
number-absent K v n = place_of-absent val_eq val_eq-decides (values K) v n

-- ---- look-ups

get-append_none : (h k : List (Val × Val)) (v : Val) → get h v ≡ None → get (h ++ k) v ≡ get k v
get-append_none [] k v e = refl
get-append_none (p ∷ h) k v e = elim (cases_Bool (val_eq p.0 v)) [
  | inl t ↦ (let z : Some p.1 ≡ None = rw t at e in absurd (none-some p.1 (sym z)))
  | inr t ↦ (let z : get h v ≡ None = rw t at e in rw t (get-append_none h k v z))
]

get-append_some : (h k : List (Val × Val)) (v w : Val) → get h v ≡ Some w → get (h ++ k) v ≡ Some w
get-append_some [] k v w e = absurd (none-some w e)
get-append_some (p ∷ h) k v w e = elim (cases_Bool (val_eq p.0 v)) [
  | inl t ↦ (let z : Some p.1 ≡ Some w = rw t at e in rw t z)
  | inr t ↦ (let z : get h v ≡ Some w = rw t at e in rw t (get-append_some h k v w z))
]

-- a pair changes the images of its own value alone
get-other : (h k : List (Val × Val)) (p : Val × Val) (u : Val) → p.0 ≢ u → get (h ++ p ∷ k) u ≡ get (h ++ k) u
get-other [] k p u ne = rw (apart-false val_eq val_eq-decides p.0 u ne) refl
get-other (q ∷ h) k p u ne = elim (cases_Bool (val_eq q.0 u)) [ inl t ↦ rw t refl | inr t ↦ rw t (get-other h k p u ne) ]

pub ∈-domain_at : (t : List (Val × Val)) (k : ℕ) (p : Val × Val) → slice_get t k ≡ Some p → p.0 ∈ domain_of t
∈-domain_at [] k p at = absurd (none-some p at)
∈-domain_at (q ∷ t) zero p at = inl (ap (λ (x : Val × Val). x.0) (sym (same_Some q p at)))
∈-domain_at (q ∷ t) (suc k) p at = inr (∈-domain_at t k p at)

-- where first members are distinct, what stands at a place is not named before
get-before : (t : List (Val × Val)) (k : ℕ) (p : Val × Val) → IsDistinct (domain_of t) → slice_get t k ≡ Some p → get (take k t) p.0 ≡ None
get-before [] k p d at = absurd (none-some p at)
get-before (q ∷ t) zero p d at = refl
get-before (q ∷ t) (suc k) p d at =
    rw (apart-false val_eq val_eq-decides q.0 p.0 (λ e. d.0 (subst (λ x. x ∈ domain_of t) (sym e) (∈-domain_at t k p at)))) (get-before t k p d.1 at)

-- and has the image there
pub get-at : (t : List (Val × Val)) (k : ℕ) (p : Val × Val) → IsDistinct (domain_of t) → slice_get t k ≡ Some p → get t p.0 ≡ Some p.1
get-at [] k p d at = absurd (none-some p at)
get-at (q ∷ t) zero p d at = rw (← same_Some q p at, (val_eq-decides q.0 q.0).1 refl) refl
get-at (q ∷ t) (suc k) p d at =
    rw (apart-false val_eq val_eq-decides q.0 p.0 (λ e. d.0 (subst (λ x. x ∈ domain_of t) (sym e) (∈-domain_at t k p at)))) (get-at t k p d.1 at)

take-next : (t s : List (Val × Val)) (k : ℕ) (p : Val × Val) → slice_get t k ≡ Some p → take (suc k) t ++ s ≡ take k t ++ p ∷ s
take-next [] s k p at = absurd (none-some p at)
take-next (q ∷ t) s zero p at = ap (λ x. x ∷ s) (same_Some q p at)
take-next (q ∷ t) s (suc k) p at = ap (λ xs. q ∷ xs) (take-next t s k p at)

-- ---- bindings

-- the slot of no value bound to 0, and the slots of these values with the numbers of their images
abbrev pub bindings_at : List Fact → List Fact → List Val → List (Val × Val) → Bindings
bindings_at A B vs h = (length (values A), 0) ∷ map (λ v. (number A v, number B (image h v))) vs

numbers-agree : (A B : List Fact) (vs : List Val) (h k : List (Val × Val)) → ((v : Val) → v ∈ vs → get h v ≡ get k v) →
    map {B = ℕ × ℕ} (λ v. (number A v, number B (image h v))) vs ≡ map {B = ℕ × ℕ} (λ v. (number A v, number B (image k v))) vs
numbers-agree A B vs h k e = map-agree (λ v. (number A v, number B (image h v))) (λ v. (number A v, number B (image k v))) vs
    (λ v i. ap (λ o. let q : ℕ × ℕ = (number A v, number B (unwrap_or o v)) in q) (e v i))

-- a pair that stands in both starts changes nothing
pub start-kept : (A B : List Fact) (vs : List Val) (t s : List (Val × Val)) (k : ℕ) (p : Val × Val) → IsDistinct (domain_of t) → slice_get t k ≡ Some p → get s p.0 ≡ Some p.1 →
    bindings_at A B vs (take k t ++ s) ≡ bindings_at A B vs (take (suc k) t ++ s)
start-kept A B vs t s k p d at was =
    rw (take-next t s k p at) (ap (λ ns. (length (values A), 0) ∷ ns) (numbers-agree A B vs (take k t ++ s) (take k t ++ p ∷ s) same))
  where
    same : (u : Val) → u ∈ vs → get (take k t ++ s) u ≡ get (take k t ++ p ∷ s) u
    same u i = elim (cases_Bool (val_eq p.0 u)) [
      | inl e ↦ (
          let before = get-before t k p d at in
          let here : get (p ∷ s) p.0 ≡ Some p.1 = rw ((val_eq-decides p.0 p.0).1 refl) refl in
          let own : get (take k t ++ s) p.0 ≡ get (take k t ++ p ∷ s) p.0 = get-append_none (take k t) s p.0 before ∙ was ∙ sym (get-append_none (take k t) (p ∷ s) p.0 before ∙ here) in
          subst (λ x. get (take k t ++ s) x ≡ get (take k t ++ p ∷ s) x) ((val_eq-decides p.0 u).0 e) own)
      | inr e ↦ sym (get-other (take k t) s p u (false-apart val_eq val_eq-decides p.0 u e))
    ]

-- nor does a pair whose first member is no value of the source
pub start-absent : (A B : List Fact) (vs : List Val) (t s : List (Val × Val)) (k : ℕ) (p : Val × Val) → ((v : Val) → v ∈ vs → v ∈ values A) → slice_get t k ≡ Some p → (p.0 ∈ values A → ⊥) →
    bindings_at A B vs (take k t ++ s) ≡ bindings_at A B vs (take (suc k) t ++ s)
start-absent A B vs t s k p from at none =
    rw (take-next t s k p at)
    (ap (λ ns. (length (values A), 0) ∷ ns) (numbers-agree A B vs (take k t ++ s) (take k t ++ p ∷ s) (λ u i. sym (get-other (take k t) s p u (λ e. none (subst (λ x. x ∈ values A) (sym e) (from u i)))))))

numbers-set : (A B : List Fact) (vs : List Val) (h s : List (Val × Val)) (p : Val × Val) → ((v : Val) → v ∈ vs → v ∈ values A) → p.0 ∈ values A → get h p.0 ≡ None →
    with_number (map (λ v. (number A v, number B (image (h ++ s) v))) vs) (number A p.0) (number B p.1) ≡ map (λ v. (number A v, number B (image (h ++ p ∷ s) v))) vs
numbers-set A B [] h s p from there before = refl
numbers-set A B (v ∷ vs) h s p from there before =
    ap₂ (λ n ns. (number A v, n) ∷ ns) first (numbers-set A B vs h s p (λ u i. from u (inr i)) there before)
  where
    first : cond (number A v == number A p.0) (number B p.1) (number B (image (h ++ s) v)) ≡ number B (image (h ++ p ∷ s) v)
    first = elim (cases_Bool (val_eq v p.0)) [
      | inl e ↦ (
          let own : get (h ++ p ∷ s) p.0 ≡ Some p.1 = get-append_none h (p ∷ s) p.0 before ∙ rw ((val_eq-decides p.0 p.0).1 refl) refl in
          let at : get (h ++ p ∷ s) v ≡ Some p.1 = subst (λ x. get (h ++ p ∷ s) x ≡ Some p.1) (sym ((val_eq-decides v p.0).0 e)) own in
          rw (number-test A v p.0 there, e, at) refl)
      | inr e ↦ rw (number-test A v p.0 there, e, get-other h s p v (λ q. false-apart val_eq val_eq-decides v p.0 e (sym q))) refl
    ]

-- a pair of a value of the source gives its slot the number of its image
pub start-set : (A B : List Fact) (vs : List Val) (t s : List (Val × Val)) (k n : ℕ) (p : Val × Val) → ((v : Val) → v ∈ vs → v ∈ values A) → IsDistinct (domain_of t) → slice_get t k ≡ Some p → slice_get (values A) n ≡ Some p.0 →
    with_number (bindings_at A B vs (take k t ++ s)) n (number B p.1) ≡ bindings_at A B vs (take (suc k) t ++ s)
start-set A B vs t s k n p from d at slot =
    let there : p.0 ∈ values A = ∈-slice_get_from p.0 (values A) n slot in
    let own : number A p.0 ≡ n = number-at A n p.0 slot in
    let below = number-below A p.0 there in
    let apart : (length (values A) == number A p.0) ≡ false = ne_eqb (length (values A)) (number A p.0) (λ e. omega arith) in
    let set : with_number (bindings_at A B vs (take k t ++ s)) (number A p.0) (number B p.1) ≡ bindings_at A B vs (take k t ++ p ∷ s) =
    rw apart (ap (λ ns. (length (values A), 0) ∷ ns) (numbers-set A B vs (take k t) s p from there (get-before t k p d at))) in
    subst (λ i. with_number (bindings_at A B vs (take k t ++ s)) i (number B p.1) ≡ bindings_at A B vs (take (suc k) t ++ s)) own (set ∙ ap (bindings_at A B vs) (sym (take-next t s k p at)))

-- the slot of a value that is given is bound
pub start-bound : (A B : List Fact) (vs : List Val) (h : List (Val × Val)) (n : ℕ) (v : Val) → slice_get (values A) n ≡ Some v → v ∈ vs → is_among n (map (λ p. p.0) (bindings_at A B vs h)) ≡ true
start-bound A B vs h n v at i =
    subst (λ k. is_among k (map (λ (p : ℕ × ℕ). p.0) (bindings_at A B vs h)) ≡ true) (number-at A n v at) (later (length (values A) == number A v) (among vs i))
  where
    later : (b : Bool) {c : Bool} → c ≡ true → cond b true c ≡ true
    later true e = refl
    later false e = e

    among : (us : List Val) → v ∈ us → is_among (number A v) (map (λ (p : ℕ × ℕ). p.0) (map (λ u. (number A u, number B (image h u))) us)) ≡ true
    among [] i = absurd i
    among (u ∷ us) (inl e) = rw (eq-eqb (number A u) (number A v) (ap (number A) (sym e))) refl
    among (u ∷ us) (inr i) = later (number A u == number A v) (among us i)

-- ---- starts that name the same values

module _ (A : List Fact) (t s : List (Val × Val)) (same : (v : Val) → v ∈ values A → (v ∈ domain_of t) ↔ (v ∈ domain_of s)) where
  is_some-get : (h k : List (Val × Val)) (v : Val) → (v ∈ domain_of h → v ∈ domain_of k) → is_some (get h v) ≡ true → is_some (get k v) ≡ true
  is_some-get h k v to e =
      let named = to (∈-domain_of h v (some-from (get h v) e).0 (some-from (get h v) e).1) in
      rw ((get-domain_of k v named).1) refl
    where
      some-from : (o : Option Val) → is_some o ≡ true → (w : Val) × (o ≡ Some w)
      some-from None q = absurd (false-true q)
        where
          false-true : false ≡ true → ⊥
          false-true z = cc
      some-from (Some w) q = (w, refl)

  -- they name them alike
  pub named-alike : (v : Val) → v ∈ values A → is_some (get s v) ≡ is_some (get t v)
  named-alike v i = same-test (is_some (get s v)) (is_some (get t v)) (is_some-get s t v (same v i).1) (is_some-get t s v (same v i).0)

  -- a value of the source that the one names is given by the other
  pub named-given : (v : Val) → v ∈ values A → v ∈ domain_of t → v ∈ given_values A s
  named-given v i named =
      let some : is_some (get s v) ≡ true = rw ((get-domain_of s v ((same v i).0 named)).1) refl in
      ∈-filter (is_known s []) v (values A) (rw some (either (is_fixed v))) i
    where
      either : (b : Bool) → (b || true) ≡ true
      either true = refl
      either false = refl

  given-agree : given_values A s ≡ given_values A t
  given-agree = filter-agree (is_known s []) (is_known t []) (values A) (λ v i. ap (λ b. is_fixed v || (b || false)) (named-alike v i))

  -- after the last pair the bindings are those of the new start
  pub start-end : (B : List Fact) (n : ℕ) → length t ≤ n → bindings_at A B (given_values A s) (take n t ++ s) ≡ bindings_of A B t
  start-end B n l =
      rw (take_all n t l, given-agree)
      (ap (λ ns. (length (values A), 0) ∷ ns) (numbers-agree A B (given_values A t) (t ++ s) t (λ v i. by v (∈-filter_from (is_known t []) v (values A) i).0 (get t v) refl)))
    where
      by : (v : Val) → v ∈ values A → (o : Option Val) → get t v ≡ o → get (t ++ s) v ≡ get t v
      by v i (Some w) e = get-append_some t s v w e ∙ sym e
      by v i None e = get-append_none t s v e ∙ none-from (get s v) (named-alike v i ∙ ap is_some e) ∙ sym e
        where
          none-from : (o : Option Val) → is_some o ≡ false → o ≡ None
          none-from None q = refl
          none-from (Some w) q = cc

-- ---- entries

-- an entry is that of the pair which it keeps
pub entry-own : (A : List Fact) (ps : List (Val × Val)) (gs : List Given) (k : ℕ) (g : Given) → AreEntries A ps gs → slice_get gs k ≡ Some g → IsEntry A (g.name, g.image) g
entry-own A ps gs k g es at =
    let r = entries-at A ps gs k g es at in
    subst (λ (q : Val × Val). IsEntry A q g) (ap₂ (λ v w. let q : Val × Val = (v, w) in q) (sym r.2.name) (sym r.2.image)) r.2

-- where it keeps the pair that is next, that stood at the same place in the old start
pub entry-kept : (A : List Fact) (t s : List (Val × Val)) (gs : List Given) (k : ℕ) (p : Val × Val) (g : Given) → AreEntries A (take k t ++ drop k s) gs → slice_get gs k ≡ Some g → g.name ≡ p.0 → g.image ≡ p.1 →
    slice_get t k ≡ Some p → IsDistinct (domain_of s) → get s p.0 ≡ Some p.1
entry-kept A t s gs k p g es at name image there d =
    let r = entries-at A (take k t ++ drop k s) gs k g es at in
    let old : slice_get s k ≡ Some r.0 = sym (pair-next t s k p there) ∙ r.1 in
    subst (λ v. get s v ≡ Some p.1) (sym r.2.name ∙ name) (get-at s k r.0 d old ∙ ap Some (sym r.2.image ∙ image))
