-- Sets of versions, as the versions of some examples are put into one.
use Rattle.std.proofs.Common.{◌≡◌, ℕ, ◌⊎◌, ◌<◌, ◌≤◌, ◌+◌, Bool, true, false, ◌||◌, List, [], ◌∷◌, ◌++◌, map, length, get_or, take, refl, sym, ◌∙◌, ap, subst, inl, inr, arith}
use Rattle.std.specs.Prelude.{IsTrue, ◌↔◌, if◌then◌else◌, eqb, ◌==◌}
use Rattle.std.specs.List.{list_any}
use Rattle.std.proofs.lemmas.Bool.{cases_Bool, false≢true}
use Rattle.std.proofs.lemmas.Bool.Decides.{Decides-eqb}
use Rattle.std.proofs.lemmas.List.{map-append}
use Rattle.std.proofs.lemmas.List.Folds.{list_any-append}
use Rattle.eir_term.specs.Lists.{◌∈◌, IsDistinct}
use Rattle.eir_term.proofs.ListLaws.{∈-append_cases, ∈-append_left, ∈-append_right, ∈-list_any, ∈-list_any_from, IsDistinct-push}
use Rattle.eir_edit.specs.Histories.{Example, has_version}
use Rattle.eir_edit.proofs.ListLaws.{next-taken, take-all}

either : (a b : Bool) → (a || b) ≡ true → (a ≡ true) ⊎ (b ≡ true)
either true b t = inl refl
either false b t = inr t

left : (a b : Bool) → a ≡ true → (a || b) ≡ true
left a b t = rw t refl

right : (a b : Bool) → b ≡ true → (a || b) ≡ true
right true b t = refl
right false b t = t

-- one element more passes, or one of those before
pub any-more : {X Y : Type 0} (f : X → Y) (xs : List X) (i : ℕ) (x : X) (p : Y → Bool) → i < length xs → x ≡ get_or xs i x → IsTrue (list_any p (map f (take (i + 1) xs))) ↔ (IsTrue (list_any p (map f (take i xs))) ⊎ IsTrue (p (f x)))
any-more f xs i x p within at =
    let e : list_any p (map f (take (i + 1) xs)) ≡ (list_any p (map f (take i xs)) || (p (f x) || false)) =
    ap (λ ys. list_any p (map f ys)) (next-taken f xs i x within at) ∙ ap (list_any p) (map-append f (take i xs) (x ∷ [])) ∙ list_any-append p (map f (take i xs)) (f x ∷ []) in (
      λ t. elim (either (list_any p (map f (take i xs))) (p (f x) || false) (sym e ∙ t)) [
        | inl s ↦ inl s
        | inr s ↦ elim (either (p (f x)) false s) [ inl u ↦ inr u | inr u ↦ absurd (false≢true u) ]
      ],
      λ t. e ∙ elim t [
        | inl s ↦ left (list_any p (map f (take i xs))) (p (f x) || false) s
        | inr s ↦ right (list_any p (map f (take i xs))) (p (f x) || false) (left (p (f x)) false s)
      ],
    )

module _ (ks new : List ℕ) (n : ℕ) (grown : new ≡ (if list_any (eqb n) ks then ks else ks ++ n ∷ [])) where
  -- what a set has with one number more
  pub ∈-inserted : (v : ℕ) → (v ∈ new) ↔ ((v ∈ ks) ⊎ (v ≡ n))
  ∈-inserted v = elim (cases_Bool (list_any (eqb n) ks)) [
    | inl t ↦ (let e : new ≡ ks = grown ∙ rw t refl in rw e (λ h. inl h, λ h. elim h [ inl k ↦ k | inr q ↦ rw q (∈-list_any_from eqb Decides-eqb n ks t) ]))
    | inr t ↦ (
        let e : new ≡ ks ++ n ∷ [] = grown ∙ rw t refl in
        rw e (
          λ h. elim (∈-append_cases v ks (n ∷ []) h) [ inl k ↦ inl k | inr k ↦ elim k [ inl q ↦ inr q | inr k ↦ absurd k ] ],
          λ h. elim h [ inl k ↦ ∈-append_left v ks (n ∷ []) k | inr q ↦ ∈-append_right v ks (n ∷ []) (inl q) ],
        )
        )
  ]

  pub IsDistinct-inserted : IsDistinct ks → IsDistinct new
  IsDistinct-inserted d = elim (cases_Bool (list_any (eqb n) ks)) [
    | inl t ↦ (let e : new ≡ ks = grown ∙ rw t refl in rw e d)
    | inr t ↦ (
        let e : new ≡ ks ++ n ∷ [] = grown ∙ rw t refl in
        rw e (IsDistinct-push ks n d (λ h. false≢true (sym t ∙ ∈-list_any eqb Decides-eqb n ks h)))
        )
  ]

-- the set has the versions of one example more
pub versions-more : {S : Type 0} (f : S → Example) (xs : List S) (i : ℕ) (x : S) (old ks new : List ℕ) (n : ℕ) → i < length xs → x ≡ get_or xs i x → new ≡ (if list_any (eqb n) ks then ks else ks ++ n ∷ []) → n ≡ (f x).version
    → ((v : ℕ) → (v ∈ ks) ↔ ((v ∈ old) ⊎ IsTrue (has_version v (map f (take i xs))))) → (v : ℕ) → (v ∈ new) ↔ ((v ∈ old) ⊎ IsTrue (has_version v (map f (take (i + 1) xs))))
versions-more f xs i x old ks new n within at grown is members v =
    let more = any-more f xs i x (λ (y : Example). y.version == v) within at in
    let inserted = ∈-inserted ks new n grown v in (
      λ h. elim (inserted.0 h) [
        | inl k ↦ elim ((members v).0 k) [ inl o ↦ inl o | inr t ↦ inr (more.1 (inl t)) ]
        | inr q ↦ inr (more.1 (inr ((Decides-eqb (f x).version v).1 (sym is ∙ sym q))))
      ],
      λ h. elim h [
        | inl o ↦ inserted.1 (inl ((members v).1 (inl o)))
        | inr t ↦ elim (more.0 t) [
          | inl s ↦ inserted.1 (inl ((members v).1 (inr s)))
          | inr s ↦ inserted.1 (inr (sym ((Decides-eqb (f x).version v).0 s) ∙ sym is))
        ]
      ],
    )

-- the set has the versions of one list more
pub lists-more : {S : Type 0} (f : S → List Example) (first : List Example) (xs : List S) (i : ℕ) (x : S) (ks new : List ℕ) → i < length xs → x ≡ get_or xs i x
    → ((v : ℕ) → (v ∈ ks) ↔ IsTrue (list_any (has_version v) (first ∷ map f (take i xs)))) → ((v : ℕ) → (v ∈ new) ↔ ((v ∈ ks) ⊎ IsTrue (has_version v (f x))))
    → (v : ℕ) → (v ∈ new) ↔ IsTrue (list_any (has_version v) (first ∷ map f (take (i + 1) xs)))
lists-more f first xs i x ks new within at members put v =
    let more = any-more f xs i x (has_version v) within at in
    let a = has_version v first in
    let before = list_any (has_version v) (map f (take i xs)) in
    let all = list_any (has_version v) (map f (take (i + 1) xs)) in (
      λ h. elim ((put v).0 h) [
        | inl k ↦ elim (either a before ((members v).0 k)) [ inl t ↦ left a all t | inr t ↦ right a all (more.1 (inl t)) ]
        | inr t ↦ right a all (more.1 (inr t))
      ],
      λ h. elim (either a all h) [
        | inl t ↦ (put v).1 (inl ((members v).1 (left a before t)))
        | inr t ↦ elim (more.0 t) [ inl s ↦ (put v).1 (inl ((members v).1 (right a before s))) | inr s ↦ (put v).1 (inr s) ]
      ],
    )

-- at the end of a list all are in
pub versions-end : {S : Type 0} (f : S → Example) (xs : List S) (i : ℕ) → length xs ≤ i → (old ks : List ℕ) → ((v : ℕ) → (v ∈ ks) ↔ ((v ∈ old) ⊎ IsTrue (has_version v (map f (take i xs))))) → (v : ℕ) → (v ∈ ks) ↔ ((v ∈ old) ⊎ IsTrue (has_version v (map f xs)))
versions-end f xs i end old ks members v = subst (λ ys. (v ∈ ks) ↔ ((v ∈ old) ⊎ IsTrue (has_version v (map f ys)))) (take-all i xs end) (members v)

pub lists-end : {S : Type 0} (f : S → List Example) (first : List Example) (xs : List S) (i : ℕ) → length xs ≤ i → (ks : List ℕ) → ((v : ℕ) → (v ∈ ks) ↔ IsTrue (list_any (has_version v) (first ∷ map f (take i xs)))) → (v : ℕ) → (v ∈ ks) ↔ IsTrue (list_any (has_version v) (first ∷ map f xs))
lists-end f first xs i end ks members v = subst (λ ys. (v ∈ ks) ↔ IsTrue (list_any (has_version v) (first ∷ map f ys))) (take-all i xs end) (members v)
