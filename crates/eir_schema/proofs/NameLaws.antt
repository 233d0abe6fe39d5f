-- Laws of the table of names.
use Rattle.std.proofs.Common.{◌≡◌, ℕ, suc, ◌<◌, Bool, true, List, [], ◌∷◌, ◌++◌, map, length, Option, Some, Vec, slice_get, inl, inr, refl, sym, ◌∙◌, ap, subst}
use Rattle.std.specs.List.{list_any, position, position_or_len}
use Rattle.std.specs.Str.{bytes_eq}
use Rattle.std.proofs.lemmas.Bool.{cases_Bool, false≢true}
use Rattle.std.proofs.lemmas.List.{map-append}
use Rattle.std.proofs.lemmas.List.Folds.{list_any-append}
use Rattle.std.proofs.lemmas.Slice.Eq.{bytes_eq-Decides}
use Rattle.indexmap.specs.IndexSet.{insert_key}
use Rattle.eir_term.specs.Lists.{IsDistinct}
use Rattle.eir_term.proofs.ListLaws.{∈-list_any, ∈-list_any_from, IsDistinct-push, slice_get-place_of}
use Rattle.eir_schema.specs.Names.{with_name, number_of}
use Rattle.eir_schema.proofs.PlaceLaws.{place_of-map, list_any-map, position-some, list_any-position}

-- ---- one name more

pub with_name-there : (names : List (List ℕ)) (w : List ℕ) → list_any (bytes_eq w) names ≡ true → with_name names w ≡ names
with_name-there names w t = rw t

-- names stay distinct
pub IsDistinct-with_name : (names : List (List ℕ)) (w : List ℕ) → IsDistinct names → IsDistinct (with_name names w)
IsDistinct-with_name names w d = elim (cases_Bool (list_any (bytes_eq w) names)) [
  | inl t ↦ rw t d
  | inr t ↦ rw t (IsDistinct-push names w d (λ h. false≢true (sym t ∙ ∈-list_any bytes_eq bytes_eq-Decides w names h)))
]

-- a place stays where an element is put last that would be found there
pub number_of-push : (names : List (List ℕ)) (w : List ℕ) → number_of (names ++ w ∷ []) w ≡ number_of names w
number_of-push [] w = rw ((bytes_eq-Decides w w).1 refl)
number_of-push (n ∷ names) w = rw (number_of-push names w)

pub number_of-with_name : (names : List (List ℕ)) (w : List ℕ) → number_of (with_name names w) w ≡ number_of names w
number_of-with_name names w = elim (cases_Bool (list_any (bytes_eq w) names)) [ inl t ↦ rw t | inr t ↦ rw t (number_of-push names w) ]

-- ---- for callers

-- w is in the table
abbrev pub IsNamed : List (List ℕ) → List ℕ → Type 0
IsNamed names w = list_any (bytes_eq w) names ≡ true

pub IsNamed-with_name : (names : List (List ℕ)) (w : List ℕ) → IsNamed (with_name names w) w
IsNamed-with_name names w = elim (cases_Bool (list_any (bytes_eq w) names)) [
  | inl t ↦ rw (t, t) refl
  | inr t ↦ rw (t, list_any-append (bytes_eq w) names (w ∷ []), t, (bytes_eq-Decides w w).1 refl) refl
]

-- a number, once given, never changes
pub number_of-grown : (names more : List (List ℕ)) (w : List ℕ) → IsNamed names w → number_of (names ++ more) w ≡ number_of names w
number_of-grown [] more w t = absurd (false≢true t)
number_of-grown (n ∷ names) more w t = elim (cases_Bool (bytes_eq w n)) [
  | inl s ↦ rw s refl
  | inr s ↦ (let k : IsNamed names w = sym (rw s refl) ∙ t in rw s (ap (λ i. suc i) (number_of-grown names more w k)))
]

pub number_of-kept : (names : List (List ℕ)) (u w : List ℕ) → IsNamed names w → number_of (with_name names u) w ≡ number_of names w
number_of-kept names u w t = elim (cases_Bool (list_any (bytes_eq u) names)) [ inl s ↦ rw s refl | inr s ↦ rw s (number_of-grown names (u ∷ []) w t) ]

-- a number leads back to its name
pub slice_get-number_of : (names : List (List ℕ)) (w : List ℕ) → IsNamed names w → slice_get names (number_of names w) ≡ Some w
slice_get-number_of names w t = slice_get-place_of bytes_eq bytes_eq-Decides w names (∈-list_any_from bytes_eq bytes_eq-Decides w names t)

-- ---- as a set of byte strings in memory

-- a look-up in a set of byte strings that is seen as old
pub number-found : {Z : Type 0} (keys : List (Vec ℕ Z)) (old : List (List ℕ)) (w : List ℕ) (r : Option ℕ) (n : ℕ) → map (λ v. v.items) keys ≡ old →
    r ≡ position (λ v. bytes_eq w v.items) keys → r ≡ Some n → (old ≡ with_name old w) × (n ≡ number_of old w)
number-found {Z} keys old w r n seen e s =
    let p : Vec ℕ Z → Bool = λ v. bytes_eq w v.items in
    let k = position-some p keys n (sym e ∙ s) in
    let within : position_or_len p keys < length keys = subst (λ i. i < length keys) k.1 k.0 in
    let there : list_any (bytes_eq w) old ≡ true = subst (λ ns. list_any (bytes_eq w) ns ≡ true) seen (list_any-map (bytes_eq w) (λ (v : Vec ℕ Z). v.items) keys ∙ list_any-position p keys within) in
    (sym (with_name-there old w there), k.1 ∙ sym (place_of-map bytes_eq (λ (v : Vec ℕ Z). v.items) w keys) ∙ ap (λ ns. number_of ns w) seen)

module _ {Z : Type 0} (keys new : List (Vec ℕ Z)) (old : List (List ℕ)) (w : List ℕ) (v : Vec ℕ Z) (seen : map (λ v. v.items) keys ≡ old) (copied : v.items ≡ w) (grown : new ≡ insert_key (λ x y. bytes_eq x.items y.items) keys v) where
  images : (keys : List (Vec ℕ Z)) (v : Vec ℕ Z) → map (λ v. v.items) (insert_key (λ x y. bytes_eq x.items y.items) keys v) ≡ with_name (map (λ v. v.items) keys) v.items
  images keys v = elim (cases_Bool (list_any (λ (y : Vec ℕ Z). bytes_eq v.items y.items) keys)) [
    | inl t ↦ rw t (sym (with_name-there _ v.items (list_any-map (bytes_eq v.items) (λ (v : Vec ℕ Z). v.items) keys ∙ t)))
    | inr t ↦ rw (t, list_any-map (bytes_eq v.items) (λ (v : Vec ℕ Z). v.items) keys, t) (map-append (λ (v : Vec ℕ Z). v.items) keys (v ∷ []))
  ]

  -- a new byte string was put into a set that is seen as old
  pub added : map (λ v. v.items) new ≡ with_name old w
  added = ap (map (λ (v : Vec ℕ Z). v.items)) grown ∙ images keys v ∙ ap (λ u. with_name (map (λ (v : Vec ℕ Z). v.items) keys) u) copied ∙ ap (λ ns. with_name ns w) seen

  pub added-number : (n : ℕ) → n ≡ position_or_len (λ y. bytes_eq v.items y.items) keys → n ≡ number_of (map (λ v. v.items) new) w
  added-number n at =
      at ∙ sym (place_of-map bytes_eq (λ (v : Vec ℕ Z). v.items) v.items keys) ∙ ap (λ u. number_of (map (λ (v : Vec ℕ Z). v.items) keys) u) copied ∙ ap (λ ns. number_of ns w) seen
      ∙ sym (number_of-with_name old w) ∙ ap (λ ns. number_of ns w) (sym added)

  pub added-distinct : IsDistinct (map (λ v. v.items) keys) → IsDistinct (map (λ v. v.items) new)
  added-distinct d = subst (λ ns. IsDistinct ns) (sym added) (IsDistinct-with_name old w (subst (λ ns. IsDistinct ns) seen d))
