-- Names that stand twice.
use Rattle.std.proofs.Common.{◌≡◌, ℕ, zero, suc, ◌+◌, ◌<◌, true, false, not, ◌||◌, List, [], ◌∷◌, ◌++◌, map, length, get_or, take, refl, sym, ap, ap₂, ◌∙◌, subst, inl, inr, arith, Bor}
use Rattle.std.specs.List.{list_any}
use Rattle.std.specs.Str.{bytes_eq}
use Rattle.std.specs.Cmp.Lexicographic.{pointwise}
use Rattle.std.specs.Prelude.{nat_eq}
use Rattle.std.proofs.lemmas.Bool.{cases_Bool, false≢true, not-false, not-true}
use Rattle.std.proofs.lemmas.List.{map-append, take_more}
use Rattle.std.proofs.lemmas.Slice.Eq.{bytes_eq-Decides}
use Rattle.indexmap.specs.IndexSet.{insert_key}
use Rattle.eir_term.specs.Lists.{◌∈◌, IsDistinct}
use Rattle.eir_term.proofs.ListLaws.{∈-list_any, ∈-list_any_from, IsDistinct-push}
use Rattle.eir_schema.specs.Declarations.{has_repeat}

-- names of which none stands twice are distinct
pub IsDistinct-from_no_repeat : (ns : List (List ℕ)) → has_repeat ns ≡ false → IsDistinct ns
IsDistinct-from_no_repeat [] e = tt
IsDistinct-from_no_repeat (n ∷ ns) e = elim (cases_Bool (list_any (bytes_eq n) ns)) [
  | inl s ↦ (let k : has_repeat (n ∷ ns) ≡ true = rw s in absurd (false≢true (sym e ∙ k)))
  | inr s ↦ (λ h. false≢true (sym s ∙ ∈-list_any bytes_eq bytes_eq-Decides n ns h), IsDistinct-from_no_repeat ns (sym (rw s refl) ∙ e))
]

-- and of distinct names none stands twice
pub no_repeat-from_distinct : (ns : List (List ℕ)) → IsDistinct ns → has_repeat ns ≡ false
no_repeat-from_distinct [] d = refl
no_repeat-from_distinct (n ∷ ns) d = elim (cases_Bool (list_any (bytes_eq n) ns)) [
  | inl s ↦ absurd (d.0 (∈-list_any_from bytes_eq bytes_eq-Decides n ns s))
  | inr s ↦ rw s (no_repeat-from_distinct ns d.1)
]

-- ---- by a set of the names so far

get_or-in : {X : Type 0} (xs : List X) (i : ℕ) (y : X) → i < length xs → y ≡ get_or xs i y → y ∈ xs
get_or-in [] i y l e = absurd (omega arith)
get_or-in (z ∷ zs) zero y l e = inl e
get_or-in (z ∷ zs) (suc i) y l e = inr (get_or-in zs i y (omega arith) e)

-- a name that stands before its place stands twice
repeat-at : (ns : List (List ℕ)) (i : ℕ) (n : List ℕ) → IsDistinct ns → i < length ns → n ≡ get_or ns i n → n ∈ take i ns → ⊥
repeat-at [] i n d l e h = omega arith
repeat-at (m ∷ ms) zero n d l e h = h
repeat-at (m ∷ ms) (suc i) n d l e h = elim h [
  | inl s ↦ d.0 (subst (λ x. x ∈ ms) s (get_or-in ms i n (omega arith) e))
  | inr k ↦ repeat-at ms i n d.1 (omega arith) e k
]

-- what a set of lent names tells of the names that were put in
seen-test : (n : List ℕ) (ks : List (Bor (List ℕ))) (ns : List (List ℕ)) → map (λ k. k.now) ks ≡ ns → list_any (λ k. pointwise nat_eq n k.now) ks ≡ list_any (bytes_eq n) ns
seen-test n [] ns e = ap (list_any (bytes_eq n)) e
seen-test n (k ∷ ks) ns e = ap (λ b. bytes_eq n k.now || b) (seen-test n ks (map (λ x. x.now) ks) refl) ∙ ap (list_any (bytes_eq n)) e

module _ (ks : List (Bor (List ℕ))) (names : List (List ℕ)) (i : ℕ) (name : List ℕ) (seen : map (λ k. k.now) ks ≡ take i names) (within : i < length names) (is : name ≡ get_or names i name) (key : Bor (List ℕ)) (same : key.now ≡ name) where
  -- a name that was seen stands twice
  pub repeat-found : not (list_any (λ k. pointwise nat_eq key.now k.now) ks) ≡ false → true ≡ has_repeat names
  repeat-found e =
      let there : list_any (bytes_eq key.now) (take i names) ≡ true = sym (seen-test key.now ks (take i names) seen) ∙ not-false _ e in
      let k : name ∈ take i names = subst (λ n. n ∈ take i names) same (∈-list_any_from bytes_eq bytes_eq-Decides key.now (take i names) there) in
      elim (cases_Bool (has_repeat names)) [
        | inl s ↦ sym s
        | inr s ↦ absurd (repeat-at names i name (IsDistinct-from_no_repeat names s) within is k)
      ]

  module _ (new : List (Bor (List ℕ))) (kept : new ≡ insert_key (λ a b. pointwise nat_eq a.now b.now) ks key) (fresh : not (list_any (λ k. pointwise nat_eq key.now k.now) ks) ≡ true) where
    absent : list_any (λ k. pointwise nat_eq key.now k.now) ks ≡ false
    absent = not-true _ fresh

    -- a new name is seen behind the others
    pub seen-more : map (λ k. k.now) new ≡ take (i + 1) names
    seen-more =
        ap (λ xs. map (λ k. k.now) xs) (kept ∙ rw absent refl)
        ∙ map-append (λ k. k.now) ks (key ∷ [])
        ∙ ap₂ (λ xs n. xs ++ n ∷ []) seen (same ∙ is)
        ∙ sym (take_more names i name within)

    -- and the names stay distinct
    pub distinct-more : IsDistinct (take i names) → IsDistinct (take (i + 1) names)
    distinct-more d =
        let none : list_any (bytes_eq key.now) (take i names) ≡ false = sym (seen-test key.now ks (take i names) seen) ∙ absent in
        subst (λ xs. IsDistinct xs) (sym (take_more names i name within)) (IsDistinct-push (take i names) (get_or names i name) d (
        λ h. false≢true (sym none ∙ ∈-list_any bytes_eq bytes_eq-Decides key.now (take i names) (subst (λ n. n ∈ take i names) (sym (same ∙ is)) h))
        ))
