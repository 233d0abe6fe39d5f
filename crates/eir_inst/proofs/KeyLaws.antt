-- The keys of a fact. The point is `in_fact-has`: a place is put under a key exactly where the fact has the key.
use Rattle.std.proofs.Common.{◌≡◌, ℕ, zero, suc, ◌+◌, ◌<◌, ◌==◌, ◌&&◌, inl, inr, Bool, true, false, cond, List, [], ◌∷◌, ◌++◌, length, option_map, unwrap_or, slice_get, refl, sym, ◌∙◌, ap, arith}
use Rattle.std.proofs.lemmas.Bool.{cases_Bool, false≢true}
use Rattle.std.proofs.lemmas.Bool.Decides.{Decides-eqb}
use Rattle.eir_term.specs.declared.val.Val.{Val}
use Rattle.eir_term.specs.declared.fact.Fact.{Fact}
use Rattle.eir_term.specs.Values.{val_eq}
use Rattle.eir_term.specs.Lists.{places}
use Rattle.eir_inst.specs.declared.key.Key.{Key}
use Rattle.eir_inst.specs.declared.key.Key.TheVariants.{Relation, Column}
use Rattle.eir_inst.specs.Keys.{has_key}
use Rattle.eir_inst.specs.Postings.{in_columns, in_fact}
use Rattle.eir_inst.proofs.PlaceLaws.{places-push}

-- the test of numbers does not mind the order of its arguments
eqb-flip : (a b : ℕ) → (a == b) ≡ (b == a)
eqb-flip a b = elim (cases_Bool (b == a)) [
  | inl t ↦ (Decides-eqb a b).1 (sym ((Decides-eqb b a).0 t)) ∙ sym t
  | inr t ↦ elim (cases_Bool (a == b)) [
    | inl s ↦ absurd (false≢true (sym t ∙ (Decides-eqb b a).1 (sym ((Decides-eqb a b).0 s))))
    | inr s ↦ s ∙ sym t
  ]
]

-- different numbers
eqb-apart : (a b : ℕ) → (a ≡ b → ⊥) → (a == b) ≡ false
eqb-apart a b ne = elim (cases_Bool (a == b)) [ inl t ↦ absurd (ne ((Decides-eqb a b).0 t)) | inr t ↦ t ]

and-false : (b : Bool) → (b && false) ≡ false
and-false true = refl
and-false false = refl

module _ (p r : ℕ) where
  -- no column is a relation
  columns-relation : (i : ℕ) (vs : List Val) (s : ℕ) → in_columns p r i vs (Relation s) ≡ []
  columns-relation i [] s = refl
  columns-relation i (v ∷ vs) s = columns-relation (i + 1) vs s

  -- nor an earlier column
  columns-before : (i : ℕ) (vs : List Val) (s j : ℕ) (w : Val) → j < i → in_columns p r i vs (Column s j w) ≡ []
  columns-before i [] s j w l = refl
  columns-before i (v ∷ vs) s j w l =
      let e : (j == i) ≡ false = eqb-apart j i (λ c. absurd (omega arith)) in
      rw (e, and-false (s == r)) (columns-before (i + 1) vs s j w (omega arith))

  -- a later one has the value there
  columns-at : (i d : ℕ) (vs : List Val) (s j : ℕ) (w : Val) → j ≡ i + d → in_columns p r i vs (Column s j w) ≡ cond ((s == r) && unwrap_or (option_map (val_eq w) (slice_get vs d)) false) (p ∷ []) []
  columns-at i d [] s j w c = rw (and-false (s == r)) refl
  columns-at i zero (v ∷ vs) s j w c =
      let e : (j == i) ≡ true = (Decides-eqb j i).1 (omega arith) in
      let rest : in_columns p r (i + 1) vs (Column s j w) ≡ [] = columns-before (i + 1) vs s j w (omega arith) in
      rw (e, rest) (by ((s == r) && val_eq w v))
    where
      by : (b : Bool) → cond b (p ∷ []) [] ++ [] ≡ cond b (p ∷ []) []
      by true = refl
      by false = refl
  columns-at i (suc d) (v ∷ vs) s j w c =
      let e : (j == i) ≡ false = eqb-apart j i (λ k. absurd (omega arith)) in
      rw (e, and-false (s == r)) (columns-at (i + 1) d vs s j w (omega arith))

-- a fact's place is put under exactly the keys that it has
pub in_fact-has : (p : ℕ) (f : Fact) (k : Key) → in_fact p f k ≡ cond (has_key k f) (p ∷ []) []
in_fact-has p f (Relation s) = rw (columns-relation p f.rel 0 f.args s, eqb-flip s f.rel) (by (f.rel == s))
  where
    by : (b : Bool) → cond b (p ∷ []) [] ++ [] ≡ cond b (p ∷ []) []
    by true = refl
    by false = refl
in_fact-has p f (Column s j w) = rw (columns-at p f.rel 0 j f.args s j w (omega arith), eqb-flip s f.rel) refl

-- so lists that were the places of the facts, and took one fact's in, are the places of the facts with it
pub places-with : (old new : Key → List ℕ) (K : List Fact) (f : Fact) (p : ℕ) → length K ≡ p → ((k : Key) → old k ≡ places (has_key k) 0 K) → ((k : Key) → new k ≡ old k ++ in_fact p f k) → (k : Key) → new k ≡ places (has_key k) 0 (K ++ f ∷ [])
places-with old new K f p l was grew k =
    let e : p ≡ 0 + length K = omega arith in
    grew k ∙ ap (λ qs. qs ++ in_fact p f k) (was k) ∙ ap (λ qs. places (has_key k) 0 K ++ qs) (in_fact-has p f k ∙ ap (λ q. cond (has_key k f) (q ∷ []) []) e) ∙ sym (places-push (has_key k) 0 K f)
