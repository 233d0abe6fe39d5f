-- Values that get variables in turn, and the numbers of these.
use Rattle.std.proofs.Common.{◌≡◌, ℕ, zero, suc, ◌+◌, ◌<◌, inl, inr, Bool, true, false, List, [], ◌∷◌, ◌++◌, filter}
use Rattle.std.proofs.Common.{length, take, get_or, refl, sym, ◌∙◌, ap, ap₂, subst, append_assoc, arith}
use Rattle.std.specs.List.{list_any}
use Rattle.std.proofs.lemmas.Bool.{cases_Bool, false≢true}
use Rattle.std.proofs.lemmas.List.{append-nil, length-append}
use Rattle.std.proofs.lemmas.List.Elements.{filter_more}
use Rattle.indexmap.specs.IndexSet.{insert_key}
use Rattle.eir_term.specs.declared.val.Val.{Val}
use Rattle.eir_term.specs.declared.val.Val.TheVariants.{Const, Fixed, Null}
use Rattle.eir_term.specs.declared.term.Term.TheVariants.{Var}
use Rattle.eir_term.specs.declared.fact.Fact.{Fact}
use Rattle.eir_term.specs.Lists.{◌∈◌, IsDistinct, place_of}
use Rattle.eir_term.specs.Values.{val_eq, val_eq-decides, is_null}
use Rattle.eir_term.specs.Instances.{consts}
use Rattle.eir_term.specs.Canonical.{numbers, term_of}
use Rattle.eir_term.proofs.ListLaws.{∈-append_cases, ∈-filter_from, ∈-list_any_from}
use Rattle.eir_term.proofs.HomLaws.{consts-const}

-- what stands at a place is an element
pub ∈-item : {X : Type 0} (xs : List X) (i : ℕ) (d x : X) → i < length xs → x ≡ get_or xs i d → x ∈ xs
∈-item [] i d x l e = absurd (omega arith)
∈-item (y ∷ xs) zero d x l e = inl e
∈-item (y ∷ xs) (suc i) d x l e = inr (∈-item xs i d x (omega arith) e)

-- of distinct elements, that at a place does not stand before it
not-before : (vs : List Val) (i : ℕ) (d : Val) → IsDistinct vs → i < length vs → get_or vs i d ∈ take i vs → ⊥
not-before [] i d a l h = absurd (omega arith)
not-before (v ∷ vs) zero d a l h = h
not-before (v ∷ vs) (suc i) d a l (inl e) =
    a.0 (subst (λ u. u ∈ vs) e (∈-item vs i d (get_or vs i d) (omega arith) refl))
not-before (v ∷ vs) (suc i) d a l (inr h) = not-before vs i d a.1 (omega arith) h

-- the next of distinct values has no variable yet, where none of its kind had one before
pub without-variable : (p : Val → Bool) (ks vs : List Val) (i : ℕ) (d v : Val) (now : List Val) → IsDistinct vs →
    i < length vs → v ≡ get_or vs i d → (v ∈ ks → ⊥) → now ≡ ks ++ filter p (take i vs) → v ∈ now → ⊥
without-variable p ks vs i d v now a l at apart n h =
    elim (∈-append_cases v ks (filter p (take i vs)) (subst (λ us. v ∈ us) n h)) [
      | inl k ↦ apart k
      | inr k ↦ not-before vs i d a l (subst (λ u. u ∈ take i vs) at (∈-filter_from p v (take i vs) k).0)
    ]

-- a null is no constant
pub no-null : (I : List Fact) (n : ℕ) → Null n ∈ consts I → ⊥
no-null I n h = let q = consts-const (Null n) I h in cc (q.1)

-- a null is none of these
pub null-apart : (ks : List Val) (v : Val) → ((n : ℕ) → Null n ∈ ks → ⊥) → is_null v ≡ true → v ∈ ks → ⊥
null-apart ks (Const n) apart t h = false≢true t
null-apart ks (Fixed n) apart t h = false≢true t
null-apart ks (Null n) apart t h = apart n h

-- the numbers of one value more
pub numbers-more : (n : ℕ) (vs : List Val) (v : Val) → numbers n (vs ++ v ∷ []) ≡ numbers n vs ++ (n + length vs + 1)
    ∷ []
numbers-more n [] v = ap (λ k. k ∷ []) (let q : suc n ≡ n + 0 + 1 = omega arith in q)
numbers-more n (w ∷ vs) v =
    ap (λ ks. suc n ∷ ks) (numbers-more (suc n) vs v ∙ ap (λ k. numbers (suc n) vs ++ k ∷ [])
    (let q : suc n + length vs + 1 ≡ n + suc (length vs) + 1 = omega arith in q))

-- a value that is no fixed constant becomes a variable
pub term_of-var : (vs : List Val) (v : Val) (place : ℕ) → ((n : ℕ) → v ≡ Fixed n → ⊥) → place ≡ place_of val_eq v vs →
    Var (place + 1) ≡ term_of vs v
term_of-var vs (Const a) place apart e = ap Var (let q : place + 1 ≡ suc (place_of val_eq (Const a) vs) = omega arith in
    q)
term_of-var vs (Null a) place apart e = ap Var (let q : place + 1 ≡ suc (place_of val_eq (Null a) vs) = omega arith in
    q)
term_of-var vs (Fixed a) place apart e = absurd (apart a refl)

-- a value that is not in a set goes last
pub added-last : (ks now : List Val) (v : Val) → ks ≡ now → (v ∈ now → ⊥) → insert_key val_eq ks v ≡ now ++ v ∷ []
added-last ks now v same apart = elim (cases_Bool (list_any (val_eq v) ks)) [
  | inl t ↦ absurd (apart (subst (λ xs. v ∈ xs) same (∈-list_any_from val_eq val_eq-decides v ks t)))
  | inr t ↦ rw t (ap (λ xs. xs ++ v ∷ []) same)
]

module _ (p : Val → Bool) (ks vs : List Val) (i : ℕ) (d v : Val) (l : i < length vs) (at : v ≡ get_or vs i d)
    (self : List Val) (all : self ≡ ks ++ filter p (take i vs)) where
  more : filter p (take (i + 1) vs) ≡ filter p (take i vs) ++ filter p (v ∷ [])
  more = filter_more p vs i d l ∙ ap (λ u. filter p (take i vs) ++ filter p (u ∷ [])) (sym at)

  -- the values of the kind with the next one, which is of the kind
  pub variables-more : (new : List Val) → p v ≡ true → new ≡ self ++ v ∷ [] → new ≡ ks ++ filter p (take (i + 1) vs)
  variables-more new t n =
      n ∙ ap (λ us. us ++ v ∷ []) all ∙ append_assoc ks (filter p (take i vs)) (v ∷ [])
      ∙ ap (λ us. ks ++ us)
      (sym (more ∙ ap (λ us. filter p (take i vs) ++ us) (let q : filter p (v ∷ []) ≡ v ∷ [] = rw t refl in q)))

  -- and their numbers
  pub told-more : (told new : List ℕ) (n : ℕ) → p v ≡ true → told ≡ numbers (length ks) (filter p (take i vs)) →
      n ≡ length self + 1 → new ≡ told ++ n ∷ [] → new ≡ numbers (length ks) (filter p (take (i + 1) vs))
  told-more told new n t o k e =
      e ∙ ap₂ (λ xs k. xs ++ k ∷ []) o
      (k ∙ ap (λ us. length us + 1) all ∙ ap (λ k. k + 1) (length-append ks (filter p (take i vs))))
      ∙ sym (numbers-more (length ks) (filter p (take i vs)) v)
      ∙ ap (λ us. numbers (length ks) us)
      (sym (more ∙ ap (λ us. filter p (take i vs) ++ us) (let q : filter p (v ∷ []) ≡ v ∷ [] = rw t refl in q)))

  -- where it is of no such kind, they stay
  same-kind : p v ≡ false → filter p (take (i + 1) vs) ≡ filter p (take i vs)
  same-kind t = more ∙ ap (λ us. filter p (take i vs) ++ us) (let q : filter p (v ∷ []) ≡ [] = rw t refl in q)
      ∙ append-nil (filter p (take i vs))

  pub variables-same : p v ≡ false → self ≡ ks ++ filter p (take (i + 1) vs)
  variables-same t = all ∙ ap (λ us. ks ++ us) (sym (same-kind t))

  pub told-same : (told : List ℕ) → p v ≡ false → told ≡ numbers (length ks) (filter p (take i vs)) →
      told ≡ numbers (length ks) (filter p (take (i + 1) vs))
  told-same told t o = o ∙ ap (λ us. numbers (length ks) us) (sym (same-kind t))
