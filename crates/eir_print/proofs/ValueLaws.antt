-- Inserting into a set in turn keeps first occurrences.
use Rattle.std.proofs.Common.{◌≡◌, ℕ, ◌+◌, ◌<◌, ◌≤◌, suc, inl, inr, Bool, true, false, not, cond, Decides, List, [], ◌∷◌, ◌++◌, filter, length, get_or, drop, refl, sym, ◌∙◌, ap, subst, append_assoc, drop-cons, arith}
use Rattle.std.specs.List.{list_any}
use Rattle.std.proofs.lemmas.Bool.{cases_Bool}
use Rattle.std.proofs.lemmas.List.Folds.{list_any-append}
use Rattle.eir_term.proofs.ListLaws.{apart-false, false-apart, ∈-distinct, ∈-distinct_from, ∈-list_any, ∈-list_any_from}
use Rattle.std.proofs.lemmas.List.{append-nil, drop_all}
use Rattle.std.proofs.Math.Bool.{or-true, or-false}
use Rattle.std.proofs.lemmas.List.Sums.{fold-append}
use Rattle.indexmap.specs.IndexSet.{insert_key, insert_all}
use Rattle.eir_term.specs.Lists.{without, distinct}

module _ {X : Type 0} (eq : X → X → Bool) (same : (a b : X) → Decides (eq a b) (a ≡ b)) where
  -- the elements that are not in ks
  abbrev pub new_to : List X → List X → List X
  new_to ks xs = filter (λ x. not (list_any (eq x) ks)) xs

  -- taking an element of ks out changes nothing
  pub new_to-without : (ks : List X) (x : X) (xs : List X) → list_any (eq x) ks ≡ true → new_to ks (without eq x xs) ≡ new_to ks xs
  new_to-without ks x [] t = refl
  new_to-without ks x (y ∷ ys) t = elim (cases_Bool (eq x y)) [
    | inl e ↦ let k : list_any (eq y) ks ≡ true = subst (λ (z : X). list_any (eq z) ks ≡ true) ((same x y).0 e) t in rw (e, k) (new_to-without ks x ys t)
    | inr e ↦ rw e (ap (λ zs. cond (not (list_any (eq y) ks)) (y ∷ zs) zs) (new_to-without ks x ys t))
  ]

  -- an element at the end of ks is taken out
  pub new_to-push : (ks : List X) (x : X) (xs : List X) → new_to (ks ++ x ∷ []) xs ≡ new_to ks (without eq x xs)
  new_to-push ks x [] = refl
  new_to-push ks x (y ∷ ys) = elim (cases_Bool (eq x y)) [
    | inl e ↦ (
        let k : eq y x ≡ true = (same y x).1 (sym ((same x y).0 e)) in
        let t : list_any (eq y) (ks ++ x ∷ []) ≡ true = list_any-append (eq y) ks (x ∷ []) ∙ rw k (or-true (list_any (eq y) ks)) in
        rw (t, e) (new_to-push ks x ys)
        )
    | inr e ↦ (
        let k : eq y x ≡ false = apart-false eq same y x (λ p. false-apart eq same x y e (sym p)) in
        let t : list_any (eq y) (ks ++ x ∷ []) ≡ list_any (eq y) ks = list_any-append (eq y) ks (x ∷ []) ∙ rw k (or-false (list_any (eq y) ks)) in
        rw (t, e) (ap (λ zs. cond (not (list_any (eq y) ks)) (y ∷ zs) zs) (new_to-push ks x ys))
        )
  ]

  -- inserting in turn puts the first occurrences of what is new last
  pub insert_all-is : (ks xs : List X) → insert_all eq ks xs ≡ ks ++ new_to ks (distinct eq xs)
  insert_all-is ks [] = sym (append-nil ks)
  insert_all-is ks (x ∷ xs) = elim (cases_Bool (list_any (eq x) ks)) [
    | inl t ↦ rw t (insert_all-is ks xs ∙ ap (λ zs. ks ++ zs) (sym (new_to-without ks x (distinct eq xs) t)))
    | inr t ↦ rw t (insert_all-is (ks ++ x ∷ []) xs ∙ append_assoc ks (x ∷ []) (new_to (ks ++ x ∷ []) (distinct eq xs)) ∙ ap (λ zs. ks ++ x ∷ zs) (new_to-push ks x (distinct eq xs)))
  ]

  -- into an empty set
  pub insert_all-empty : (xs : List X) → insert_all eq [] xs ≡ distinct eq xs
  insert_all-empty xs = insert_all-is [] xs ∙ all_new (distinct eq xs)
    where
      all_new : (ys : List X) → new_to [] ys ≡ ys
      all_new [] = refl
      all_new (y ∷ ys) = ap (λ zs. y ∷ zs) (all_new ys)

module _ {X : Type 0} (eq : X → X → Bool) (same : (a b : X) → Decides (eq a b) (a ≡ b)) where
  -- a test may come before or after repeats are taken out
  pub distinct-filter : (p : X → Bool) (xs : List X) → distinct eq (filter p xs) ≡ filter p (distinct eq xs)
  distinct-filter p [] = refl
  distinct-filter p (x ∷ xs) = elim (cases_Bool (p x)) [
    | inl t ↦ rw t (ap (λ ys. x ∷ ys) (ap (λ ys. without eq x ys) (distinct-filter p xs) ∙ sym (filter-without p x (distinct eq xs))))
    | inr t ↦ rw t (distinct-filter p xs ∙ sym (kept p x (distinct eq xs) t))
  ]
    where
      filter-without : (p : X → Bool) (x : X) (xs : List X) → filter p (without eq x xs) ≡ without eq x (filter p xs)
      filter-without p x [] = refl
      filter-without p x (y ∷ ys) = elim (cases_Bool (eq x y)) [
        | inl e ↦ elim (cases_Bool (p y)) [ inl t ↦ rw (e, t, e) (filter-without p x ys) | inr t ↦ rw (e, t) (filter-without p x ys) ]
        | inr e ↦ elim (cases_Bool (p y)) [ inl t ↦ rw (e, t, e) (ap (λ zs. y ∷ zs) (filter-without p x ys)) | inr t ↦ rw (e, t) (filter-without p x ys) ]
      ]

      kept : (p : X → Bool) (x : X) (xs : List X) → p x ≡ false → filter p (without eq x xs) ≡ filter p xs
      kept p x [] t = refl
      kept p x (y ∷ ys) t = elim (cases_Bool (eq x y)) [
        | inl e ↦ (let k : p y ≡ false = subst (λ (z : X). p z ≡ false) ((same x y).0 e) t in rw (e, k) (kept p x ys t))
        | inr e ↦ rw e (ap (λ zs. cond (p y) (y ∷ zs) zs) (kept p x ys t))
      ]

  -- repeats do not matter to membership
  pub list_any-distinct : (x : X) (xs : List X) → list_any (eq x) (distinct eq xs) ≡ list_any (eq x) xs
  list_any-distinct x xs = elim (cases_Bool (list_any (eq x) xs)) [
    | inl t ↦ ∈-list_any eq same x (distinct eq xs) (∈-distinct eq same x xs (∈-list_any_from eq same x xs t)) ∙ sym t
    | inr t ↦ absent (list_any (eq x) (distinct eq xs)) refl t ∙ sym t
  ]
    where
      absent : (b : Bool) → list_any (eq x) (distinct eq xs) ≡ b → list_any (eq x) xs ≡ false → list_any (eq x) (distinct eq xs) ≡ false
      absent true e t = (let k : list_any (eq x) xs ≡ true = ∈-list_any eq same x xs (∈-distinct_from eq same x xs (∈-list_any_from eq same x (distinct eq xs) e)) in cc)
      absent false e t = e

module _ {F X : Type 0} (eq : X → X → Bool) (parts : F → List X) (all : List F → List X) (by_parts : (f : F) (fs : List F) → all (f ∷ fs) ≡ parts f ++ all fs) where
  -- a set that had the parts before a place inserted has those before the next place
  pub inserted-more : (ks new some : List X) (fs : List F) (i : ℕ) (d f : F) (whole : List X) → i < length fs → f ≡ get_or fs i d → some ≡ parts f → new ≡ insert_all eq ks some →
      insert_all eq ks (all (drop i fs)) ≡ whole → insert_all eq new (all (drop (i + 1) fs)) ≡ whole
  inserted-more ks new some fs i d f whole l here a n e =
      ap (λ ks. insert_all eq ks (all (drop (i + 1) fs))) (n ∙ ap (λ vs. insert_all eq ks vs) (a ∙ ap parts here))
      ∙ sym (fold-append (insert_key eq) ks (parts (get_or fs i d)) (all (drop (i + 1) fs)))
      ∙ ap (λ vs. insert_all eq ks vs) (sym here_first) ∙ e
    where
      here_first : all (drop i fs) ≡ parts (get_or fs i d) ++ all (drop (i + 1) fs)
      here_first = ap all (drop-cons fs i d l) ∙ by_parts (get_or fs i d) (drop (suc i) fs) ∙ ap (λ k. parts (get_or fs i d) ++ all (drop k fs)) (let q : suc i ≡ i + 1 = omega arith in q)

  -- a set that had all parts inserted has the distinct ones
  pub inserted-all : ((a b : X) → Decides (eq a b) (a ≡ b)) → all [] ≡ [] → (ks : List X) (fs : List F) (i : ℕ) → length fs ≤ i → insert_all eq ks (all (drop i fs)) ≡ insert_all eq [] (all fs) → ks ≡ distinct eq (all fs)
  inserted-all same none ks fs i l e = ap (λ vs. insert_all eq ks vs) (sym (ap all (drop_all i fs l) ∙ none)) ∙ e ∙ insert_all-empty eq same (all fs)
