-- The first cause for which an edit is refused, from what the code finds.
use Rattle.std.proofs.Common.{◌≡◌, ℕ, ◌≤◌, ◌<◌, Bool, true, false, not, List, ◌∷◌, map, length, get_or, set, Option, Some, None, option_map, refl, sym, ◌∙◌, ap, ap₂, subst, inl, inr, arith}
use Rattle.std.specs.Prelude.{nat_le, ◌==◌, is_some}
use Rattle.std.specs.List.{position, remove}
use Rattle.std.specs.Str.{bytes_eq}
use Rattle.std.proofs.lemmas.Slice.Eq.{bytes_eq-Decides}
use Rattle.std.proofs.lemmas.Bool.{cases_Bool, false≢true, le-leb, lt-leb}
use Rattle.std.proofs.lemmas.Bool.Decides.{Decides-eqb}
use Rattle.std.proofs.lemmas.List.{length-map, get_or-map}
use Rattle.eir_term.specs.declared.val.Side.{Side}
use Rattle.eir_term.specs.declared.fact.Fact.{Fact}
use Rattle.eir_term.specs.Facts.{fact_eq, fact_eq-decides}
use Rattle.eir_term.specs.Lists.{◌∈◌}
use Rattle.eir_term.proofs.ListLaws.{∈-list_any, ∈-list_any_from, apart-false}
use Rattle.eir_edit.specs.Causes.{Cause, taken, example, there, missing, full, foreign, first_cause}
use Rattle.eir_edit.specs.Histories.{Example, History, has_name, is_present, find_example, facts_on, facts_in, holds, changed, dropped}
use Rattle.eir_edit.specs.Edits.{Loan, loan_of, loan_tests, borrow_tests, last_version, versioned, add_tests, insert_tests, put_tests, remove_tests, cut_tests, drop_tests}
use Rattle.eir_edit.proofs.CauseLaws.{first_cause-append, first_cause-before}
use Rattle.eir_edit.proofs.ListLaws.{first, position-found, position-absent, list_any-first, find-first, find-absent, changed-first, dropped-first, facts_in-found}

-- ---- versions

module _ (n : ℕ) (ts : List (Bool × Cause)) where
  -- a cause comes before all versions are drawn
  pub versioned-some : (c : Cause) → first_cause ts ≡ Some c → Some c ≡ first_cause (versioned n ts)
  versioned-some c e = sym (first_cause-before ts _ c e)

  pub versioned-drawn : first_cause ts ≡ None → n ≡ last_version → Some (full last_version) ≡ first_cause (versioned n ts)
  versioned-drawn e drawn = sym (first_cause-append ts _ e ∙ (let t : (n == last_version) ≡ true = (Decides-eqb n last_version).1 drawn in rw t refl))

  pub versioned-none : first_cause ts ≡ None → n < last_version → first_cause (versioned n ts) ≡ None
  versioned-none e below = first_cause-append ts _ e ∙ elim (cases_Bool (n == last_version)) [
    | inl t ↦ (let k : n ≡ last_version = (Decides-eqb n last_version).0 t in absurd (omega arith))
    | inr t ↦ rw t refl
  ]

-- ---- one instance

module _ (f : Fact) (fs : List Fact) where
  pub holds-true : f ∈ fs → holds f fs ≡ true
  holds-true h = ∈-list_any fact_eq fact_eq-decides f fs h

  pub holds-false : (f ∈ fs → ⊥) → holds f fs ≡ false
  holds-false new = elim (cases_Bool (holds f fs)) [ inl s ↦ absurd (new (∈-list_any_from fact_eq fact_eq-decides f fs s)) | inr s ↦ s ]

  pub insert-there : (m : ℕ) → f ∈ fs → first_cause (insert_tests m f fs) ≡ Some there
  insert-there m h = let t = holds-true h in rw t refl

  pub insert-full : (m : ℕ) → (f ∈ fs → ⊥) → m ≤ length fs → first_cause (insert_tests m f fs) ≡ Some (full m)
  insert-full m new l = let t = holds-false new in let u : nat_le m (length fs) ≡ true = le-leb m (length fs) l in rw (t, u) refl

  pub insert-none : (m : ℕ) → (f ∈ fs → ⊥) → length fs < m → first_cause (insert_tests m f fs) ≡ None
  insert-none m new l = let t = holds-false new in let u : nat_le m (length fs) ≡ false = lt-leb m (length fs) l in rw (t, u) refl

  pub remove-missing : (f ∈ fs → ⊥) → first_cause (remove_tests f fs) ≡ Some missing
  remove-missing new = let t = holds-false new in rw t refl

  pub remove-none : f ∈ fs → first_cause (remove_tests f fs) ≡ None
  remove-none h = let t = holds-true h in rw t refl

-- ---- the example of a name

module _ (name : List ℕ) (xs : List Example) where
  pub absent : None ≡ position (has_name name) xs → is_present name xs ≡ false
  absent e = position-absent (has_name name) xs e

  pub is_there : (n : ℕ) → Some n ≡ position (has_name name) xs → is_present name xs ≡ true
  is_there n e = let k = position-found (has_name name) xs n e in list_any-first (has_name name) xs (subst (λ m. m < length xs) k.0 k.1)

  pub present-some : is_some (position (has_name name) xs) ≡ true → is_present name xs ≡ true
  present-some = by (position (has_name name) xs) refl
    where
      by : (o : Option ℕ) → o ≡ position (has_name name) xs → is_some o ≡ true → is_present name xs ≡ true
      by None e s = absurd (false≢true s)
      by (Some n) e s = is_there n e

  pub absent-some : is_some (position (has_name name) xs) ≡ false → is_present name xs ≡ false
  absent-some = by (position (has_name name) xs) refl
    where
      by : (o : Option ℕ) → o ≡ position (has_name name) xs → is_some o ≡ false → is_present name xs ≡ false
      by None e s = absent e
      by (Some n) e s = absurd (false≢true (sym s))

  -- it is the example at the place that is found
  pub example_at : (n : ℕ) (d : Example) → Some n ≡ position (has_name name) xs → find_example name xs ≡ Some (get_or xs n d)
  example_at n d e =
      let k = position-found (has_name name) xs n e in
      find-first (has_name name) xs d (subst (λ m. m < length xs) k.0 k.1) ∙ ap (λ m. Some (get_or xs m d)) (sym k.0)

  -- tests that follow the one for the name
  pub named-first : (n : ℕ) (ts : List (Bool × Cause)) → Some n ≡ position (has_name name) xs → first_cause ((not (is_present name xs), example) ∷ ts) ≡ first_cause ts
  named-first n ts e = let t = is_there n e in rw t refl

  pub unnamed-first : (ts : List (Bool × Cause)) → None ≡ position (has_name name) xs → first_cause ((not (is_present name xs), example) ∷ ts) ≡ Some example
  unnamed-first ts e = let t = absent e in rw t refl

-- ---- the example of a name, found at a place of a list that shares its examples

module _ {S : Type 0} (f : S → Example) (items : List S) (h : History) (seen : map f items ≡ h.list) (name : List ℕ) (place : ℕ) (r : S) (found : Some place ≡ position (has_name name) h.list) (at : r ≡ get_or items place r) where
  found-here : Some place ≡ position (has_name name) (map f items)
  found-here = found ∙ ap (position (has_name name)) (sym seen)

  within : place < length (map f items)
  within = (position-found (has_name name) (map f items) place found-here).1

  pub within-items : place < length items
  within-items = let l : length (map f items) ≡ length items = length-map items f in let k = within in omega arith

  here : get_or (map f items) place (f r) ≡ f r
  here = get_or-map f items place r (f r) within-items ∙ ap f (sym at)

  first-is : place ≡ first (has_name name) (map f items)
  first-is = (position-found (has_name name) (map f items) place found-here).0

  pub the-example : find_example name h.list ≡ Some (f r)
  the-example = ap (find_example name) (sym seen) ∙ example_at name (map f items) place (f r) found-here ∙ ap Some here

  -- the list with another example there
  pub set-is : (change : Example → Example) (x : Example) (new : List Example) → x ≡ change (f r) → new ≡ set (map f items) place x → new ≡ changed name change h.list
  set-is change x new is made =
      made
      ∙ ap₂ (λ n y. set (map f items) n y) first-is (is ∙ ap change (sym here ∙ ap (λ n. get_or (map f items) n (f r)) first-is))
      ∙ changed-first name change (map f items) (f r) (subst (λ n. n < length (map f items)) first-is within)
      ∙ ap (changed name change) seen

  -- what the tests for a fact come to
  module _ (side : Side) where
    the-facts : facts_in name side h.list ≡ facts_on side (f r)
    the-facts = facts_in-found name side h.list (f r) the-example

    pub put-tests : (m : ℕ) (g : Fact) → first_cause (put_tests m name side g h) ≡ first_cause (insert_tests m g (facts_on side (f r)))
    put-tests m g = named-first name h.list place (insert_tests m g (facts_in name side h.list)) found ∙ ap (λ fs. first_cause (insert_tests m g fs)) the-facts

    pub put-versioned : (n m : ℕ) (g : Fact) → first_cause (versioned n (put_tests m name side g h)) ≡ first_cause (versioned n (insert_tests m g (facts_on side (f r))))
    put-versioned n m g = named-first name h.list place (versioned n (insert_tests m g (facts_in name side h.list))) found ∙ ap (λ fs. first_cause (versioned n (insert_tests m g fs))) the-facts

    pub cut-tests : (g : Fact) → first_cause (cut_tests name side g h) ≡ first_cause (remove_tests g (facts_on side (f r)))
    cut-tests g = named-first name h.list place (remove_tests g (facts_in name side h.list)) found ∙ ap (λ fs. first_cause (remove_tests g fs)) the-facts

    pub cut-versioned : (n : ℕ) (g : Fact) → first_cause (versioned n (cut_tests name side g h)) ≡ first_cause (versioned n (remove_tests g (facts_on side (f r))))
    cut-versioned n g = named-first name h.list place (versioned n (remove_tests g (facts_in name side h.list))) found ∙ ap (λ fs. first_cause (versioned n (remove_tests g fs))) the-facts

-- the list without the example of a name, which was found at a place of it
module _ {S : Type 0} (f : S → Example) (items : List S) (h : History) (seen : map f items ≡ h.list) (name : List ℕ) (place : ℕ) (found : Some place ≡ position (has_name name) h.list) where
  found-at : (place ≡ first (has_name name) (map f items)) × (place < length (map f items))
  found-at = position-found (has_name name) (map f items) place (found ∙ ap (position (has_name name)) (sym seen))

  pub within-at : place < length items
  within-at = let l : length (map f items) ≡ length items = length-map items f in let k = found-at.1 in omega arith

  pub without-at : (new : List Example) → new ≡ remove (map f items) place → new ≡ dropped name h.list
  without-at new made =
      made ∙ ap (remove (map f items)) found-at.0 ∙ dropped-first name (map f items) (subst (λ n. n < length (map f items)) found-at.0 found-at.1) ∙ ap (dropped name) seen

-- ---- a new name

module _ (name : List ℕ) (h : History) where
  pub add-taken : is_some (position (has_name name) h.list) ≡ true → first_cause (add_tests name h) ≡ Some taken
  add-taken s = let t = present-some name h.list s in rw t refl

  pub add-full : is_some (position (has_name name) h.list) ≡ false → 64 ≤ length h.list → first_cause (add_tests name h) ≡ Some (full 64)
  add-full s l = let t = absent-some name h.list s in let u : nat_le 64 (length h.list) ≡ true = le-leb 64 (length h.list) l in rw (t, u) refl

  pub add-none : is_some (position (has_name name) h.list) ≡ false → length h.list < 64 → first_cause (add_tests name h) ≡ None
  add-none s l = let t = absent-some name h.list s in let u : nat_le 64 (length h.list) ≡ false = lt-leb 64 (length h.list) l in rw (t, u) refl

-- ---- a loan

module _ (mine name : List ℕ) (loan : Option Loan) (h : History) where
  pub borrow-taken : is_some (position (has_name name) h.list) ≡ true → Some taken ≡ first_cause (borrow_tests mine name loan h)
  borrow-taken s = let t = present-some name h.list s in rw t refl

  module _ (absent : is_some (position (has_name name) h.list) ≡ false) where
    pub borrow-missing : loan ≡ None → Some example ≡ first_cause (borrow_tests mine name loan h)
    borrow-missing e = let t = absent-some name h.list absent in rw (t, e) refl

    module _ (given : Loan) (lends : loan ≡ Some given) where
      pub borrow-full : 64 ≤ length h.list → Some (full 64) ≡ first_cause (borrow_tests mine name loan h)
      borrow-full l = let t = absent-some name h.list absent in let u : nat_le 64 (length h.list) ≡ true = le-leb 64 (length h.list) l in rw (t, lends, u) refl

      module _ (room : length h.list < 64) where
        pub loan-none : first_cause (loan_tests name loan h) ≡ None
        loan-none = let t = absent-some name h.list absent in let u : nat_le 64 (length h.list) ≡ false = lt-leb 64 (length h.list) room in rw (t, lends, u) refl

        pub borrow-foreign : (mine ≡ given.stamp → ⊥) → Some (foreign mine given.stamp) ≡ first_cause (borrow_tests mine name loan h)
        borrow-foreign differs =
            let t = absent-some name h.list absent in
            let u : nat_le 64 (length h.list) ≡ false = lt-leb 64 (length h.list) room in
            let v : bytes_eq mine given.stamp ≡ false = apart-false bytes_eq bytes_eq-Decides mine given.stamp differs in
            rw (t, lends, u, v) refl

        pub borrow-none : mine ≡ given.stamp → first_cause (borrow_tests mine name loan h) ≡ None
        borrow-none same =
            let t = absent-some name h.list absent in
            let u : nat_le 64 (length h.list) ≡ false = lt-leb 64 (length h.list) room in
            let v : bytes_eq mine given.stamp ≡ true = (bytes_eq-Decides mine given.stamp).1 same in
            rw (t, lends, u, v) refl

-- what a lender lends
pub loan-absent : (name stamp : List ℕ) (lender : History) → None ≡ position (has_name name) lender.list → loan_of name stamp lender ≡ None
loan-absent name stamp lender e = ap (option_map (λ x. let l : Loan = record { stamp = stamp; example = x } in l)) (find-absent (has_name name) lender.list (absent name lender.list e))

pub loan-found : (name stamp : List ℕ) (lender : History) (x : Example) → find_example name lender.list ≡ Some x → loan_of name stamp lender ≡ Some (record { stamp = stamp; example = x })
loan-found name stamp lender x e = ap (option_map (λ y. let l : Loan = record { stamp = stamp; example = y } in l)) e
