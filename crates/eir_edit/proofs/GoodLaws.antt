-- What every accepted edit keeps: distinct names, distinct facts, no null in a source, and all limits.
use Rattle.std.proofs.Common.{◌≡◌, ◌⊎◌, ℕ, zero, suc, ◌+◌, ◌≤◌, ◌<◌, min, Bool, true, false, cond, not, List, [], ◌∷◌, ◌++◌, map, length, get_or, take, Option, Some, None, refl, sym, ◌∙◌, ap, ap₂, subst, inl, inr, arith}
use Rattle.std.specs.Prelude.{nat_le, find}
use Rattle.std.specs.List.{list_any, remove}
use Rattle.std.specs.Str.{bytes_eq}
use Rattle.std.proofs.lemmas.Bool.{cases_Bool, false≢true, leb-false}
use Rattle.std.proofs.lemmas.List.{length-append, length-take, map-append}
use Rattle.std.proofs.lemmas.Option.{none-some, same_Some}
use Rattle.std.proofs.lemmas.Slice.Eq.{bytes_eq-Decides}
use Rattle.eir_term.specs.declared.val.Side.{Side}
use Rattle.eir_term.specs.declared.val.Side.TheVariants.{Source, Target}
use Rattle.eir_term.specs.declared.val.Val.{Val}
use Rattle.eir_term.specs.declared.val.Val.TheVariants.{Null}
use Rattle.eir_term.specs.declared.fact.Fact.{Fact}
use Rattle.eir_term.specs.Lists.{◌∈◌, IsDistinct, without}
use Rattle.eir_term.specs.Values.{is_null}
use Rattle.eir_term.specs.Facts.{fact_eq, fact_eq-decides}
use Rattle.eir_term.specs.Instances.{IsSource}
use Rattle.eir_term.proofs.ListLaws.{∈-append_cases, ∈-list_any, ∈-without_from, ∈-map_from, ∈-map, IsDistinct-push, IsDistinct-without}
use Rattle.eir_term.proofs.HomLaws.{∈-occurrences, ∈-occurrences_from}
use Rattle.eir_edit.specs.Causes.{Cause, first_cause}
use Rattle.eir_edit.specs.Histories.{Example, History, history_of, has_name, is_present, find_example, facts_on, facts_in, holds, changed, dropped, edited, undone, undone_to, lists_of}
use Rattle.eir_edit.specs.Edits.{Loan, is_null_in_source, new_example, put_on, cut_from, add_tests, put_tests, borrow_tests, loan_tests, lent, add_done, put_done, cut_done, drop_done, borrow_done}
use Rattle.eir_edit.specs.Goods.{IsGoodSide, IsGoodExample, IsGoodList, IsGoodHistory, IsGoodLoan}
use Rattle.eir_edit.proofs.CauseLaws.{NoneHolds-from_none}
use Rattle.eir_edit.proofs.ListLaws.{facts_in-found}

-- ---- lists of facts

has-null : (n : ℕ) (vs : List Val) → Null n ∈ vs → list_any is_null vs ≡ true
has-null n [] h = absurd h
has-null n (v ∷ vs) (inl e) = rw (sym e) refl
has-null n (v ∷ vs) (inr h) = elim (cases_Bool (is_null v)) [ inl s ↦ rw s | inr s ↦ rw s (has-null n vs h) ]

-- a source may have one fact more without a null, and one fact fewer
IsSource-push : (fs : List Fact) (f : Fact) → IsSource fs → list_any is_null f.args ≡ false → IsSource (fs ++ f ∷ [])
IsSource-push fs f source ground n h = let r = ∈-occurrences_from (Null n) (fs ++ f ∷ []) h in elim (∈-append_cases r.0 fs (f ∷ []) r.1) [
  | inl k ↦ source n (∈-occurrences (Null n) r.0 fs k r.2)
  | inr k ↦ elim k [ inl e ↦ false≢true (sym ground ∙ has-null n f.args (subst (λ (x : Fact). Null n ∈ x.args) e r.2)) | inr k ↦ absurd k ]
]

IsSource-without : (f : Fact) (fs : List Fact) → IsSource fs → IsSource (without fact_eq f fs)
IsSource-without f fs source n h =
    let r = ∈-occurrences_from (Null n) (without fact_eq f fs) h in
    source n (∈-occurrences (Null n) r.0 fs (∈-without_from fact_eq fact_eq-decides r.0 f fs r.1).0 r.2)

length-without : (f : Fact) (fs : List Fact) → length (without fact_eq f fs) ≤ length fs
length-without f [] = omega arith
length-without f (g ∷ fs) =
    let l = length-without f fs in
    elim (cases_Bool (fact_eq f g)) [ inl s ↦ rw s (omega arith) | inr s ↦ rw s (omega arith) ]

IsGoodSide-push : (m : ℕ) (fs : List Fact) (f : Fact) → IsGoodSide m fs → holds f fs ≡ false → length fs < m → IsGoodSide m (fs ++ f ∷ [])
IsGoodSide-push m fs f good new room = (
  IsDistinct-push fs f good.0 (λ h. false≢true (sym new ∙ ∈-list_any fact_eq fact_eq-decides f fs h)),
  let l : length (fs ++ f ∷ []) ≡ length fs + 1 = length-append fs (f ∷ []) in omega arith,
)

IsGoodSide-without : (m : ℕ) (f : Fact) (fs : List Fact) → IsGoodSide m fs → IsGoodSide m (without fact_eq f fs)
IsGoodSide-without m f fs good = (
  IsDistinct-without fact_eq fact_eq-decides f fs good.0,
  let l = length-without f fs in let k : length fs ≤ m = good.1 in omega arith,
)

-- ---- examples

pub IsGoodExample-new : (m fresh : ℕ) (name : List ℕ) → IsGoodExample m (new_example fresh name)
IsGoodExample-new m fresh name = record { source = (tt, omega arith); target = (tt, omega arith); ground = λ n h. h }

pub IsGoodExample-put : (m fresh : ℕ) (side : Side) (f : Fact) (x : Example) → IsGoodExample m x → is_null_in_source side f.args ≡ false → holds f (facts_on side x) ≡ false → length (facts_on side x) < m → IsGoodExample m (put_on fresh side f x)
IsGoodExample-put m fresh Source f x good ground new room = record { source = IsGoodSide-push m x.source f good.source new room; target = good.target; ground = IsSource-push x.source f good.ground ground }
IsGoodExample-put m fresh Target f x good ground new room = record { source = good.source; target = IsGoodSide-push m x.target f good.target new room; ground = good.ground }

pub IsGoodExample-cut : (m fresh : ℕ) (side : Side) (f : Fact) (x : Example) → IsGoodExample m x → IsGoodExample m (cut_from fresh side f x)
IsGoodExample-cut m fresh Source f x good = record { source = IsGoodSide-without m f x.source good.source; target = good.target; ground = IsSource-without f x.source good.ground }
IsGoodExample-cut m fresh Target f x good = record { source = good.source; target = IsGoodSide-without m f x.target good.target; ground = good.ground }

-- the name stays
put-name : (fresh : ℕ) (side : Side) (f : Fact) (x : Example) → (put_on fresh side f x).name ≡ x.name
put-name fresh Source f x = refl
put-name fresh Target f x = refl

cut-name : (fresh : ℕ) (side : Side) (f : Fact) (x : Example) → (cut_from fresh side f x).name ≡ x.name
cut-name fresh Source f x = refl
cut-name fresh Target f x = refl

-- ---- lists of examples

-- the names of a list
abbrev names : List Example → List (List ℕ)
names xs = map (λ x. x.name) xs

is_present-∈ : (name : List ℕ) (xs : List Example) → name ∈ names xs → is_present name xs ≡ true
is_present-∈ name [] h = absurd h
is_present-∈ name (x ∷ xs) (inl e) = rw ((bytes_eq-Decides name x.name).1 e)
is_present-∈ name (x ∷ xs) (inr h) = elim (cases_Bool (has_name name x)) [ inl s ↦ rw s | inr s ↦ rw s (is_present-∈ name xs h) ]

pub IsGoodList-push : (m : ℕ) (xs : List Example) (x : Example) → IsGoodList m xs → IsGoodExample m x → is_present x.name xs ≡ false → length xs < 64 → IsGoodList m (xs ++ x ∷ [])
IsGoodList-push m xs x good fine absent room = record {
  named_apart = subst (λ ns. IsDistinct ns) (sym (map-append (λ (y : Example). y.name) xs (x ∷ []))) (IsDistinct-push (names xs) x.name good.named_apart (λ h. false≢true (sym absent ∙ is_present-∈ x.name xs h)));
  few = let l : length (xs ++ x ∷ []) ≡ length xs + 1 = length-append xs (x ∷ []) in omega arith;
  each = λ y h. elim (∈-append_cases y xs (x ∷ []) h) [ inl k ↦ good.each y k | inr k ↦ elim k [ inl e ↦ subst (λ z. IsGoodExample m z) (sym e) fine | inr k ↦ absurd k ] ];
}

module _ (name : List ℕ) (change : Example → Example) where
  -- an example after a change is an old one, or the changed one of the name
  pub ∈-changed : (xs : List Example) (x : Example) → x ∈ changed name change xs → (x ∈ xs) ⊎ ((y : Example) × (y ∈ xs) × (find_example name xs ≡ Some y) × (x ≡ change y))
  ∈-changed [] x h = absurd h
  ∈-changed (y ∷ ys) x h = by (has_name name y) h (∈-changed ys x)
    where
      by : (b : Bool) → x ∈ cond b (change y ∷ ys) (y ∷ changed name change ys) → (x ∈ changed name change ys → (x ∈ ys) ⊎ ((z : Example) × (z ∈ ys) × (find_example name ys ≡ Some z) × (x ≡ change z)))
          → (x ∈ (y ∷ ys)) ⊎ ((z : Example) × (z ∈ (y ∷ ys)) × (cond b (Some y) (find_example name ys) ≡ Some z) × (x ≡ change z))
      by true (inl e) rest = inr (y, inl refl, refl, e)
      by true (inr k) rest = inl (inr k)
      by false (inl e) rest = inl (inl e)
      by false (inr k) rest = elim (rest k) [ inl j ↦ inl (inr j) | inr j ↦ inr (j.0, inr j.1, j.2, j.3) ]

  length-changed : (xs : List Example) → length (changed name change xs) ≡ length xs
  length-changed [] = refl
  length-changed (x ∷ xs) = elim (cases_Bool (has_name name x)) [ inl s ↦ rw s refl | inr s ↦ rw s (ap suc (length-changed xs)) ]

  names-changed : ((x : Example) → (change x).name ≡ x.name) → (xs : List Example) → names (changed name change xs) ≡ names xs
  names-changed same [] = refl
  names-changed same (x ∷ xs) = elim (cases_Bool (has_name name x)) [
    | inl s ↦ rw s (ap (λ n. n ∷ names xs) (same x))
    | inr s ↦ rw s (ap (λ ns. x.name ∷ ns) (names-changed same xs))
  ]

  pub IsGoodList-changed : (m : ℕ) (xs : List Example) → ((x : Example) → (change x).name ≡ x.name) → IsGoodList m xs → ((x : Example) → x ∈ xs → find_example name xs ≡ Some x → IsGoodExample m (change x)) → IsGoodList m (changed name change xs)
  IsGoodList-changed m xs same good fine = record {
    named_apart = subst (λ ns. IsDistinct ns) (sym (names-changed same xs)) good.named_apart;
    few = let l = length-changed xs in let k : length xs ≤ 64 = good.few in omega arith;
    each = λ y h. elim (∈-changed xs y h) [
      | inl k ↦ good.each y k
      | inr k ↦ subst (λ z. IsGoodExample m z) (sym k.3) (fine k.0 k.1 k.2)
    ];
  }

module _ (name : List ℕ) where
  -- what is left was there
  pub ∈-dropped : (xs : List Example) (x : Example) → x ∈ dropped name xs → x ∈ xs
  ∈-dropped [] x h = absurd h
  ∈-dropped (y ∷ ys) x h = by (has_name name y) h (∈-dropped ys x)
    where
      by : (b : Bool) → x ∈ cond b ys (y ∷ dropped name ys) → (x ∈ dropped name ys → x ∈ ys) → x ∈ (y ∷ ys)
      by true k rest = inr k
      by false (inl e) rest = inl e
      by false (inr k) rest = inr (rest k)

  length-dropped : (xs : List Example) → length (dropped name xs) ≤ length xs
  length-dropped [] = omega arith
  length-dropped (x ∷ xs) = let l = length-dropped xs in elim (cases_Bool (has_name name x)) [ inl s ↦ rw s (omega arith) | inr s ↦ rw s (omega arith) ]

  IsDistinct-dropped : (xs : List Example) → IsDistinct (names xs) → IsDistinct (names (dropped name xs))
  IsDistinct-dropped [] d = tt
  IsDistinct-dropped (x ∷ xs) d = elim (cases_Bool (has_name name x)) [
    | inl s ↦ rw s d.1
    | inr s ↦ rw s (
      λ h. let r = ∈-map_from (λ (y : Example). y.name) x.name (dropped name xs) h in
          d.0 (subst (λ n. n ∈ names xs) (sym r.2) (∈-map (λ (y : Example). y.name) r.0 xs (∈-dropped xs r.0 r.1))),
      IsDistinct-dropped xs d.1,
    )
  ]

  pub IsGoodList-dropped : (m : ℕ) (xs : List Example) → IsGoodList m xs → IsGoodList m (dropped name xs)
  IsGoodList-dropped m xs good = record {
    named_apart = IsDistinct-dropped xs good.named_apart;
    few = let l = length-dropped xs in let k : length xs ≤ 64 = good.few in omega arith;
    each = λ x h. good.each x (∈-dropped xs x h);
  }

-- ---- histories

pub ∈-take_from : {X : Type 0} (n : ℕ) (x : X) (xs : List X) → x ∈ take n xs → x ∈ xs
∈-take_from zero x [] h = h
∈-take_from zero x (y ∷ ys) h = absurd h
∈-take_from (suc n) x [] h = h
∈-take_from (suc n) x (y ∷ ys) (inl e) = inl e
∈-take_from (suc n) x (y ∷ ys) (inr h) = inr (∈-take_from n x ys h)

-- the present list is good
pub present : (m : ℕ) (h : History) → IsGoodHistory m h → IsGoodList m h.list
present m h good = good.lists h.list (inl refl)

pub IsGoodHistory-edited : (m : ℕ) (xs : List Example) (h : History) → IsGoodHistory m h → IsGoodList m xs → IsGoodHistory m (edited xs h)
IsGoodHistory-edited m xs h good fine = record {
  lists = λ ys k. elim k [ inl e ↦ subst (λ zs. IsGoodList m zs) (sym e) fine | inr j ↦ good.lists ys (∈-take_from 32 ys (h.list ∷ h.undo) j) ];
  short = let e : length (take 32 (h.list ∷ h.undo)) ≡ min 32 (length (h.list ∷ h.undo)) = length-take 32 (h.list ∷ h.undo) in omega (arith, e);
}

pub IsGoodHistory-undone : (m : ℕ) (h : History) → IsGoodHistory m h → IsGoodHistory m (undone h)
IsGoodHistory-undone m h good = by h.undo refl
  where
    by : (older : List (List Example)) → older ≡ h.undo → IsGoodHistory m (undone_to older h)
    by [] e = good
    by (xs ∷ older) e = record {
      lists = λ ys k. good.lists ys (inr (subst (λ us. ys ∈ us) e k));
      short = let l : length (xs ∷ older) ≤ 32 = subst (λ us. length us ≤ 32) (sym e) good.short in omega arith;
    }

-- ---- each edit that no test refuses makes a good list

pub IsGoodList-add : (m fresh : ℕ) (name : List ℕ) (h : History) → IsGoodHistory m h → first_cause (add_tests name h) ≡ None → IsGoodList m (h.list ++ new_example fresh name ∷ [])
IsGoodList-add m fresh name h good none =
    let n = NoneHolds-from_none (add_tests name h) none in
    IsGoodList-push m h.list (new_example fresh name) (present m h good) (IsGoodExample-new m fresh name) n.0 (leb-false 64 (length h.list) n.1.0)

pub IsGoodList-put : (m fresh : ℕ) (name : List ℕ) (side : Side) (f : Fact) (h : History) → IsGoodHistory m h → is_null_in_source side f.args ≡ false → first_cause (put_tests m name side f h) ≡ None → IsGoodList m (changed name (put_on fresh side f) h.list)
IsGoodList-put m fresh name side f h good ground none =
    let n = NoneHolds-from_none (put_tests m name side f h) none in
    let g = present m h good in
    IsGoodList-changed name (put_on fresh side f) m h.list (put-name fresh side f) g (
    λ x k found. let e = facts_in-found name side h.list x found in
    IsGoodExample-put m fresh side f x (g.each x k) ground (subst (λ fs. holds f fs ≡ false) e n.1.0) (subst (λ fs. length fs < m) e (leb-false m (length (facts_in name side h.list)) n.1.1.0))
    )

pub IsGoodList-cut : (m fresh : ℕ) (name : List ℕ) (side : Side) (f : Fact) (h : History) → IsGoodHistory m h → IsGoodList m (changed name (cut_from fresh side f) h.list)
IsGoodList-cut m fresh name side f h good =
    let g = present m h good in
    IsGoodList-changed name (cut_from fresh side f) m h.list (cut-name fresh side f) g (λ x k found. IsGoodExample-cut m fresh side f x (g.each x k))

pub IsGoodList-drop : (m : ℕ) (name : List ℕ) (h : History) → IsGoodHistory m h → IsGoodList m (dropped name h.list)
IsGoodList-drop m name h good = IsGoodList-dropped name m h.list (present m h good)

pub IsGoodList-borrow : (m : ℕ) (name : List ℕ) (loan : Option Loan) (h : History) → IsGoodHistory m h → IsGoodLoan m name loan → first_cause (loan_tests name loan h) ≡ None → IsGoodList m (h.list ++ lent loan)
IsGoodList-borrow m name None h good fine none = let n = NoneHolds-from_none (loan_tests name None h) none in absurd (false≢true (sym n.1.0))
IsGoodList-borrow m name (Some loan) h good fine none =
    let n = NoneHolds-from_none (loan_tests name (Some loan) h) none in
    let absent : is_present loan.example.name h.list ≡ false = subst (λ w. is_present w h.list ≡ false) (sym fine.0) n.0 in
    IsGoodList-push m h.list loan.example (present m h good) fine.1 absent (leb-false 64 (length h.list) n.1.1.0)

-- the first of some older lists is taken back
pub IsGoodHistory-taken : {X : Type 0} (m : ℕ) (g : X → List Example) (xs : List Example) (older new : List X) (x : X) → 0 < length older → x ≡ get_or older 0 x → new ≡ remove older 0 → IsGoodHistory m (history_of xs (map g older)) → IsGoodHistory m (history_of (g x) (map g new))
IsGoodHistory-taken m g xs [] new x some at rest good = absurd (omega arith)
IsGoodHistory-taken m g xs (y ∷ ys) new x some at rest good =
    rw (at, rest) (IsGoodHistory-undone m (history_of xs (map g (y ∷ ys))) good)

-- what is found passes, and is in the list
find-from : {X : Type 0} (p : X → Bool) (xs : List X) (x : X) → find p xs ≡ Some x → (x ∈ xs) × (p x ≡ true)
find-from p [] x e = absurd (none-some x e)
find-from p (y ∷ ys) x e = elim (cases_Bool (p y)) [
  | inl t ↦ (let k : y ≡ x = same_Some _ _ (sym (rw t refl) ∙ e) in (inl (sym k), ap p (sym k) ∙ t))
  | inr t ↦ (let r = find-from p ys x (sym (rw t refl) ∙ e) in (inr r.0, r.1))
]

-- what a good lender lends is good
pub IsGoodLoan-found : (m : ℕ) (name stamp : List ℕ) (lender : History) (x : Example) → IsGoodHistory m lender → find_example name lender.list ≡ Some x → IsGoodLoan m name (Some (record { stamp = stamp; example = x }))
IsGoodLoan-found m name stamp lender x good e =
    let r = find-from (has_name name) lender.list x e in
    (sym ((bytes_eq-Decides name x.name).0 r.1), (present m lender good).each x r.0)
