-- The first foreign constant, found occurrence by occurrence.
use Rattle.std.proofs.Common.{◌≡◌, ℕ, zero, suc, ◌+◌, ◌<◌, ◌≤◌, inl, inr, Bool, true, false, not, ◌||◌, Decides, Option, None, Some, is_some, option_map, List, [], ◌∷◌, ◌++◌, filter, find, length, get_or, drop, slice_get, refl, sym, ◌∙◌, ap, ap₂, subst, drop-cons, arith}
use Rattle.std.specs.Option.{option_or}
use Rattle.std.specs.List.{list_any}
use Rattle.std.proofs.lemmas.Bool.{cases_Bool, false≢true}
use Rattle.std.proofs.lemmas.List.{drop_all}
use Rattle.std.proofs.lemmas.List.Folds.{list_any-append, find-append}
use Rattle.std.proofs.lemmas.List.Elements.{filter-append}
use Rattle.std.proofs.lemmas.Option.{none-some}
use Rattle.eir_term.specs.declared.val.Val.{Val}
use Rattle.eir_term.specs.declared.val.Val.TheVariants.{Const, Fixed, Null}
use Rattle.eir_term.specs.declared.fact.Fact.{Fact}
use Rattle.eir_term.specs.Lists.{◌∈◌, distinct, without}
use Rattle.eir_term.specs.Values.{val_eq, val_eq-decides, is_const}
use Rattle.eir_term.specs.Instances.{occurrences, values, consts}
use Rattle.eir_term.specs.Fitting.{DataExample}
use Rattle.eir_term.specs.Verdicts.{first_foreign}
use Rattle.eir_term.proofs.ListLaws.{∈-list_any, ∈-list_any_from, ∈-distinct, ∈-distinct_from}
use Rattle.eir_term.proofs.HomLaws.{∈-consts, consts-values}
use Rattle.eir_verdict.specs.Foreign.{args_at, first_among}

-- ---- repeats do not matter to the first element that passes two tests

module _ {X : Type 0} (p q : X → Bool) where
  -- one that fails a test is passed over
  passed : (y : X) (ys : List X) → find p (filter q (y ∷ [])) ≡ None → find p (filter q (y ∷ ys)) ≡ find p (filter q ys)
  passed y ys n =
      ap (λ xs. find p xs) (filter-append q (y ∷ []) ys) ∙ find-append p (filter q (y ∷ [])) (filter q ys) ∙ ap (λ o. option_or o (find p (filter q ys))) n

  -- one that passes both is found
  met : (y : X) (ys zs : List X) (x : X) → find p (filter q (y ∷ [])) ≡ Some x → find p (filter q (y ∷ ys)) ≡ find p (filter q (y ∷ zs))
  met y ys zs x s =
      ap (λ xs. find p xs) (filter-append q (y ∷ []) ys) ∙ find-append p (filter q (y ∷ [])) (filter q ys) ∙ ap (λ o. option_or o (find p (filter q ys))) s
      ∙ sym (ap (λ xs. find p xs) (filter-append q (y ∷ []) zs) ∙ find-append p (filter q (y ∷ [])) (filter q zs) ∙ ap (λ o. option_or o (find p (filter q zs))) s)

  -- elements behind the first may be changed where this leaves the first of them
  behind : (y : X) (ys zs : List X) → find p (filter q ys) ≡ find p (filter q zs) → find p (filter q (y ∷ ys)) ≡ find p (filter q (y ∷ zs))
  behind y ys zs e = by (find p (filter q (y ∷ []))) refl
    where
      by : (o : Option X) → find p (filter q (y ∷ [])) ≡ o → find p (filter q (y ∷ ys)) ≡ find p (filter q (y ∷ zs))
      by None n = passed y ys n ∙ e ∙ sym (passed y zs n)
      by (Some x) s = met y ys zs x s

module _ {X : Type 0} (eq : X → X → Bool) (same : (a b : X) → Decides (eq a b) (a ≡ b)) (p q : X → Bool) where
  -- one that fails a test may be left out
  find-without : (x : X) (ys : List X) → find p (filter q (x ∷ [])) ≡ None → find p (filter q (without eq x ys)) ≡ find p (filter q ys)
  find-without x [] n = refl
  find-without x (y ∷ ys) n = elim (cases_Bool (eq x y)) [
    | inl e ↦ rw e (find-without x ys n ∙ sym (passed p q y ys (subst (λ (z : X). find p (filter q (z ∷ [])) ≡ None) ((same x y).0 e) n)))
    | inr e ↦ rw e (behind p q y (without eq x ys) ys (find-without x ys n))
  ]

  pub find-distinct : (xs : List X) → find p (filter q (distinct eq xs)) ≡ find p (filter q xs)
  find-distinct [] = refl
  find-distinct (x ∷ xs) = by (find p (filter q (x ∷ []))) refl (find-distinct xs)
    where
      by : (o : Option X) → find p (filter q (x ∷ [])) ≡ o → find p (filter q (distinct eq xs)) ≡ find p (filter q xs) → find p (filter q (x ∷ without eq x (distinct eq xs))) ≡ find p (filter q (x ∷ xs))
      by None n h = behind p q x (without eq x (distinct eq xs)) xs (find-without x (distinct eq xs) n ∙ h)
      by (Some y) s h = met p q x (without eq x (distinct eq xs)) xs y s

-- ---- the constants among values

module _ (I : List Fact) where
  -- the first of a list and of one behind it
  pub first_among-append : (xs ys : List Val) → first_among I (xs ++ ys) ≡ option_or (first_among I xs) (first_among I ys)
  first_among-append xs ys =
      ap (λ vs. find (λ c. not (list_any (val_eq c) (consts I))) vs) (filter-append is_const xs ys) ∙ find-append (λ c. not (list_any (val_eq c) (consts I))) (filter is_const xs) (filter is_const ys)

  pub first_among-found : (xs ys : List Val) (v : Val) → first_among I xs ≡ Some v → first_among I (xs ++ ys) ≡ Some v
  first_among-found xs ys v e = first_among-append xs ys ∙ ap (λ o. option_or o (first_among I ys)) e

  pub first_among-passed : (xs ys : List Val) → first_among I xs ≡ None → first_among I (xs ++ ys) ≡ first_among I ys
  first_among-passed xs ys e = first_among-append xs ys ∙ ap (λ o. option_or o (first_among I ys)) e

  -- the first of all occurrences is the first of the values
  pub first_among-all : (J : List Fact) (e : DataExample) → e.source ≡ I → e.target ≡ J → first_among I (occurrences J) ≡ first_foreign e
  first_among-all J e i j =
      sym (find-distinct val_eq val_eq-decides (λ c. not (list_any (val_eq c) (consts I))) is_const (occurrences J))
      ∙ ap₂ (λ K L. first_foreign (record { source = K; target = L })) (sym i) (sym j)

-- ---- occurrences, fact by fact

pub occurrences-at : (K : List Fact) (i : ℕ) → i < length K → occurrences (drop i K) ≡ args_at K i ++ occurrences (drop (i + 1) K)
occurrences-at K i l = step K i l ∙ ap (λ k. args_at K i ++ occurrences (drop k K)) (let q : suc i ≡ i + 1 = omega arith in q)
  where
    step : (K : List Fact) (i : ℕ) → i < length K → occurrences (drop i K) ≡ args_at K i ++ occurrences (drop (suc i) K)
    step [] i l = absurd (omega arith)
    step (f ∷ K) zero l = refl
    step (f ∷ K) (suc i) l = step K i (omega arith)

-- past the end there is none
pub occurrences-end : (K : List Fact) (i : ℕ) → length K ≤ i → occurrences (drop i K) ≡ []
occurrences-end K i l = ap occurrences (drop_all i K l)

-- a constant occurs where it is among the constants
pub const-occurs : (n : ℕ) (I : List Fact) → list_any (val_eq (Const n)) (consts I) ≡ list_any (val_eq (Const n)) (occurrences I)
const-occurs n I = by (list_any (val_eq (Const n)) (consts I)) (list_any (val_eq (Const n)) (occurrences I)) refl refl
  where
    by : (a b : Bool) → list_any (val_eq (Const n)) (consts I) ≡ a → list_any (val_eq (Const n)) (occurrences I) ≡ b → list_any (val_eq (Const n)) (consts I) ≡ list_any (val_eq (Const n)) (occurrences I)
    by true true s t = s ∙ sym t
    by false false s t = s ∙ sym t
    by true false s t =
        let k = ∈-distinct_from val_eq val_eq-decides (Const n) (occurrences I) (consts-values (Const n) I (∈-list_any_from val_eq val_eq-decides (Const n) (consts I) s)) in
        absurd (false≢true (sym t ∙ ∈-list_any val_eq val_eq-decides (Const n) (occurrences I) k))
    by false true s t =
        let k = ∈-consts n I (∈-distinct val_eq val_eq-decides (Const n) (occurrences I) (∈-list_any_from val_eq val_eq-decides (Const n) (occurrences I) t)) in
        absurd (false≢true (sym s ∙ ∈-list_any val_eq val_eq-decides (Const n) (consts I) k))

-- a constant that does not occur is the first, and another value is none
module _ (I : List Fact) (v : Val) (n : ℕ) (b : Bool) (is : v ≡ Const n) (o : b ≡ list_any (val_eq (Const n)) (occurrences I)) where
  pub foreign-found : b ≡ false → Some (Const n) ≡ first_among I (v ∷ [])
  foreign-found f = subst (λ u. Some (Const n) ≡ first_among I (u ∷ [])) (sym is) (let s : list_any (val_eq (Const n)) (consts I) ≡ false = const-occurs n I ∙ sym o ∙ f in rw s refl)

  pub foreign-occurs : b ≡ true → None ≡ first_among I (v ∷ [])
  foreign-occurs f = subst (λ u. None ≡ first_among I (u ∷ [])) (sym is) (let s : list_any (val_eq (Const n)) (consts I) ≡ true = const-occurs n I ∙ sym o ∙ f in rw s refl)

-- ---- loops over places and values

module _ (I J : List Fact) (i : ℕ) (whole : Option Val) (old : first_among I (occurrences (drop i J)) ≡ whole) (o : Option ℕ) (b : Bool) (some : b ≡ is_some o) (l : i < length J) where
  -- the first of the fact at the place is the first of all
  pub fact-found : b ≡ true → option_map Const o ≡ first_among I (args_at J i) → option_map Const o ≡ whole
  fact-found t e = by o (sym some ∙ t) e
    where
      by : (o : Option ℕ) → is_some o ≡ true → option_map Const o ≡ first_among I (args_at J i) → option_map Const o ≡ whole
      by None t e = absurd (false≢true t)
      by (Some n) t e = sym (ap (λ vs. first_among I vs) (occurrences-at J i l) ∙ first_among-found I (args_at J i) (occurrences (drop (i + 1) J)) (Const n) (sym e)) ∙ old

  -- where it has none, those behind it decide
  pub fact-passed : b ≡ false → option_map Const o ≡ first_among I (args_at J i) → first_among I (occurrences (drop (i + 1) J)) ≡ whole
  fact-passed t e = by o (sym some ∙ t) e
    where
      by : (o : Option ℕ) → is_some o ≡ false → option_map Const o ≡ first_among I (args_at J i) → first_among I (occurrences (drop (i + 1) J)) ≡ whole
      by (Some n) t e = absurd (false≢true (sym t))
      by None t e = sym (ap (λ vs. first_among I vs) (occurrences-at J i l) ∙ first_among-passed I (args_at J i) (occurrences (drop (i + 1) J)) (sym e)) ∙ old

module _ (I J : List Fact) (i : ℕ) (whole : Option Val) (old : first_among I (occurrences (drop i J)) ≡ whole) where
  -- past the end there is none
  pub fact-end : length J ≤ i → None ≡ whole
  fact-end l = sym (ap (λ vs. first_among I vs) (occurrences-end J i l)) ∙ old

module _ (I : List Fact) (vs : List Val) (i : ℕ) (d v : Val) (whole : Option Val) (l : i < length vs) (at : v ≡ get_or vs i d) (old : first_among I (drop i vs) ≡ whole) (o : Option ℕ) (b : Bool) (some : b ≡ is_some o) where
  here : drop i vs ≡ (v ∷ []) ++ drop (i + 1) vs
  here = drop-cons vs i d l ∙ ap₂ (λ u k. u ∷ drop k vs) (sym at) (let q : suc i ≡ i + 1 = omega arith in q)

  -- the same of values
  pub value-found : b ≡ true → option_map Const o ≡ first_among I (v ∷ []) → option_map Const o ≡ whole
  value-found t e = by o (sym some ∙ t) e
    where
      by : (o : Option ℕ) → is_some o ≡ true → option_map Const o ≡ first_among I (v ∷ []) → option_map Const o ≡ whole
      by None t e = absurd (false≢true t)
      by (Some n) t e = sym (ap (λ us. first_among I us) here ∙ first_among-found I (v ∷ []) (drop (i + 1) vs) (Const n) (sym e)) ∙ old

  pub value-passed : b ≡ false → option_map Const o ≡ first_among I (v ∷ []) → first_among I (drop (i + 1) vs) ≡ whole
  value-passed t e = by o (sym some ∙ t) e
    where
      by : (o : Option ℕ) → is_some o ≡ false → option_map Const o ≡ first_among I (v ∷ []) → first_among I (drop (i + 1) vs) ≡ whole
      by (Some n) t e = absurd (false≢true (sym t))
      by None t e = sym (ap (λ us. first_among I us) here ∙ first_among-passed I (v ∷ []) (drop (i + 1) vs) (sym e)) ∙ old
