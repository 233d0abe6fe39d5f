-- Marks that are added to the profiles of a fact's numbers, one after the other, and taken out again. The points are
-- `marks-added`, `marks-undone` and `widened-below`.
use Rattle.std.proofs.Common.{◌≡◌, ℕ, zero, suc, ◌+◌, ◌-◌, ◌<◌, ◌==◌, inl, inr, Bool, true, false, cond, Result, Ok, Err, OnOk, OnErr, is_ok, List, [], ◌∷◌, ◌++◌, length, get_or, slice_set, Option, Some, None, option_map, slice_get, refl, sym, ◌∙◌, ap, subst, arith, length-append}
use Rattle.std.proofs.lemmas.Bool.{cases_Bool, false≢true}
use Rattle.std.proofs.lemmas.Bool.Decides.{Decides-eqb}
use Rattle.eir_term.specs.Lists.{◌∈◌}
use Rattle.eir_term.specs.Profiles.{Mark, with_mark}
use Rattle.eir_inst.specs.Marks.{undone}
use Rattle.eir_inst.specs.Grown.{grown, blank}

-- a bound on all of a list bounds its head and its tail
pub below-head : (ns rest : List ℕ) (m k : ℕ) → ns ≡ m ∷ rest → ((n : ℕ) → n ∈ ns → n < k) → m < k
below-head ns rest m k e b = b m (subst (λ zs. m ∈ zs) (sym e) (inl refl))

pub below-tail : (ns rest : List ℕ) (m k l : ℕ) → ns ≡ m ∷ rest → l ≡ k → ((n : ℕ) → n ∈ ns → n < k) → (n : ℕ) → n ∈ rest → n < l
below-tail ns rest m k l e q b n h = let c = b n (subst (λ zs. n ∈ zs) (sym e) (inr h)) in omega arith

-- what was written at a place and written back
set-back : {X : Type 0} (xs : List X) (n : ℕ) (x d : X) → slice_set (slice_set xs n x) n (get_or xs n d) ≡ xs
set-back [] zero x d = refl
set-back [] (suc n) x d = refl
set-back (y ∷ xs) zero x d = refl
set-back {X} (y ∷ xs) (suc n) x d = ap (λ (zs : List X). y ∷ zs) (set-back xs n x d)

-- a call that fails and leaves all as it was, and what was put taken out again, leave all as it was at first
pub marks-undone : {T E : Type 0} (r : Result T E) (old after more new : List (List Mark)) (m : ℕ) (x : List Mark) (put : Option ℕ) → after ≡ slice_set old m x →
    undone put (get_or after m []) ≡ get_or old m [] → OnErr r (more ≡ after) → new ≡ slice_set more m (undone put (get_or more m [])) → OnErr r (new ≡ old)
marks-undone (Ok y) old after more new m x put w u s e = tt
marks-undone (Err y) old after more new m x put w u s e =
    e ∙ ap (λ zs. slice_set zs m (undone put (get_or zs m []))) s ∙ ap (slice_set after m) u ∙ ap (λ zs. slice_set zs m (get_or old m [])) w ∙ set-back old m x []

eqb-suc : (a b : ℕ) → (suc a == suc b) ≡ (a == b)
eqb-suc a b = elim (cases_Bool (a == b)) [
  | inl t ↦ (let e = (Decides-eqb a b).0 t in (Decides-eqb (suc a) (suc b)).1 (ap suc e) ∙ sym t)
  | inr t ↦ elim (cases_Bool (suc a == suc b)) [
    | inl s ↦ (let e = (Decides-eqb (suc a) (suc b)).0 s in absurd (false≢true (sym t ∙ (Decides-eqb a b).1 (omega arith))))
    | inr s ↦ s ∙ sym t
  ]
]

eqb-apart : (a b : ℕ) → (a ≡ b → ⊥) → (a == b) ≡ false
eqb-apart a b ne = elim (cases_Bool (a == b)) [ inl t ↦ absurd (ne ((Decides-eqb a b).0 t)) | inr t ↦ t ]

-- what stands at each place after a write
slice_get-set : (f : List Mark → List Mark) (xs : List (List Mark)) (m n : ℕ) → slice_get (slice_set xs m (f (get_or xs m []))) n ≡ option_map (λ ms. cond (m == n) (f ms) ms) (slice_get xs n)
slice_get-set f [] zero n = refl
slice_get-set f [] (suc m) n = refl
slice_get-set f (x ∷ xs) zero zero = refl
slice_get-set f (x ∷ xs) zero (suc n) =
    let e : (zero == suc n) ≡ false = eqb-apart zero (suc n) (λ c. absurd (omega arith)) in
    by (slice_get xs n) ∙ ap (λ b. option_map (λ ms. cond b (f ms) ms) (slice_get xs n)) (sym e)
  where
    by : (o : Option (List Mark)) → o ≡ option_map (λ ms. ms) o
    by None = refl
    by (Some y) = refl
slice_get-set f (x ∷ xs) (suc m) zero = let e : (suc m == zero) ≡ false = eqb-apart (suc m) zero (λ c. absurd (omega arith)) in ap (λ b. Some (cond b (f x) x)) (sym e)
slice_get-set f (x ∷ xs) (suc m) (suc n) = slice_get-set f xs m n ∙ ap (λ b. option_map (λ ms. cond b (f ms) ms) (slice_get xs n)) (sym (eqb-suc m n))

-- the mark of the first number and those of the others
pub marks-added : {T E : Type 0} (r : Result T E) (rel column m : ℕ) (ns rest : List ℕ) (old after new : List (List Mark)) → ns ≡ m ∷ rest → after ≡ slice_set old m (with_mark (rel, column) (get_or old m [])) →
    OnOk r ((n : ℕ) → slice_get new n ≡ option_map (grown rel (column + 1) rest n) (slice_get after n)) → OnOk r ((n : ℕ) → slice_get new n ≡ option_map (grown rel column ns n) (slice_get old n))
marks-added (Err y) rel column m ns rest old after new e w g = tt
marks-added (Ok y) rel column m ns rest old after new e w g = λ n.
    g n ∙ ap (λ zs. option_map (grown rel (column + 1) rest n) (slice_get zs n)) w ∙ ap (option_map (grown rel (column + 1) rest n)) (slice_get-set (with_mark (rel, column)) old m n) ∙ both n (slice_get old n) ∙ ap (λ zs. option_map (grown rel column zs n) (slice_get old n)) (sym e)
  where
    both : (n : ℕ) (o : Option (List Mark)) → option_map (grown rel (column + 1) rest n) (option_map (λ ms. cond (m == n) (with_mark (rel, column) ms) ms) o) ≡ option_map (grown rel column (m ∷ rest) n) o
    both n None = refl
    both n (Some ms) = refl

length-blank : (k : ℕ) → length (blank k) ≡ k
length-blank zero = refl
length-blank (suc k) = ap suc (length-blank k)

-- what is below the count is below the length once the profiles are as many
pub widened-below : {T E : Type 0} (r : Result T E) (ok : Bool) (old items slice : List (List Mark)) (count n : ℕ) → ok ≡ is_ok r → ok ≡ true → OnOk r (items ≡ old ++ blank (count - length old)) → slice ≡ items → n < count → n < length slice
widened-below (Err y) ok old items slice count n e t w s l = absurd (false≢true (sym e ∙ t))
widened-below (Ok y) ok old items slice count n e t w s l =
    let a : length slice ≡ length (old ++ blank (count - length old)) = ap length (s ∙ w) in
    let b = length-append old (blank (count - length old)) in
    let d = length-blank (count - length old) in
    omega arith
