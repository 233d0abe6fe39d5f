-- Canonical dependencies. The points are `glav-satisfied` and its converse `glav-extends`: a pair (K, L) satisfies the
-- dependency of an example exactly where each morphism from the example's source to K extends to one from its target
-- to L; and `glav-is_dependency`: it is well formed. Below them stands what any list of values makes of any instance:
-- `match-morphism` (a match of the atoms that an instance becomes is a morphism of that instance), its converse
-- `morphism-match`, `identity-match`, and `read_back-agree` (an assignment that equals a function on the values of the
-- variables reads the instance as the function does). The laws of both kinds rest on these.
--   HasNoForeign e == each constant of the target occurs in the source
--   read_back vs s == what the assignment s makes of a value, by its term
--   value_of vs x  == the value whose variable is x
--   Names vs K     == each constant and each null of K is in vs
use Rattle.std.proofs.Common.{◌≡◌, ◌⊎◌, ℕ, zero, suc, ◌+◌, ◌<◌, inl, inr, true, false, List, [], ◌∷◌, map, unwrap_or, length, slice_get, refl, sym, ◌∙◌, ap, subst, arith}
use Rattle.std.proofs.lemmas.Bool.{cases_Bool, false≢true}
use Rattle.eir_term.specs.declared.val.Val.{Val}
use Rattle.eir_term.specs.declared.val.Val.TheVariants.{Const, Fixed, Null}
use Rattle.eir_term.specs.declared.term.Term.TheVariants.{Var}
use Rattle.eir_term.specs.declared.term.Atom.{Atom}
use Rattle.eir_term.specs.declared.fact.Fact.{Fact}
use Rattle.eir_term.specs.Lists.{◌∈◌, IsDistinct, place_of}
use Rattle.eir_term.specs.Values.{val_eq, val_eq-decides, is_const, is_fixed, is_null}
use Rattle.eir_term.specs.Instances.{values, consts, nulls, IsSource}
use Rattle.eir_term.specs.Maps.{fact_image}
use Rattle.eir_term.specs.Homs.{IsMorphism}
use Rattle.eir_term.specs.Dependencies.{vars, IsDependency}
use Rattle.eir_term.specs.Satisfaction.{term_value, atom_fact, Matches, Satisfies}
use Rattle.eir_term.specs.Fitting.{DataExample}
use Rattle.eir_term.specs.Canonical.{variables, term_of, atom_of, numbers, glav_dependency}
use Rattle.eir_term.proofs.ListLaws.{∈-append_left, ∈-append_right, ∈-filter, IsDistinct-filter, ∈-map, ∈-map_from, eq-refl, false-apart, slice_get-place_of, place_of-tail, place_of-append_right}
use Rattle.eir_term.proofs.HomLaws.{map-compose, ∈-values, ∈-values_from, IsDistinct-values, ∈-consts, consts-values, consts-const, ∈-nulls, nulls-values, nulls-null, source-no_null, IsMorphism-agree, IsMorphism-identity}
use Rattle.eir_term.proofs.ExtensionLaws.{ExtendsBy}
use Rattle.eir_term.proofs.MappingLaws.{fact_with, ∈-vars, ∈-vars_from, Matches-along, by-from_Satisfies, Satisfies-from_shared}

-- each constant of the target occurs in the source
abbrev pub HasNoForeign : DataExample → Type 0
HasNoForeign e = (c : ℕ) → Const c ∈ consts e.target → Const c ∈ consts e.source

-- so each of these is a value of the source
pub known-values : (e : DataExample) (v : Val) → HasNoForeign e → v ∈ consts e.target → v ∈ values e.source
known-values e v known h =
    let q = consts-const v e.target h in
    let i = known q.0 (subst (λ u. u ∈ consts e.target) q.1 h) in
    subst (λ u. u ∈ values e.source) (sym q.1) (consts-values (Const q.0) e.source i)

-- numbers counted on from n: the element at place p has the number n + p + 1
pub numbers-above : (x n : ℕ) (vs : List Val) → x ∈ numbers n vs → n < x
numbers-above x n [] h = elim h [ ]
numbers-above x n (v ∷ vs) (inl e) = omega arith
numbers-above x n (v ∷ vs) (inr h) = let r = numbers-above x (suc n) vs h in omega arith

pub IsDistinct-numbers : (n : ℕ) (vs : List Val) → IsDistinct (numbers n vs)
IsDistinct-numbers n [] = tt
IsDistinct-numbers n (v ∷ vs) = (λ h. let r = numbers-above (suc n) (suc n) vs h in absurd (omega arith), IsDistinct-numbers (suc n) vs)

pub ∈-numbers : (v : Val) (n : ℕ) (vs : List Val) → v ∈ vs → suc (n + place_of val_eq v vs) ∈ numbers n vs
∈-numbers v n [] h = elim h [ ]
∈-numbers v n (w ∷ vs) h = elim (cases_Bool (val_eq v w)) [
  | inl t ↦ (let k : place_of val_eq v (w ∷ vs) ≡ 0 = rw t in inl (omega arith))
  | inr t ↦ (let k = place_of-tail val_eq val_eq-decides v w vs (false-apart val_eq val_eq-decides v w t) in
      let q : suc (suc n + place_of val_eq v vs) ≡ suc (n + place_of val_eq v (w ∷ vs)) = omega arith in
      inr (subst (λ x. x ∈ numbers (suc n) vs) q (∈-numbers v (suc n) vs (later t h))))
]
  where
    later : val_eq v w ≡ false → v ∈ (w ∷ vs) → v ∈ vs
    later t (inl e) = absurd (false-apart val_eq val_eq-decides v w t e)
    later t (inr k) = k

pub ∈-numbers_from : (x n : ℕ) (vs : List Val) → IsDistinct vs → x ∈ numbers n vs → (v : Val) × (v ∈ vs) × (x ≡ suc (n + place_of val_eq v vs))
∈-numbers_from x n [] d h = elim h [ ]
∈-numbers_from x n (w ∷ vs) d (inl e) = let k : place_of val_eq w (w ∷ vs) ≡ 0 = rw (eq-refl val_eq val_eq-decides w) in (w, inl refl, omega arith)
∈-numbers_from x n (w ∷ vs) d (inr h) =
    let r = ∈-numbers_from x (suc n) vs d.1 h in
    let k = place_of-tail val_eq val_eq-decides r.0 w vs (λ e. d.0 (subst (λ u. u ∈ vs) e r.1)) in
    let q = r.2 in
    (r.0, inr r.1, omega arith)

-- atoms made of an instance, over any list of values
module _ (vs : List Val) where
  -- what the assignment makes of a value, by its term
  abbrev pub read_back : (ℕ → Val) → Val → Val
  read_back s v = term_value s (term_of vs v)

  pub atom_fact-atom_of : (s : ℕ → Val) (f : Fact) → atom_fact s (atom_of vs f) ≡ fact_image (read_back s) f
  atom_fact-atom_of s f = ap (fact_with f.rel) (map-compose (term_value s) (term_of vs) f.args)

  -- a match of the atoms is a morphism of the instance
  pub match-morphism : (s : ℕ → Val) (A K : List Fact) → Matches s (map (atom_of vs) A) K → IsMorphism (read_back s) A K
  match-morphism s A K m = record {
    sends = λ f h. subst (λ x. x ∈ K) (atom_fact-atom_of s f) (m (atom_of vs f) (∈-map (atom_of vs) f A h));
    fixed = λ n. refl;
  }

  pub morphism-match : (s : ℕ → Val) (A K : List Fact) → IsMorphism (read_back s) A K → Matches s (map (atom_of vs) A) K
  morphism-match s A K mo a h = let r = ∈-map_from (atom_of vs) a A h in
      subst (λ x. x ∈ K) (sym (ap (atom_fact s) r.2 ∙ atom_fact-atom_of s r.0)) (mo.sends r.0 r.1)

  -- a variable of the atoms comes from a value of the instance
  pub ∈-vars-atom_of : (x : ℕ) (v : Val) (A : List Fact) → v ∈ values A → Var x ≡ term_of vs v → x ∈ vars (map (atom_of vs) A)
  ∈-vars-atom_of x v A h e = let r = ∈-values_from v A h in
      ∈-vars x (atom_of vs r.0) (map (atom_of vs) A) (∈-map (atom_of vs) r.0 A r.1)
      (subst (λ u. u ∈ map (term_of vs) (r.0).args) (sym e) (∈-map (term_of vs) v (r.0).args r.2))

  pub ∈-vars-atom_of_from : (x : ℕ) (A : List Fact) → x ∈ vars (map (atom_of vs) A) → (v : Val) × (v ∈ values A) × (Var x ≡ term_of vs v)
  ∈-vars-atom_of_from x A h =
      let r = ∈-vars_from x (map (atom_of vs) A) h in
      let q = ∈-map_from (atom_of vs) r.0 A r.1 in
      let p = ∈-map_from (term_of vs) (Var x) (q.0).args (subst (λ (a : Atom). Var x ∈ a.args) q.2 r.2) in
      (p.0, ∈-values p.0 q.0 A q.1 p.1, p.2)

  -- the value whose variable is x: variables are counted from 1
  abbrev pub value_of : ℕ → Val
  value_of zero = Const 0
  value_of (suc p) = unwrap_or (slice_get vs p) (Const 0)

  -- each constant and each null of the instance is in the list
  abbrev pub Names : List Fact → Type 0
  Names A = (v : Val) → v ∈ values A → is_fixed v ≡ false → v ∈ vs

  pub value_of-term_of : (v : Val) → (is_fixed v ≡ false → v ∈ vs) → read_back value_of v ≡ v
  value_of-term_of (Const c) named = ap (λ o. unwrap_or o (Const 0)) (slice_get-place_of val_eq val_eq-decides (Const c) vs (named refl))
  value_of-term_of (Fixed n) named = refl
  value_of-term_of (Null n) named = ap (λ o. unwrap_or o (Const 0)) (slice_get-place_of val_eq val_eq-decides (Null n) vs (named refl))

  -- the atoms match the instance itself
  pub identity-match : (A : List Fact) → Names A → Matches value_of (map (atom_of vs) A) A
  identity-match A names = morphism-match value_of A A
      (IsMorphism-agree (λ v. v) (read_back value_of) A A (λ v h. sym (value_of-term_of v (names v h))) (λ n. refl) (IsMorphism-identity A))

  -- an assignment that equals g on the variables' values reads each value of the instance as g does
  pub read_back-agree : (g : Val → Val) (t : ℕ → Val) (A : List Fact) → Names A → ((n : ℕ) → g (Fixed n) ≡ Fixed n) →
      ((x : ℕ) → x ∈ vars (map (atom_of vs) A) → t x ≡ g (value_of x)) → (v : Val) → v ∈ values A → read_back t v ≡ g v
  read_back-agree g t A names fixed same (Const c) h =
      same (suc (place_of val_eq (Const c) vs)) (∈-vars-atom_of (suc (place_of val_eq (Const c) vs)) (Const c) A h refl)
      ∙ ap g (value_of-term_of (Const c) (names (Const c) h))
  read_back-agree g t A names fixed same (Fixed n) h = sym (fixed n)
  read_back-agree g t A names fixed same (Null n) h =
      same (suc (place_of val_eq (Null n) vs)) (∈-vars-atom_of (suc (place_of val_eq (Null n) vs)) (Null n) A h refl)
      ∙ ap g (value_of-term_of (Null n) (names (Null n) h))

  -- the value of a variable of the atoms occurs in the instance, and has that variable
  pub value_of-occurs : (x : ℕ) (A : List Fact) → Names A → x ∈ vars (map (atom_of vs) A) → (value_of x ∈ values A) × (Var x ≡ term_of vs (value_of x))
  value_of-occurs x A names h =
      let r = ∈-vars-atom_of_from x A h in
      let same : value_of x ≡ r.0 = ap (term_value value_of) r.2 ∙ value_of-term_of r.0 (names r.0 r.1) in
      (subst (λ v. v ∈ values A) (sym same) r.1, r.2 ∙ ap (term_of vs) (sym same))

  -- a source is named where its constants are
  pub Names-source : (A : List Fact) → IsSource A → ((c : ℕ) → Const c ∈ consts A → Const c ∈ vs) → Names A
  Names-source A clean within (Const c) h f = within c (∈-consts c A h)
  Names-source A clean within (Fixed n) h f = absurd (false≢true (sym f))
  Names-source A clean within (Null n) h f = absurd (source-no_null A n clean h)

-- so an assignment that equals g on the variables of the source reads each constant of the target as g does
pub read_back-known : (e : DataExample) → HasNoForeign e → (vs : List Val) → Names vs e.source →
    (g : Val → Val) → ((n : ℕ) → g (Fixed n) ≡ Fixed n) →
    (t : ℕ → Val) → ((x : ℕ) → x ∈ vars (map (atom_of vs) e.source) → t x ≡ g (value_of vs x)) →
    (v : Val) → v ∈ consts e.target → read_back vs t v ≡ g v
read_back-known e known vs names g fixed t same v h =
    read_back-agree vs g t e.source names fixed same v (known-values e v known h)

-- the dependency of an example
module _ (e : DataExample) (clean : IsSource e.source) (known : HasNoForeign e) where
  pub Names-variables_source : Names (variables e) e.source
  Names-variables_source = Names-source (variables e) e.source clean (λ c h. ∈-append_left (Const c) (consts e.source) (nulls e.target) h)

  pub Names-variables_target : Names (variables e) e.target
  Names-variables_target (Const c) h f = ∈-append_left (Const c) (consts e.source) (nulls e.target) (known c (∈-consts c e.target h))
  Names-variables_target (Fixed n) h f = absurd (false≢true (sym f))
  Names-variables_target (Null n) h f = ∈-append_right (Null n) (consts e.source) (nulls e.target) (∈-nulls n e.target h)

  -- a variable of the premise has a constant for its value
  premise-const : (x : ℕ) → x ∈ vars (glav_dependency e).premise → is_const (value_of (variables e) x) ≡ true
  premise-const x h = let r = value_of-occurs (variables e) x e.source Names-variables_source h in by (value_of (variables e) x) r.0 r.1
    where
      by : (v : Val) → v ∈ values e.source → Var x ≡ term_of (variables e) v → is_const v ≡ true
      by (Const c) i q = refl
      by (Fixed n) i q = cc
      by (Null n) i q = absurd (source-no_null e.source n clean i)

  -- a pair satisfies it where each morphism from the source extends to the target
  pub glav-satisfied : (K L : List Fact) → ((g : Val → Val) → IsMorphism g e.source K → ExtendsBy g e.target L) → Satisfies K L (glav_dependency e)
  glav-satisfied K L extends = Satisfies-from_shared K L (glav_dependency e) (λ s m.
      let vs = variables e in
      let k = extends (read_back vs s) (match-morphism vs s e.source K m) in (
        λ x. k.0 (value_of vs x),
        Matches-along k.0 e.target L (value_of vs) (map (atom_of vs) e.target) k.1 (identity-match vs e.target Names-variables_target),
        λ x j p.
            let r = value_of-occurs vs x e.target Names-variables_target j in
            k.2 (value_of vs x) (∈-filter is_const (value_of vs x) (values e.target) (premise-const x p) r.0) ∙ ap (term_value s) (sym r.1),
      ))

  -- where a pair satisfies it, each morphism from the source extends to the target
  pub glav-extends : (K L : List Fact) (g : Val → Val) → IsMorphism g e.source K → Satisfies K L (glav_dependency e) → ExtendsBy g e.target L
  glav-extends K L g mo sat =
      let vs = variables e in
      let m = Matches-along g e.source K (value_of vs) (map (atom_of vs) e.source) mo (identity-match vs e.source Names-variables_source) in
      let t = by-from_Satisfies K L (glav_dependency e) sat (λ x. g (value_of vs x)) m in (
        read_back vs t.0,
        match-morphism vs t.0 e.target L t.1,
        read_back-known e known vs Names-variables_source g mo.fixed t.0 t.2,
      )

  -- its existential variables are those of the target's nulls
  null-place : (n : ℕ) → place_of val_eq (Null n) (variables e) ≡ length (consts e.source) + place_of val_eq (Null n) (nulls e.target)
  null-place n = place_of-append_right val_eq val_eq-decides (Null n) (consts e.source) (nulls e.target) (λ h. let q = consts-const (Null n) e.source h in cc (q.1))

  pub null-exists : (n : ℕ) → Null n ∈ nulls e.target → suc (place_of val_eq (Null n) (variables e)) ∈ (glav_dependency e).exists
  null-exists n h = subst (λ p. suc p ∈ (glav_dependency e).exists) (sym (null-place n)) (∈-numbers (Null n) (length (consts e.source)) (nulls e.target) h)

  pub exists-null : (x : ℕ) → x ∈ (glav_dependency e).exists → (n : ℕ) × (Null n ∈ nulls e.target) × (Var x ≡ term_of (variables e) (Null n))
  exists-null x h =
      let r = ∈-numbers_from x (length (consts e.source)) (nulls e.target) (IsDistinct-filter is_null (values e.target) (IsDistinct-values e.target)) h in
      let q = nulls-null r.0 e.target r.1 in (
        q.0,
        subst (λ v. v ∈ nulls e.target) q.1 r.1,
        ap Var (r.2 ∙ ap (λ v. suc (length (consts e.source) + place_of val_eq v (nulls e.target))) q.1 ∙ ap suc (sym (null-place q.0))),
      )

  -- it is well formed where the target has a fact
  pub glav-is_dependency : (f : Fact) → f ∈ e.target → IsDependency (glav_dependency e)
  glav-is_dependency f h = record {
    some_atom = λ q. subst (λ atoms. atom_of (variables e) f ∈ atoms) q (∈-map (atom_of (variables e)) f e.target h);
    once = IsDistinct-numbers (length (consts e.source)) (nulls e.target);
    used = λ x i. let r = exists-null x i in ∈-vars-atom_of (variables e) x (Null r.0) e.target (nulls-values (Null r.0) e.target r.1) r.2;
    apart = λ x i p.
        let r = exists-null x i in
        let q = value_of-occurs (variables e) x e.source Names-variables_source p in
        let same : value_of (variables e) x ≡ Null r.0 = ap (term_value (value_of (variables e))) r.2
        ∙ value_of-term_of (variables e) (Null r.0) (Names-variables_target (Null r.0) (nulls-values (Null r.0) e.target r.1)) in
        source-no_null e.source r.0 clean (subst (λ v. v ∈ values e.source) same q.0);
    bound = λ x i. let r = ∈-vars-atom_of_from (variables e) x e.target i in by x r.0 r.1 r.2;
  }
    where
      by : (x : ℕ) (v : Val) → v ∈ values e.target → Var x ≡ term_of (variables e) v → (x ∈ (glav_dependency e).exists) ⊎ (x ∈ vars (glav_dependency e).premise)
      by x (Const c) i q = inr (∈-vars-atom_of (variables e) x (Const c) e.source (consts-values (Const c) e.source (known c (∈-consts c e.target i))) q)
      by x (Fixed n) i q = cc
      by x (Null n) i q = let k : suc (place_of val_eq (Null n) (variables e)) ≡ x = cc in
          inl (subst (λ y. y ∈ (glav_dependency e).exists) k (null-exists n (∈-nulls n e.target i)))
