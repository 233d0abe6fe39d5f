-- The pull-back of a target along a morphism of sources. The point is `fitting-extends`: where J is a universal solution
-- of I, each morphism from I to K extends to one from J to any solution of K. So a homomorphism between sources that
-- does not extend rules every mapping out, and by `fitting-domain` a foreign constant does. All of it holds of any list
-- of dependencies, whether or not these are well formed.
--   choices f xs       == the lists that take an element of f x for each x of xs
--   IsChoice f xs ys   == ys is such a list
--   project g L        == g on constants; the null n goes to the n-th value of L
--   preimages I g L v  == what may stand for v: the null of its place, itself if fixed, a constant of I; it projects to v
--   pull I g L         == the facts of L with a preimage at each position, in every way
use Rattle.std.proofs.Common.{◌≡◌, ℕ, inl, inr, List, [], ◌∷◌, ◌++◌, map, filter, flat_map, unwrap_or, slice_get, refl, sym, ◌∙◌, ap, ap₂, subst}
use Rattle.std.proofs.lemmas.Bool.{false≢true}
use Rattle.eir_term.specs.declared.val.Val.{Val}
use Rattle.eir_term.specs.declared.val.Val.TheVariants.{Const, Fixed, Null}
use Rattle.eir_term.specs.declared.term.Term.{Term}
use Rattle.eir_term.specs.declared.term.Term.TheVariants.{Var, Fixed as FixedTerm}
use Rattle.eir_term.specs.declared.fact.Fact.{Fact}
use Rattle.eir_term.specs.Lists.{◌∈◌, place_of}
use Rattle.eir_term.specs.Values.{val_eq, val_eq-decides, is_fixed}
use Rattle.eir_term.specs.Instances.{values, consts, IsSource}
use Rattle.eir_term.specs.Maps.{image, fact_image}
use Rattle.eir_term.specs.Homs.{IsMorphism}
use Rattle.eir_term.specs.Dependencies.{Dependency, vars}
use Rattle.eir_term.specs.Satisfaction.{term_value, atom_fact, Satisfies}
use Rattle.eir_term.specs.Universal.{IsSolution, IsUniversal}
use Rattle.eir_term.specs.Fitting.{DataExample, Fits}
use Rattle.eir_term.specs.Extension.{Refutes}
use Rattle.eir_term.specs.Faults.{IsForeign}
use Rattle.eir_term.proofs.ListLaws.{∈-append_left, ∈-append_right, ∈-append_cases, ∈-filter, ∈-filter_from, ∈-map, ∈-map_from, ∈-flat_map, ∈-flat_map_from, slice_get-place_of}
use Rattle.eir_term.proofs.HomLaws.{∈-occurrences, ∈-values, ∈-values_from, ∈-consts, consts-values, IsMorphism-compose, IsMorphism-identity, IsMorphism-values, consts-const}
use Rattle.eir_term.proofs.ExtensionLaws.{ExtendsBy, Extends-from_by}
use Rattle.eir_term.proofs.MappingLaws.{fact_with, value-occurs, Matches-along, by-from_Satisfies, Satisfies-from_by, over, over-inside, over-cases}

-- choices
module _ {X Y : Type 0} where
  -- the lists that take an element of f x for each x, the first x slowest
  abbrev pub choices : (X → List Y) → List X → List (List Y)
  choices f [] = [] ∷ []
  choices f (x ∷ xs) = flat_map (λ y. map (λ ys. y ∷ ys) (choices f xs)) (f x)

  -- each element of ys is one of f at the element of xs with its place
  abbrev pub IsChoice : (X → List Y) → List X → List Y → Type 0
  IsChoice f [] [] = Unit {0}
  IsChoice f [] (y ∷ ys) = ⊥
  IsChoice f (x ∷ xs) [] = ⊥
  IsChoice f (x ∷ xs) (y ∷ ys) = y ∈ f x × IsChoice f xs ys

  pub ∈-choices : (f : X → List Y) (xs : List X) (ys : List Y) → IsChoice f xs ys → ys ∈ choices f xs
  ∈-choices f [] [] c = inl refl
  ∈-choices f [] (y ∷ ys) c = elim c [ ]
  ∈-choices f (x ∷ xs) [] c = elim c [ ]
  ∈-choices f (x ∷ xs) (y ∷ ys) c =
      ∈-flat_map (λ z. map (λ zs. z ∷ zs) (choices f xs)) y (y ∷ ys) (f x) c.0 (∈-map (λ zs. y ∷ zs) ys (choices f xs) (∈-choices f xs ys c.1))

  pub ∈-choices_from : (f : X → List Y) (xs : List X) (ys : List Y) → ys ∈ choices f xs → IsChoice f xs ys
  ∈-choices_from f [] [] h = tt
  ∈-choices_from f [] (y ∷ ys) (inl e) = cc
  ∈-choices_from f [] (y ∷ ys) (inr h) = elim h [ ]
  ∈-choices_from f (x ∷ xs) ys h =
      let r = ∈-flat_map_from (λ z. map (λ zs. z ∷ zs) (choices f xs)) ys (f x) h in
      let q = ∈-map_from (λ zs. r.0 ∷ zs) ys (choices f xs) r.2 in
      subst (λ us. IsChoice f (x ∷ xs) us) (sym q.2) (r.1, ∈-choices_from f xs q.0 q.1)

  -- what stands in a choice is one of f at some element
  pub IsChoice-mem : (f : X → List Y) (xs : List X) (ys : List Y) (y : Y) → IsChoice f xs ys → y ∈ ys → (x : X) × (y ∈ f x)
  IsChoice-mem f xs [] y c h = elim h [ ]
  IsChoice-mem f [] (z ∷ ys) y c h = elim c [ ]
  IsChoice-mem f (x ∷ xs) (z ∷ ys) y c (inl e) = (x, subst (λ u. u ∈ f x) (sym e) c.0)
  IsChoice-mem f (x ∷ xs) (z ∷ ys) y c (inr h) = IsChoice-mem f xs ys y c.1 h

  -- a function that undoes each choice undoes them all
  pub map-choice : (p : Y → X) (f : X → List Y) (xs : List X) (ys : List Y) → ((x : X) (y : Y) → y ∈ f x → p y ≡ x) → IsChoice f xs ys → map p ys ≡ xs
  map-choice p f [] [] undo c = refl
  map-choice p f [] (y ∷ ys) undo c = elim c [ ]
  map-choice p f (x ∷ xs) [] undo c = elim c [ ]
  map-choice p f (x ∷ xs) (y ∷ ys) undo c = ap₂ (λ z zs. z ∷ zs) (undo x y c.0) (map-choice p f xs ys undo c.1)

pub IsChoice-map : {X Y Z : Type 0} (f : X → List Y) (k : Z → X) (h : Z → Y) (zs : List Z) → ((z : Z) → z ∈ zs → h z ∈ f (k z)) → IsChoice f (map k zs) (map h zs)
IsChoice-map f k h [] each = tt
IsChoice-map f k h (z ∷ zs) each = (each z (inl refl), IsChoice-map f k h zs (λ y i. each y (inr i)))

-- the pull-back
-- g on constants; the null n goes to the n-th value of L
abbrev pub project : (Val → Val) → List Fact → Val → Val
project g L (Const c) = g (Const c)
project g L (Fixed n) = Fixed n
project g L (Null n) = unwrap_or (slice_get (values L) n) (Null n)

-- what may stand for v: the null of its place, v where it is fixed, each constant of I
abbrev pub standins : List Fact → List Fact → Val → List Val
standins I L v = Null (place_of val_eq v (values L)) ∷ filter is_fixed (v ∷ []) ++ consts I

-- those of them that project to v
abbrev pub preimages : List Fact → (Val → Val) → List Fact → Val → List Val
preimages I g L v = filter (λ w. val_eq (project g L w) v) (standins I L v)

-- the facts of L with a preimage at each position, in every way
abbrev pub pull : List Fact → (Val → Val) → List Fact → List Fact
pull I g L = flat_map (λ f. map (fact_with f.rel) (choices (preimages I g L) f.args)) L

module _ (I : List Fact) (g : Val → Val) (L : List Fact) where
  pub ∈-preimages : (v w : Val) → w ∈ standins I L v → project g L w ≡ v → w ∈ preimages I g L v
  ∈-preimages v w h e = ∈-filter (λ u. val_eq (project g L u) v) w (standins I L v) ((val_eq-decides (project g L w) v).1 e) h

  pub ∈-preimages_from : (v w : Val) → w ∈ preimages I g L v → (w ∈ standins I L v) × (project g L w ≡ v)
  ∈-preimages_from v w h = let r = ∈-filter_from (λ u. val_eq (project g L u) v) w (standins I L v) h in (r.0, (val_eq-decides (project g L w) v).0 r.1)

  pub ∈-pull : (f : Fact) (ws : List Val) → f ∈ L → IsChoice (preimages I g L) f.args ws → fact_with f.rel ws ∈ pull I g L
  ∈-pull f ws h c = ∈-flat_map (λ e. map (fact_with e.rel) (choices (preimages I g L) e.args)) f (fact_with f.rel ws) L h
      (∈-map (fact_with f.rel) ws (choices (preimages I g L) f.args) (∈-choices (preimages I g L) f.args ws c))

  pub ∈-pull_from : (f : Fact) → f ∈ pull I g L → (e : Fact) × (e ∈ L) × (f ≡ fact_with e.rel f.args) × IsChoice (preimages I g L) e.args f.args
  ∈-pull_from f h =
      let r = ∈-flat_map_from (λ e. map (fact_with e.rel) (choices (preimages I g L) e.args)) f L h in
      let q = ∈-map_from (fact_with (r.0).rel) f (choices (preimages I g L) (r.0).args) r.2 in
      let same : f.args ≡ q.0 = ap (λ x. x.args) q.2 in (
        r.0,
        r.1,
        q.2 ∙ ap (fact_with (r.0).rel) (sym same),
        subst (λ vs. IsChoice (preimages I g L) (r.0).args vs) (sym same) (∈-choices_from (preimages I g L) (r.0).args q.0 q.1),
      )

  -- the projection is a morphism
  pub pull-project : IsMorphism (project g L) (pull I g L) L
  pull-project = record {
    sends = λ f h.
        let r = ∈-pull_from f h in
        let same : fact_image (project g L) f ≡ r.0 = ap (fact_image (project g L)) r.2
        ∙ ap (fact_with (r.0).rel) (map-choice (project g L) (preimages I g L) (r.0).args f.args (λ v w i. (∈-preimages_from v w i).1) r.3) in
        subst (λ x. x ∈ L) (sym same) r.1;
    fixed = λ n. refl;
  }

  -- a constant of the pull-back is one of I
  pub pull-consts : (c : ℕ) → Const c ∈ values (pull I g L) → Const c ∈ consts I
  pull-consts c h =
      let r = ∈-values_from (Const c) (pull I g L) h in
      let q = ∈-pull_from r.0 r.1 in
      let p = IsChoice-mem (preimages I g L) (q.0).args (r.0).args (Const c) q.3 r.2 in
      elim (∈-preimages_from p.0 (Const c) p.1).0 [
        | inl e ↦ cc
        | inr k ↦ elim (∈-append_cases (Const c) (filter is_fixed (p.0 ∷ [])) (consts I) k)
            [ inl j ↦ absurd (false≢true (∈-filter_from is_fixed (Const c) (p.0 ∷ []) j).1) | inr j ↦ j ]
      ]

module _ (I K : List Fact) (g : Val → Val) (L : List Fact) (clean : IsSource I) (mo : IsMorphism g I K) where
  -- a value of the source stands for its image; that it is no null is used here alone
  source-preimage : (w v : Val) → w ∈ values I → g w ≡ v → w ∈ preimages I g L v
  source-preimage (Const c) v h e = ∈-preimages I g L v (Const c) (inr (∈-append_right (Const c) (filter is_fixed (v ∷ [])) (consts I) (∈-consts c I h))) e
  source-preimage (Fixed n) v h e =
      let same : Fixed n ≡ v = sym (mo.fixed n) ∙ e in
      ∈-preimages I g L v (Fixed n) (inr (∈-append_left (Fixed n) (filter is_fixed (v ∷ [])) (consts I) (∈-filter is_fixed (Fixed n) (v ∷ []) refl (inl same)))) same
  source-preimage (Null n) v h e = let r = ∈-values_from (Null n) I h in absurd (clean n (∈-occurrences (Null n) r.0 I r.1 r.2))

  -- the null of a value's place stands for it
  null-preimage : (v : Val) → v ∈ values L → Null (place_of val_eq v (values L)) ∈ preimages I g L v
  null-preimage v h = ∈-preimages I g L v (Null (place_of val_eq v (values L))) (inl refl)
      (ap (λ o. unwrap_or o (Null (place_of val_eq v (values L)))) (slice_get-place_of val_eq val_eq-decides v (values L) h))

  -- premise variables keep their values; each other one takes the null of its value
  abbrev pulled : List ℕ → (ℕ → Val) → (ℕ → Val) → ℕ → Val
  pulled xs s t = over xs s (λ x. Null (place_of val_eq (t x) (values L)))

  pulled-preimage : (xs : List ℕ) (s t : ℕ → Val) → ((x : ℕ) → x ∈ xs → (s x ∈ values I) × (t x ≡ g (s x))) →
      (u : Term) → term_value t u ∈ values L → term_value (pulled xs s t) u ∈ preimages I g L (term_value t u)
  pulled-preimage xs s t known (Var x) h = elim (over-cases xs s (λ y. Null (place_of val_eq (t y) (values L))) x) [
    | inl c ↦ (let k = known x c.0 in subst (λ w. w ∈ preimages I g L (t x)) (sym c.1) (source-preimage (s x) (t x) k.0 (sym k.1)))
    | inr c ↦ subst (λ w. w ∈ preimages I g L (t x)) (sym c) (null-preimage (t x) h)
  ]
  pulled-preimage xs s t known (FixedTerm n) h = ∈-preimages I g L (Fixed n) (Fixed n) (inr (inl refl)) refl

  -- the pull-back satisfies with I what L satisfies with K
  pub pull-satisfies : (d : Dependency) → Satisfies K L d → Satisfies I (pull I g L) d
  pull-satisfies d sat = Satisfies-from_by I (pull I g L) d (λ s m.
      let r = by-from_Satisfies K L d sat (λ x. g (s x)) (Matches-along g I K s d.premise mo m) in
      let t = r.0 in
      let xs = vars d.premise in (
        pulled xs s t,
        λ a h. ∈-pull I g L (atom_fact t a) (map (term_value (pulled xs s t)) a.args) (r.1 a h)
            (IsChoice-map (preimages I g L) (term_value t) (term_value (pulled xs s t)) a.args
            (λ u i. pulled-preimage xs s t (λ x j. (value-occurs s d.premise I x m j, r.2 x j)) u
            (∈-values (term_value t u) (atom_fact t a) L (r.1 a h) (∈-map (term_value t) u a.args i)))),
        λ x j. over-inside xs s (λ y. Null (place_of val_eq (t y) (values L))) x j,
      ))

  pub pull-solution : (M : List Dependency) → IsSolution M K L → IsSolution M I (pull I g L)
  pull-solution M sol d h = pull-satisfies d (sol d h)

  -- from a universal solution of I each morphism into K extends to every solution of K
  pub fitting-extends : (M : List Dependency) (J : List Fact) → IsUniversal M I J → IsSolution M K L → ExtendsBy g J L
  fitting-extends M J u sol =
      let r = u.least (pull I g L) (pull-solution M sol) in (
        λ v. project g L (image r.0 v),
        IsMorphism-compose (image r.0) (project g L) J (pull I g L) L (r.1).morphism (pull-project I g L),
        λ v h. let q = consts-const v J h in ap (project g L) (r.2 v h ∙ q.1) ∙ sym (ap g q.1),
      )

-- each constant of a universal solution of I occurs in I
pub fitting-domain : (M : List Dependency) (I J : List Fact) → IsSource I → IsUniversal M I J → (c : ℕ) → Const c ∈ consts J → Const c ∈ consts I
fitting-domain M I J clean u c h =
    let same : Val → Val = λ v. v in
    let r = u.least (pull I same J) (pull-solution I I same J clean (IsMorphism-identity I) M u.solution) in
    pull-consts I same J c (subst (λ v. v ∈ values (pull I same J)) (r.2 (Const c) h)
    (IsMorphism-values (image r.0) J (pull I same J) (Const c) (r.1).morphism (consts-values (Const c) J h)))

-- a foreign constant rules every mapping out
pub foreign-rules_out : (M : List Dependency) (E : List DataExample) (e : DataExample) (v : Val) → IsSource e.source → e ∈ E → IsForeign e v → Fits M E → ⊥
foreign-rules_out M E e v clean i foreign fits =
    let q = consts-const v e.target foreign.0 in
    foreign.1 (subst (λ w. w ∈ consts e.source) (sym q.1)
    (fitting-domain M e.source e.target clean (fits e i) q.0 (subst (λ w. w ∈ consts e.target) q.1 foreign.0)))

-- a homomorphism between two sources that does not extend rules every mapping out
pub refutation-rules_out : (M : List Dependency) (E : List DataExample) (e f : DataExample) (h : List (Val × Val)) → IsSource e.source → e ∈ E → f ∈ E → Refutes e f h → Fits M E → ⊥
refutation-rules_out M E e f h clean i j refutes fits = refutes.stuck (Extends-from_by h e.target f.target
    (fitting-extends e.source f.source (image h) f.target clean (refutes.hom).morphism M e.target (fits e i) (fits f j).solution))
