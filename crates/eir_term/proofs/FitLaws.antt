-- The canonical mapping and fitting, for both kinds. The points are `canon-fits` (where no constant is foreign, every
-- homomorphism between sources extends and, for GAV, every target folds, it fits), `canon-implied` (every mapping that
-- fits implies it) and `canon-is_mapping` (it is a mapping of the kind). Both kinds share `canon-satisfied`: each of
-- its dependencies is that of an example, and is satisfied where the morphisms from the example's source extend to its
-- target. An example may give no dependency, and no law leaves it out.
--   NoneForeign E         == no target has a foreign constant
--   AllFold kind E        == for GAV, every target folds
--   AllExtend E           == every homomorphism between two sources extends to the targets
--   IsSatisfiedAlong e d  == a pair satisfies d where the morphisms from e's source extend to e's target
use Rattle.std.proofs.Common.{◌≡◌, inl, inr, List, [], ◌∷◌, map, refl, sym, ◌∙◌, subst}
use Rattle.eir_term.specs.declared.val.Val.{Val}
use Rattle.eir_term.specs.declared.val.Kind.{Kind}
use Rattle.eir_term.specs.declared.val.Kind.TheVariants.{Glav, Gav}
use Rattle.eir_term.specs.declared.fact.Fact.{Fact}
use Rattle.eir_term.specs.Lists.{◌∈◌}
use Rattle.eir_term.specs.Instances.{values, ground_part}
use Rattle.eir_term.specs.Maps.{domain_of, graph}
use Rattle.eir_term.specs.Homs.{IsMorphism, Hom, Fixes}
use Rattle.eir_term.specs.Dependencies.{Dependency, IsDependency, IsGavDependency, IsMapping}
use Rattle.eir_term.specs.Satisfaction.{Satisfies}
use Rattle.eir_term.specs.Universal.{IsSolution}
use Rattle.eir_term.specs.Fitting.{DataExample, Fits}
use Rattle.eir_term.specs.Implication.{Implies}
use Rattle.eir_term.specs.Extension.{Extends}
use Rattle.eir_term.specs.Faults.{Folds}
use Rattle.eir_term.specs.Canonical.{glav_dependency, unless_empty, canon_glav, gav_dependency, canon_gav, canon}
use Rattle.eir_term.specs.Headline.{AllSources}
use Rattle.eir_term.proofs.ListLaws.{∈-map, ∈-map_from, ∈-flat_map, ∈-flat_map_from}
use Rattle.eir_term.proofs.HomLaws.{IsMorphism-identity, Hom-graph, image-graph, domain_of-graph}
use Rattle.eir_term.proofs.ExtensionLaws.{ExtendsBy, ExtendsBy-unless_empty, by-from_Extends, Extends-from_by}
use Rattle.eir_term.proofs.GroundLaws.{ExtendsBy-ground, Folds-into}
use Rattle.eir_term.proofs.PullLaws.{fitting-extends, fitting-domain}
use Rattle.eir_term.proofs.CanonicalLaws.{HasNoForeign, known-values, glav-satisfied, glav-extends, glav-is_dependency}
use Rattle.eir_term.proofs.GavLaws.{gav-satisfied, gav-sends, gav-is_dependency}

-- no target has a foreign constant
abbrev pub NoneForeign : List DataExample → Type 0
NoneForeign E = (e : DataExample) → e ∈ E → HasNoForeign e

-- for GAV, every target folds
abbrev pub AllFold : Kind → List DataExample → Type 0
AllFold Glav E = Unit {0}
AllFold Gav E = (e : DataExample) → e ∈ E → Folds e.target

-- every homomorphism between two sources, on the values of the first alone, extends to the targets
abbrev pub AllExtend : List DataExample → Type 0
AllExtend E = (e f : DataExample) → e ∈ E → f ∈ E → (h : List (Val × Val)) → Hom h e.source f.source → domain_of h ≡ values e.source → Extends h e.target f.target

-- for GLAV the dependencies are those of the examples whose target has a fact
∈-unless_empty : {X : Type 0} (J : List Fact) (x : X) (f : Fact) → f ∈ J → x ∈ unless_empty J x
∈-unless_empty [] x f h = elim h [ ]
∈-unless_empty (g ∷ J) x f h = inl refl

∈-unless_empty_from : {X : Type 0} (J : List Fact) (x y : X) → y ∈ unless_empty J x → (y ≡ x) × (f : Fact) × (f ∈ J)
∈-unless_empty_from [] x y h = elim h [ ]
∈-unless_empty_from (f ∷ J) x y (inl e) = (e, f, inl refl)
∈-unless_empty_from (f ∷ J) x y (inr h) = elim h [ ]

pub ∈-canon_glav : (E : List DataExample) (e : DataExample) (f : Fact) → e ∈ E → f ∈ e.target → glav_dependency e ∈ canon_glav E
∈-canon_glav E e f h k =
    ∈-flat_map (λ e. unless_empty e.target (glav_dependency e)) e (glav_dependency e) E h (∈-unless_empty e.target (glav_dependency e) f k)

pub ∈-canon_glav_from : (E : List DataExample) (d : Dependency) → d ∈ canon_glav E →
    (e : DataExample) × (e ∈ E) × (d ≡ glav_dependency e) × (f : Fact) × (f ∈ e.target)
∈-canon_glav_from E d h =
    let r = ∈-flat_map_from (λ e. unless_empty e.target (glav_dependency e)) d E h in
    let q = ∈-unless_empty_from (r.0).target (glav_dependency r.0) d r.2 in
    (r.0, r.1, q.0, q.1, q.2)

-- for GAV they are those of the examples with their ground facts
pub ∈-canon_gav : (E : List DataExample) (e : DataExample) (f : Fact) → e ∈ E → f ∈ ground_part e.target →
    gav_dependency e f ∈ canon_gav E
∈-canon_gav E e f h k =
    let i = ∈-map (gav_dependency e) f (ground_part e.target) k in
    ∈-flat_map (λ e. map (gav_dependency e) (ground_part e.target)) e (gav_dependency e f) E h i

pub ∈-canon_gav_from : (E : List DataExample) (d : Dependency) → d ∈ canon_gav E →
    (e : DataExample) × (e ∈ E) × (f : Fact) × (f ∈ ground_part e.target) × (d ≡ gav_dependency e f)
∈-canon_gav_from E d h =
    let r = ∈-flat_map_from (λ e. map (gav_dependency e) (ground_part e.target)) d E h in
    let q = ∈-map_from (gav_dependency r.0) d (ground_part (r.0).target) r.2 in
    (r.0, r.1, q.0, q.1, q.2)

-- what the extensions of lists say of a function
AllExtend-by : (E : List DataExample) (e f : DataExample) → NoneForeign E → AllExtend E → e ∈ E → f ∈ E →
    (g : Val → Val) → IsMorphism g e.source f.source → ExtendsBy g e.target f.target
AllExtend-by E e f known extend i j g mo =
    let h = graph g (values e.source) in
    let x = by-from_Extends h e.target f.target (extend e f i j h (Hom-graph g e.source f.source mo) (domain_of-graph g (values e.source))) in (
      x.0,
      x.1,
      λ v k. x.2 v k ∙ image-graph g v (values e.source) (known-values e v (known e i) k),
    )

-- a pair satisfies the dependency where each morphism from the example's source extends to its target
abbrev pub IsSatisfiedAlong : DataExample → Dependency → Type 0
IsSatisfiedAlong e d = (K L : List Fact) →
    ((g : Val → Val) → IsMorphism g e.source K → ExtendsBy g e.target L) → Satisfies K L d

-- each dependency is that of an example, and is satisfied where each morphism from its source extends to its target
pub canon-satisfied : (kind : Kind) (E : List DataExample) → AllSources E → NoneForeign E →
    (d : Dependency) → d ∈ canon kind E → (e : DataExample) × (e ∈ E) × IsSatisfiedAlong e d
canon-satisfied Glav E clean known d h =
    let r = ∈-canon_glav_from E d h in
    let e = r.0 in
    (e, r.1, subst (IsSatisfiedAlong e) (sym r.2) (glav-satisfied e (clean e r.1) (known e r.1)))
canon-satisfied Gav E clean known d h =
    let r = ∈-canon_gav_from E d h in
    let e = r.0 in (
      e,
      r.1,
      subst (IsSatisfiedAlong e) (sym r.4) (λ K L extends.
          gav-satisfied e r.2 r.3 K L (λ g mo. ExtendsBy-ground g e.target L mo.fixed (extends g mo))),
    )

-- a target maps, with constants fixed, into every solution of its source
canon-least : (kind : Kind) (E : List DataExample) → AllSources E → NoneForeign E → AllFold kind E →
    (e : DataExample) → e ∈ E → (L : List Fact) → IsSolution (canon kind E) e.source L →
    (h : List (Val × Val)) × Hom h e.target L × Fixes h e.target
canon-least Glav E clean known folds e i L sol =
    Extends-from_by [] e.target L (ExtendsBy-unless_empty (λ v. v) e.target L by)
  where
    by : (f : Fact) → f ∈ e.target → ExtendsBy (λ v. v) e.target L
    by f k = glav-extends e (clean e i) (known e i) e.source L (λ v. v) (IsMorphism-identity e.source)
        (sol (glav_dependency e) (∈-canon_glav E e f i k))
canon-least Gav E clean known folds e i L sol = Folds-into e.target L (folds e i)
    (gav-sends e (clean e i) (known e i) e.source L (λ v. v) (IsMorphism-identity e.source) by)
  where
    by : (f : Fact) → f ∈ ground_part e.target → Satisfies e.source L (gav_dependency e f)
    by f k = sol (gav_dependency e f) (∈-canon_gav E e f i k)

-- where no constant is foreign, every homomorphism between sources extends and, for GAV, every target folds, it fits
pub canon-fits : (kind : Kind) (E : List DataExample) → AllSources E → NoneForeign E → AllFold kind E → AllExtend E →
    Fits (canon kind E) E
canon-fits kind E clean known folds extend e i = record {
  solution = λ d h.
      let r = canon-satisfied kind E clean known d h in
      r.2 e.source e.target (AllExtend-by E r.0 e known extend r.1 i);
  least = canon-least kind E clean known folds e i;
}

-- every mapping that fits implies it
pub canon-implied : (kind : Kind) (E : List DataExample) (M : List Dependency) → AllSources E → Fits M E →
    Implies M (canon kind E)
canon-implied kind E M clean fits K L sol d h =
    let known : NoneForeign E = λ e i. fitting-domain M e.source e.target (clean e i) (fits e i) in
    let r = canon-satisfied kind E clean known d h in
    let e = r.0 in
    r.2 K L (λ g mo. fitting-extends e.source K g L (clean e r.1) mo M e.target (fits e r.1) sol)

-- it is a mapping of the kind
pub canon-is_mapping : (kind : Kind) (E : List DataExample) → AllSources E → NoneForeign E →
    IsMapping kind (canon kind E)
canon-is_mapping Glav E clean known d h =
    let r = ∈-canon_glav_from E d h in
    let e = r.0 in
    (subst (λ x. IsDependency x) (sym r.2) (glav-is_dependency e (clean e r.1) (known e r.1) r.3 r.4), tt)
canon-is_mapping Gav E clean known d h =
    let r = ∈-canon_gav_from E d h in
    let e = r.0 in
    subst (λ x. IsDependency x × IsGavDependency x) (sym r.4) (gav-is_dependency e (clean e r.1) (known e r.1) r.2 r.3)
