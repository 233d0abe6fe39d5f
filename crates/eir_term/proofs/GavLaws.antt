-- GAV: the dependency that an example and a ground fact of its target make, and what a GAV mapping asks of a target.
-- The points are `gav-satisfied` and its converse `gav-sends`: a pair (K, L) satisfies the dependencies of an example
-- exactly where each morphism from the example's source to K is one from the ground part of its target to L;
-- `gav-is_dependency`: each is well formed; and `gav-folds`: where J is a universal solution of I under a GAV mapping,
-- the ground part of J is a solution too (`ground_part-satisfies`), so J folds.
use Rattle.std.proofs.Common.{◌≡◌, ℕ, inl, inr, List, [], ◌∷◌, map, refl, sym, ◌∙◌, subst}
use Rattle.eir_term.specs.declared.val.Val.{Val}
use Rattle.eir_term.specs.declared.val.Val.TheVariants.{Const, Fixed, Null}
use Rattle.eir_term.specs.declared.val.Kind.TheVariants.{Gav}
use Rattle.eir_term.specs.declared.term.Term.{Term}
use Rattle.eir_term.specs.declared.term.Term.TheVariants.{Var, Fixed as FixedTerm}
use Rattle.eir_term.specs.declared.term.Atom.{Atom}
use Rattle.eir_term.specs.declared.fact.Fact.{Fact}
use Rattle.eir_term.specs.Lists.{◌∈◌}
use Rattle.eir_term.specs.Instances.{values, consts, IsSource, ground_part}
use Rattle.eir_term.specs.Homs.{IsMorphism}
use Rattle.eir_term.specs.Dependencies.{Dependency, vars, IsDependency, IsGavDependency, IsMapping}
use Rattle.eir_term.specs.Satisfaction.{term_value, atom_fact, Satisfies}
use Rattle.eir_term.specs.Universal.{IsUniversal}
use Rattle.eir_term.specs.Fitting.{DataExample, Fits}
use Rattle.eir_term.specs.Faults.{Folds}
use Rattle.eir_term.specs.Canonical.{term_of, atom_of, gav_dependency}
use Rattle.eir_term.proofs.ListLaws.{∈-map_from}
use Rattle.eir_term.proofs.HomLaws.{∈-values, ∈-values_from, ∈-consts, consts-values, source-no_null, IsMorphism-within}
use Rattle.eir_term.proofs.MappingLaws.{∈-vars, value-occurs, Matches-along, by-from_Satisfies, Satisfies-from_by}
use Rattle.eir_term.proofs.CanonicalLaws.{HasNoForeign, read_back, match-morphism, morphism-match, ∈-vars-atom_of, ∈-vars-atom_of_from, value_of, Names, Names-source, identity-match, read_back-known}
use Rattle.eir_term.proofs.GroundLaws.{∈-ground_part, ∈-ground_part_from, fact_image-ground}

-- a fact alone is among those that it stands among
∈-alone : (f : Fact) (K : List Fact) → f ∈ K → (g : Fact) → g ∈ (f ∷ []) → g ∈ K
∈-alone f K h g (inl e) = subst (λ x. x ∈ K) (sym e) h
∈-alone f K h g (inr i) = elim i [ ]

-- the dependency of an example and a ground fact of its target
module _ (e : DataExample) where
  -- a pair satisfies it where each morphism from the source is one from the target's ground part
  pub gav-satisfied : (f : Fact) → f ∈ ground_part e.target → (K L : List Fact) →
      ((g : Val → Val) → IsMorphism g e.source K → IsMorphism g (ground_part e.target) L) →
      Satisfies K L (gav_dependency e f)
  gav-satisfied f h K L sends = Satisfies-from_by K L (gav_dependency e f) (λ s m.
      let vs = consts e.source in
      let ground = ground_part e.target in
      let mo = sends (read_back vs s) (match-morphism vs s e.source K m) in
      let alone = IsMorphism-within (read_back vs s) (f ∷ []) ground L (∈-alone f ground h) mo in
      (s, morphism-match vs s (f ∷ []) L alone, λ x i. refl))

  module _ (clean : IsSource e.source) (known : HasNoForeign e) where
    Names-consts : Names (consts e.source) e.source
    Names-consts = Names-source (consts e.source) e.source clean (λ c h. h)

    -- where a pair satisfies all of them, each morphism from the source is one from the target's ground part
    pub gav-sends : (K L : List Fact) (g : Val → Val) → IsMorphism g e.source K →
        ((f : Fact) → f ∈ ground_part e.target → Satisfies K L (gav_dependency e f)) →
        IsMorphism g (ground_part e.target) L
    gav-sends K L g mo each = record {
      sends = λ f h.
          let vs = consts e.source in
          let self = identity-match vs e.source Names-consts in
          let m = Matches-along g e.source K (value_of vs) (map (atom_of vs) e.source) mo self in
          let t = by-from_Satisfies K L (gav_dependency e f) (each f h) (λ x. g (value_of vs x)) m in
          let agree = read_back-known e known vs Names-consts g mo.fixed t.0 t.2 in
          let same = fact_image-ground (read_back vs t.0) g e.target f (λ n. sym (mo.fixed n)) agree h in
          subst (λ x. x ∈ L) same ((match-morphism vs t.0 (f ∷ []) L t.1).sends f (inl refl));
      fixed = mo.fixed;
    }

    -- it is a well-formed dependency of GAV
    pub gav-is_dependency : (f : Fact) → f ∈ ground_part e.target →
        IsDependency (gav_dependency e f) × IsGavDependency (gav_dependency e f)
    gav-is_dependency f h = (
      record {
        some_atom = λ q. cc;
        once = tt;
        used = λ x i. absurd i;
        apart = λ x i p. i;
        bound = λ x i.
            let r = ∈-vars-atom_of_from (consts e.source) x (f ∷ []) i in
            let q = ∈-values_from r.0 (f ∷ []) r.1 in
            inr (by x r.0 q.0 (∈-alone f (ground_part e.target) h q.0 q.1) q.2 r.2);
      },
      record { single = (atom_of (consts e.source) f, refl); none = refl },
    )
      where
        by : (x : ℕ) (v : Val) (g : Fact) → g ∈ ground_part e.target → v ∈ g.args →
            Var x ≡ term_of (consts e.source) v → x ∈ vars (gav_dependency e f).premise
        by x (Const c) g i j q =
            let k = ∈-consts c e.target (∈-values (Const c) g e.target (∈-ground_part_from g e.target i).0 j) in
            ∈-vars-atom_of (consts e.source) x (Const c) e.source (consts-values (Const c) e.source (known c k)) q
        by x (Fixed n) g i j q = cc
        by x (Null n) g i j q = absurd ((∈-ground_part_from g e.target i).1 n j)

-- a null of the fact that an atom becomes is the value of a variable
null-variable : (t : ℕ → Val) (a : Atom) (n : ℕ) → Null n ∈ (atom_fact t a).args →
    (x : ℕ) × (Var x ∈ a.args) × (t x ≡ Null n)
null-variable t a n h = let r = ∈-map_from (term_value t) (Null n) a.args h in by r.0 r.1 r.2
  where
    by : (u : Term) → u ∈ a.args → Null n ≡ term_value t u → (x : ℕ) × (Var x ∈ a.args) × (t x ≡ Null n)
    by (Var x) i q = (x, i, sym q)
    by (FixedTerm k) i q = cc

-- each conclusion variable of a GAV dependency occurs in the premise
gav-bound : (d : Dependency) → IsDependency d → IsGavDependency d → (x : ℕ) → x ∈ vars d.conclusion → x ∈ vars d.premise
gav-bound d ok gav x h = elim (ok.bound x h) [ inl i ↦ absurd (subst (λ xs. x ∈ xs) gav.none i) | inr i ↦ i ]

-- what a source satisfies with J it satisfies with the ground part of J
pub ground_part-satisfies : (I J : List Fact) (d : Dependency) → IsSource I → IsDependency d → IsGavDependency d →
    Satisfies I J d → Satisfies I (ground_part J) d
ground_part-satisfies I J d clean ok gav sat = Satisfies-from_by I (ground_part J) d (λ s m.
    let t = by-from_Satisfies I J d sat s m in (
      t.0,
      λ a h. ∈-ground_part (atom_fact t.0 a) J (λ n i.
          let r = null-variable t.0 a n i in
          let p = gav-bound d ok gav r.0 (∈-vars r.0 a d.conclusion h r.1) in
          let k = value-occurs s d.premise I r.0 m p in
          source-no_null I n clean (subst (λ v. v ∈ values I) (sym (t.2 r.0 p) ∙ r.2) k)) (t.1 a h),
      t.2,
    ))

-- a universal solution of a source under a GAV mapping folds
pub gav-folds : (M : List Dependency) (I J : List Fact) → IsSource I → IsMapping Gav M → IsUniversal M I J → Folds J
gav-folds M I J clean ok u = u.least (ground_part J)
    (λ d h. ground_part-satisfies I J d clean (ok d h).0 (ok d h).1 (u.solution d h))

-- a target that does not fold rules every GAV mapping out
pub no_fold-rules_out : (M : List Dependency) (E : List DataExample) (e : DataExample) → IsSource e.source → e ∈ E →
    (Folds e.target → ⊥) → IsMapping Gav M → Fits M E → ⊥
no_fold-rules_out M E e clean h stuck ok fits = stuck (gav-folds M e.source e.target clean ok (fits e h))
