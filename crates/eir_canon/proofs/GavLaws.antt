-- The dependency of a ground fact is well formed.
use Rattle.std.proofs.Common.{◌≡◌, ℕ, inl, inr, Bool, true, false, not, List, [], ◌∷◌, map, refl, sym, ◌∙◌, ap₂, subst}
use Rattle.std.specs.List.{list_any}
use Rattle.std.proofs.lemmas.Bool.{false≢true}
use Rattle.eir_term.specs.declared.val.Val.{Val}
use Rattle.eir_term.specs.declared.val.Val.TheVariants.{Const, Fixed, Null}
use Rattle.eir_term.specs.declared.term.Term.TheVariants.{Var}
use Rattle.eir_term.specs.declared.term.Atom.{Atom}
use Rattle.eir_term.specs.declared.fact.Fact.{Fact}
use Rattle.eir_term.specs.Lists.{◌∈◌}
use Rattle.eir_term.specs.Values.{is_null}
use Rattle.eir_term.specs.Instances.{values, consts, is_ground, ground_part}
use Rattle.eir_term.specs.Dependencies.{IsDependency, vars}
use Rattle.eir_term.specs.Fitting.{DataExample}
use Rattle.eir_term.specs.Canonical.{term_of, atom_of, gav_dependency}
use Rattle.eir_term.proofs.ListLaws.{∈-filter_from}
use Rattle.eir_term.proofs.HomLaws.{∈-values, ∈-values_from, ∈-consts, consts-values}
use Rattle.eir_term.proofs.CanonicalLaws.{∈-vars-atom_of, ∈-vars-atom_of_from}
use Rattle.eir_edit.specs.Pairs.{paired}
use Rattle.eir_canon.specs.Parts.{HasNoForeign, implies}

-- no null is among the values of a ground fact
no-null : (vs : List Val) (n : ℕ) → list_any is_null vs ≡ false → Null n ∈ vs → ⊥
no-null [] n g h = h
no-null (Const c ∷ vs) n g (inl e) = cc
no-null (Fixed c ∷ vs) n g (inl e) = cc
no-null (Null c ∷ vs) n g (inl e) = false≢true (sym g)
no-null (Const c ∷ vs) n g (inr h) = no-null vs n g h
no-null (Fixed c ∷ vs) n g (inr h) = no-null vs n g h
no-null (Null c ∷ vs) n g (inr h) = false≢true (sym g)

-- a test that fails is false
not-true : (b : Bool) → not b ≡ true → b ≡ false
not-true true t = sym t
not-true false t = refl

-- where no constant is foreign, the dependency of a ground target fact is well formed
pub gav-is_dependency : (e : DataExample) → HasNoForeign e → (f : Fact) → f ∈ ground_part e.target →
    IsDependency (gav_dependency e f)
gav-is_dependency e known f h = record {
  some_atom = λ q. cc;
  once = tt;
  used = λ x i. absurd i;
  apart = λ x i p. i;
  bound = λ x i. let r = ∈-vars-atom_of_from (consts e.source) x (f ∷ []) i in inr (by x r.0 r.1 r.2);
}
  where
    within : f ∈ e.target
    within = (∈-filter_from is_ground f e.target h).0

    ground : list_any is_null f.args ≡ false
    ground = not-true (list_any is_null f.args) (∈-filter_from is_ground f e.target h).1

    own : (v : Val) → v ∈ values (f ∷ []) → v ∈ f.args
    own v i = let r = ∈-values_from v (f ∷ []) i in elim r.1 [
      | inl q ↦ subst (λ (g : Fact). v ∈ g.args) q r.2
      | inr q ↦
          absurd q
    ]

    by : (x : ℕ) (v : Val) → v ∈ values (f ∷ []) → Var x ≡ term_of (consts e.source) v →
        x ∈ vars (gav_dependency e f).premise
    by x (Const c) i q = ∈-vars-atom_of (consts e.source) x (Const c) e.source
        (consts-values (Const c) e.source
        (known c (∈-consts c e.target (∈-values (Const c) f e.target within (own (Const c) i))))) q
    by x (Fixed n) i q = cc
    by x (Null n) i q = absurd (no-null f.args n ground (own (Null n) i))

-- the same of the parts that the code has
pub gav-parts : (I J K facts : List Fact) (vs : List Val) (premise : List Atom) → HasNoForeign (paired I J) →
    vs ≡ consts I → K ≡ I → premise ≡ map (atom_of vs) K → facts ≡ J → (f : Fact) → f ∈ ground_part facts →
    IsDependency (implies premise (atom_of vs f))
gav-parts I J K facts vs premise known v k p j f h =
    subst (λ ps. IsDependency (implies ps (atom_of vs f))) (sym (p ∙ ap₂ (λ us fs. map (atom_of us) fs) v k))
    (subst (λ us. IsDependency (implies (map (atom_of (consts I)) I) (atom_of us f))) (sym v)
    (gav-is_dependency (paired I J) known f (subst (λ fs. f ∈ ground_part fs) j h)))

-- a dependency by its lists
pub implies-lists : (p q : List Atom) (es : List ℕ) (cs : List Atom) (a : Atom) → p ≡ q → es ≡ [] → cs ≡ a ∷ [] →
    IsDependency (implies q a) → IsDependency (record { premise = p; exists = es; conclusion = cs })
implies-lists p q es cs a s e c d =
    subst (λ ps. IsDependency (record { premise = ps; exists = es; conclusion = cs })) (sym s)
    (subst (λ xs. IsDependency (record { premise = q; exists = xs; conclusion = cs })) (sym e)
    (subst (λ xs. IsDependency (record { premise = q; exists = []; conclusion = xs })) (sym c) d))
