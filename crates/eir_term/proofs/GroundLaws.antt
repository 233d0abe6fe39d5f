-- The ground part of an instance: its facts without nulls. The point is `fact_image-ground`: functions that fix the
-- fixed constants and agree on the constants of J have the same image of each fact of its ground part. So what extends
-- to a morphism from J is a morphism from the ground part (`ExtendsBy-ground`).
use Rattle.std.proofs.Common.{◌≡◌, ℕ, false, not, List, refl, sym, ◌∙◌, ap, subst}
use Rattle.std.specs.List.{list_any}
use Rattle.std.proofs.lemmas.Bool.{not-true, both_ways}
use Rattle.eir_term.specs.declared.val.Val.{Val}
use Rattle.eir_term.specs.declared.val.Val.TheVariants.{Const, Fixed, Null}
use Rattle.eir_term.specs.declared.fact.Fact.{Fact}
use Rattle.eir_term.specs.Lists.{◌∈◌}
use Rattle.eir_term.specs.Values.{is_null}
use Rattle.eir_term.specs.Instances.{consts, is_ground, ground_part}
use Rattle.eir_term.specs.Maps.{image, fact_image}
use Rattle.eir_term.specs.Homs.{IsMorphism, Hom, Fixes}
use Rattle.eir_term.specs.Faults.{Folds}
use Rattle.eir_term.proofs.ListLaws.{∈-filter, ∈-filter_from, list_any-some, list_any-none}
use Rattle.eir_term.proofs.HomLaws.{fact_image-agree, ∈-values, ∈-consts, IsMorphism-compose}
use Rattle.eir_term.proofs.ExtensionLaws.{ExtendsBy}

-- the facts of the ground part are those without nulls
pub ∈-ground_part : (f : Fact) (J : List Fact) → ((n : ℕ) → Null n ∈ f.args → ⊥) → f ∈ J → f ∈ ground_part J
∈-ground_part f J none h = ∈-filter is_ground f J (ap not (list_any-none is_null f.args by)) h
  where
    by : (v : Val) → v ∈ f.args → is_null v ≡ false
    by (Const c) i = refl
    by (Fixed c) i = refl
    by (Null n) i = absurd (none n i)

pub ∈-ground_part_from : (f : Fact) (J : List Fact) → f ∈ ground_part J → (f ∈ J) × ((n : ℕ) → Null n ∈ f.args → ⊥)
∈-ground_part_from f J h =
    let r = ∈-filter_from is_ground f J h in
    let some = list_any is_null f.args in
    (r.0, λ n i. both_ways some (not-true some r.1) (list_any-some is_null (Null n) f.args refl i))

-- functions that agree on fixed constants and on the constants of J have the same image of a fact of its ground part
pub fact_image-ground : (g k : Val → Val) (J : List Fact) (f : Fact) → ((n : ℕ) → g (Fixed n) ≡ k (Fixed n)) →
    ((v : Val) → v ∈ consts J → g v ≡ k v) → f ∈ ground_part J → fact_image g f ≡ fact_image k f
fact_image-ground g k J f fixed same h = fact_image-agree g k f by
  where
    by : (v : Val) → v ∈ f.args → g v ≡ k v
    by (Const c) i = same (Const c) (∈-consts c J (∈-values (Const c) f J (∈-ground_part_from f J h).0 i))
    by (Fixed n) i = fixed n
    by (Null n) i = absurd ((∈-ground_part_from f J h).1 n i)

-- what extends to a morphism from an instance is one from its ground part
pub ExtendsBy-ground : (g : Val → Val) (J L : List Fact) → ((n : ℕ) → g (Fixed n) ≡ Fixed n) →
    ExtendsBy g J L → IsMorphism g (ground_part J) L
ExtendsBy-ground g J L fixed k = record {
  sends = λ f h.
      let same = fact_image-ground k.0 g J f (λ n. (k.1).fixed n ∙ sym (fixed n)) k.2 h in
      subst (λ x. x ∈ L) same ((k.1).sends f (∈-ground_part_from f J h).0);
  fixed = fixed;
}

-- an instance that folds maps, with constants fixed, into each instance that has its ground part
pub Folds-into : (J L : List Fact) → Folds J → IsMorphism (λ v. v) (ground_part J) L →
    (h : List (Val × Val)) × Hom h J L × Fixes h J
Folds-into J L fold there = let hom = fold.1 in (
  fold.0,
  record {
    single = hom.single;
    total = hom.total;
    morphism = IsMorphism-compose (image fold.0) (λ v. v) J (ground_part J) L hom.morphism there;
  },
  fold.2,
)
