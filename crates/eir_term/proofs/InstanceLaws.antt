-- What a set's look-up and its insert say of the list of facts.
use Rattle.std.proofs.Common.{◌≡◌, ◌↔◌, Bool, true, false, Result, Ok, Err, OnOk, OnErr, List, [], ◌∷◌, ◌++◌, sym, subst, ◌∙◌}
use Rattle.std.specs.List.{list_any}
use Rattle.eir_term.specs.declared.fact.Fact.{Fact}
use Rattle.eir_term.specs.Lists.{◌∈◌, IsDistinct}
use Rattle.eir_term.specs.Facts.{fact_eq, fact_eq-decides}
use Rattle.eir_term.proofs.ListLaws.{∈-list_any, ∈-list_any_from, IsDistinct-push}

-- the set's answer r over its keys K, which its owner sees as old, is membership
pub found-iff : (r : Bool) (K old : List Fact) (f : Fact) → K ≡ old → r ≡ list_any (fact_eq f) K → (r ≡ true) ↔ (f ∈ old)
found-iff r K old f seen e = (
  λ t. subst (λ fs. f ∈ fs) seen (∈-list_any_from fact_eq fact_eq-decides f K (sym e ∙ t)),
  λ h. e ∙ ∈-list_any fact_eq fact_eq-decides f K (subst (λ fs. f ∈ fs) (sym seen) h),
)

-- where the set's answer is no, the fact is no key
pub absent-from : (r : Bool) (K : List Fact) (f : Fact) → r ≡ list_any (fact_eq f) K → r ≡ false → f ∈ K → ⊥
absent-from r K f e t h = let s : list_any (fact_eq f) K ≡ true = ∈-list_any fact_eq fact_eq-decides f K h in cc

-- keys stay distinct where a new fact was put last or nothing changed
pub appended-distinct : {T E : Type 0} (r : Result T E) (K new : List Fact) (f : Fact) → IsDistinct K → (f ∈ K → ⊥) → OnOk r (new ≡ K ++ f ∷ []) → OnErr r (new ≡ K) → IsDistinct new
appended-distinct (Ok x) K new f d n ok err = subst (λ fs. IsDistinct fs) (sym ok) (IsDistinct-push K f d n)
appended-distinct (Err e) K new f d n ok err = subst (λ fs. IsDistinct fs) (sym err) d
