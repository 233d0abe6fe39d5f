-- Where no constant is foreign. The points are `known-more`: the turn of a walk along the values of a target, and
-- `none-foreign`: what it comes to at the end.
use Rattle.std.proofs.Common.{◌≡◌, ℕ, ◌+◌, ◌<◌, ◌≤◌, inl, inr, Bool, true, false, not, List, [], ◌∷◌, length, get_or, take, Option, None, find, refl, sym, ◌∙◌, ap, subst}
use Rattle.std.specs.List.{list_any}
use Rattle.std.proofs.lemmas.List.{take_more, take_all}
use Rattle.eir_term.specs.declared.val.Val.{Val}
use Rattle.eir_term.specs.declared.fact.Fact.{Fact}
use Rattle.eir_term.specs.Lists.{◌∈◌}
use Rattle.eir_term.specs.Values.{val_eq, val_eq-decides, is_const}
use Rattle.eir_term.specs.Instances.{occurrences, values, consts}
use Rattle.eir_term.specs.Fitting.{DataExample}
use Rattle.eir_term.specs.Verdicts.{first_foreign}
use Rattle.eir_term.proofs.ListLaws.{∈-append_cases, ∈-filter, ∈-filter_from, ∈-list_any, ∈-list_any_from, ∈-distinct, list_any-none}
use Rattle.eir_edit.proofs.ListLaws.{find-absent}

-- each constant among the values occurs in the facts
abbrev pub AreKnown : List Fact → List Val → Type 0
AreKnown I vs = (v : Val) → v ∈ vs → is_const v ≡ true → list_any (val_eq v) (occurrences I) ≡ true

-- one value more
pub known-more : (I : List Fact) (vs : List Val) (i : ℕ) (d : Val) → i < length vs → AreKnown I (take i vs) → (is_const (get_or vs i d) ≡ true → list_any (val_eq (get_or vs i d)) (occurrences I) ≡ true) → AreKnown I (take (i + 1) vs)
known-more I vs i d l old new v h t = elim (∈-append_cases v (take i vs) (get_or vs i d ∷ []) (subst (λ us. v ∈ us) (take_more vs i d l) h)) [
  | inl k ↦ old v k t
  | inr k ↦ elim k [ inl e ↦ subst (λ u. list_any (val_eq u) (occurrences I) ≡ true) (sym e) (new (ap is_const (sym e) ∙ t)) | inr k ↦ absurd k ]
]

-- all of them are the constants of a target
pub none-foreign : (e : DataExample) (vs : List Val) (i : ℕ) → vs ≡ values e.target → length vs ≤ i → AreKnown e.source (take i vs) → first_foreign e ≡ None
none-foreign e vs i s l known =
    find-absent (λ c. not (list_any (val_eq c) (consts e.source))) (consts e.target) (list_any-none (λ c. not (list_any (val_eq c) (consts e.source))) (consts e.target) (λ v h.
    let k = ∈-filter_from is_const v (values e.target) h in
    let o = ∈-list_any_from val_eq val_eq-decides v (occurrences e.source) (known v (subst (λ us. v ∈ us) (sym s ∙ sym (take_all i vs l)) k.0) k.1) in
    ap not (∈-list_any val_eq val_eq-decides v (consts e.source) (∈-filter is_const v (values e.source) k.1 (∈-distinct val_eq val_eq-decides v (occurrences e.source) o)))))
