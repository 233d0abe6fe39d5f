-- The fold test by a search.
use Rattle.std.proofs.Common.{◌≡◌, ℕ, zero, suc, ◌<◌, inl, inr, List, [], ◌∷◌, filter, length, take, get_or, refl, ◌∙◌, ap, ap₂, subst, arith}
use Rattle.eir_term.specs.declared.val.Val.{Val}
use Rattle.eir_term.specs.declared.val.Val.TheVariants.{Fixed}
use Rattle.eir_term.specs.declared.fact.Fact.{Fact}
use Rattle.eir_term.specs.Lists.{◌∈◌, IsDistinct}
use Rattle.eir_term.specs.Values.{is_const}
use Rattle.eir_term.specs.Instances.{consts}
use Rattle.eir_term.specs.Maps.{domain_of, image, graph}
use Rattle.eir_term.specs.Order.{KeepsFixed}
use Rattle.eir_term.specs.Search.{constants_fixed, foldneed}
use Rattle.eir_hom.specs.Progress.{Progress}
use Rattle.eir_edit.specs.Histories.{Example}
use Rattle.eir_verdict.specs.Foldings.{Folding}
use Rattle.eir_term.proofs.ListLaws.{∈-filter_from}
use Rattle.eir_term.proofs.HomLaws.{domain_of-graph, image-graph_fixed}

-- the start of the search moves no fixed constant
pub constants_fixed-keeps : (J : List Fact) (m : List (Val × Val)) → m ≡ constants_fixed J → KeepsFixed m
constants_fixed-keeps J m e n = ap (λ h. image h (Fixed n)) e ∙ image-graph_fixed (λ v. v) n (consts J) refl

-- what stands at a place is an element
∈-item : (vs : List Val) (i : ℕ) (d : Val) → i < length vs → get_or vs i d ∈ vs
∈-item [] i d l = absurd (omega arith)
∈-item (v ∷ vs) zero d l = inl refl
∈-item (v ∷ vs) (suc i) d l = inr (∈-item vs i d (omega arith))

-- of distinct elements, that at a place does not stand before it
not-before : (vs : List Val) (i : ℕ) (d : Val) → IsDistinct vs → i < length vs → get_or vs i d ∈ take i vs → ⊥
not-before [] i d a l h = absurd (omega arith)
not-before (v ∷ vs) zero d a l h = h
not-before (v ∷ vs) (suc i) d a l (inl e) = a.0 (subst (λ u. u ∈ vs) e (∈-item vs i d (omega arith)))
not-before (v ∷ vs) (suc i) d a l (inr h) = not-before vs i d a.1 (omega arith) h

-- the next of distinct values is not named yet
pub unnamed-next : (vs : List Val) (i : ℕ) (d v : Val) (m : List (Val × Val)) → IsDistinct vs → i < length vs → v ≡ get_or vs i d → m ≡ graph (λ v. v) (filter is_const (take i vs)) → v ∈ domain_of m → ⊥
unnamed-next vs i d v m a l at e h =
    let k : v ∈ filter is_const (take i vs) = subst (λ us. v ∈ us) (ap domain_of e ∙ domain_of-graph (λ v. v) (filter is_const (take i vs))) h in
    not-before vs i d a l (subst (λ u. u ∈ take i vs) at (∈-filter_from is_const v (take i vs) k).0)

-- a test begins with a search of which nothing was done
pub folding-begins : (h : Progress) (J : List Fact) (x : Example) → h.source ≡ J → h.tries ≡ foldneed J → J ≡ x.target →
    (let t : Folding = record { target = h.source; tries = h.tries } in t) ≡ (let t : Folding = record { target = x.target; tries = foldneed x.target } in t)
folding-begins h J x s n j = ap₂ (λ K k. let t : Folding = record { target = K; tries = k } in t) (s ∙ j) (n ∙ ap foldneed j)
