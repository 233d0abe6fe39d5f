-- The examples that are lent, by their places.
use Rattle.std.proofs.Common.{◌≡◌, ℕ, zero, suc, ◌<◌, inl, inr, Some, None, List, [], ◌∷◌, length, get_or, slice_get, option_map, ◌∙◌, sym, ap, arith}
use Rattle.std.proofs.lemmas.List.{length-map}
use Rattle.eir_term.specs.Lists.{◌∈◌}
use Rattle.eir_term.specs.Fitting.{DataExample}
use Rattle.eir_term.specs.declared.val.Val.{Val}
use Rattle.eir_term.specs.Verdicts.{Finding, domain_finding, first_foreign, foreign_at}
use Rattle.eir_term.proofs.VerdictLaws.{first_finding-none, option_map-none}
use Rattle.eir_edit.specs.Pairs.{Shared, pair_of, examples_of, pairs_of}

-- as many as are lent
pub length-pairs_of : (xs : List Shared) → length (pairs_of xs) ≡ length xs
length-pairs_of xs = length-map (examples_of xs) pair_of ∙ length-map xs (λ x. x.value)

-- what stands at a place is lent there
pub pairs_of-place : (xs : List Shared) (i : ℕ) (x : Shared) → i < length xs → x ≡ get_or xs i x → slice_get (pairs_of xs) i ≡ Some (pair_of x.value)
pairs_of-place [] i x l e = absurd (omega arith)
pairs_of-place (y ∷ ys) zero x l e = ap (λ (z : Shared). Some (pair_of z.value)) (sym e)
pairs_of-place (y ∷ ys) (suc i) x l e = pairs_of-place ys i x (omega arith) e

-- and is an element
∈-pairs_of : (xs : List Shared) (i : ℕ) (x : Shared) → i < length xs → x ≡ get_or xs i x → pair_of x.value ∈ pairs_of xs
∈-pairs_of [] i x l e = absurd (omega arith)
∈-pairs_of (y ∷ ys) zero x l e = inl (ap (λ (z : Shared). pair_of z.value) e)
∈-pairs_of (y ∷ ys) (suc i) x l e = inr (∈-pairs_of ys i x (omega arith) e)

-- where no example has a foreign constant, this one has none
pub no-foreign-at : (xs : List Shared) (i : ℕ) (x : Shared) → i < length xs → x ≡ get_or xs i x → domain_finding (pairs_of xs) ≡ None → first_foreign (pair_of x.value) ≡ None
no-foreign-at xs i x l e none =
    let (k, at) = first_finding-none (λ i e. option_map (foreign_at i) (first_foreign e)) 0 (pairs_of xs) (pair_of x.value) none (∈-pairs_of xs i x l e) in
    option_map-none (foreign_at k) (first_foreign (pair_of x.value)) at
