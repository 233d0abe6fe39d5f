-- The examples that are lent, one after another, and their canonical mapping.
use Rattle.std.proofs.Common.{◌≡◌, ℕ, zero, suc, ◌<◌, inl, inr, None, List, [], ◌∷◌, length, get_or, ap, arith}
use Rattle.eir_term.specs.Lists.{◌∈◌}
use Rattle.eir_term.specs.Instances.{IsSource}
use Rattle.eir_term.specs.Headline.{AllSources}
use Rattle.eir_term.specs.Verdicts.{domain_finding}
use Rattle.eir_term.proofs.VerdictLaws.{none-foreign}
use Rattle.eir_edit.specs.Pairs.{Shared, pair_of, pairs_of}
use Rattle.eir_canon.specs.Parts.{HasNoForeign}

-- the instances of an example that is lent are among those of all
∈-pairs_of : (xs : List Shared) (i : ℕ) (d x : Shared) → i < length xs → x ≡ get_or xs i d → pair_of x.value ∈ pairs_of
    xs
∈-pairs_of [] i d x l e = absurd (omega arith)
∈-pairs_of (y ∷ xs) zero d x l e = inl (ap (λ (z : Shared). pair_of z.value) e)
∈-pairs_of (y ∷ xs) (suc i) d x l e = inr (∈-pairs_of xs i d x (omega arith) e)

module _ (xs : List Shared) (i : ℕ) (d x : Shared) (l : i < length xs) (at : x ≡ get_or xs i d) where
  -- its source has no null
  pub pair-clean : AllSources (pairs_of xs) → IsSource (pair_of x.value).source
  pair-clean clean = clean (pair_of x.value) (∈-pairs_of xs i d x l at)

  -- and no constant of its target is foreign
  pub pair-known : domain_finding (pairs_of xs) ≡ None → HasNoForeign (pair_of x.value)
  pair-known known = none-foreign (pairs_of xs) known (pair_of x.value) (∈-pairs_of xs i d x l at)
