-- The first finding of a list, by a loop over its places.
use Rattle.std.proofs.Common.{◌≡◌, zero, suc, ◌+◌, ◌≤◌, ℕ, Option, Some, None, List, [], ◌∷◌, length, drop, slice_get, refl, sym, ◌∙◌, ap, arith}
use Rattle.std.proofs.lemmas.List.{drop_all}
use Rattle.std.proofs.lemmas.Option.{none-some, same_Some}
use Rattle.eir_term.specs.Verdicts.{Finding, or_else, first_finding}

-- the list from a place on begins with what stands there
drop-at : {X : Type 0} (xs : List X) (i : ℕ) (x : X) → slice_get xs i ≡ Some x → drop i xs ≡ x ∷ drop (suc i) xs
drop-at [] i x e = absurd (none-some x e)
drop-at (y ∷ ys) zero x e = ap (λ z. z ∷ ys) (same_Some y x e)
drop-at (y ∷ ys) (suc i) x e = drop-at ys i x e

-- what is not something is nothing
pub none-from : {X : Type 0} (o : Option X) → ((x : X) → o ≡ Some x → ⊥) → o ≡ None
none-from None apart = refl
none-from (Some x) apart = absurd (apart x refl)

module _ {X : Type 0} (test : ℕ → X → Option Finding) where
  -- where the test finds nothing it goes on
  pub first_finding-passed : (xs : List X) (i : ℕ) (x : X) → slice_get xs i ≡ Some x → test i x ≡ None → first_finding test (i + 1) (drop (i + 1) xs) ≡ first_finding test i (drop i xs)
  first_finding-passed xs i x here t =
      ap (λ k. first_finding test k (drop k xs)) (let q : i + 1 ≡ suc i = omega arith in q) ∙ sym (ap (λ ys. first_finding test i ys) (drop-at xs i x here) ∙ ap (λ o. or_else o (first_finding test (suc i) (drop (suc i) xs))) t)

  -- where it finds something that is the answer
  pub first_finding-found : (xs : List X) (i : ℕ) (x : X) (found : Finding) → slice_get xs i ≡ Some x → test i x ≡ Some found → first_finding test i (drop i xs) ≡ Some found
  first_finding-found xs i x found here t = ap (λ ys. first_finding test i ys) (drop-at xs i x here) ∙ ap (λ o. or_else o (first_finding test (suc i) (drop (suc i) xs))) t

  -- past the end there is nothing
  pub first_finding-end : (xs : List X) (i : ℕ) → length xs ≤ i → first_finding test i (drop i xs) ≡ None
  first_finding-end xs i l = ap (λ ys. first_finding test i ys) (drop_all i xs l)
