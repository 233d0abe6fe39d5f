-- What the start binds: the slots of values with an image. The points are `slot-unbound`, `bind-turn` and `bindings-are`.
use Rattle.std.proofs.Common.{◌≡◌, ℕ, suc, ◌+◌, ◌<◌, ◌≤◌, List, [], ◌∷◌, ◌++◌, map, filter, take, length, get_or, Option, Some, None, slice_get, inl, inr, refl, sym, ap, ap₂, ◌∙◌, arith}
use Rattle.std.proofs.lemmas.Bool.{cases_Bool}
use Rattle.std.proofs.lemmas.List.{length-map, length-take, length-take-le, take_more}
use Rattle.eir_term.specs.declared.val.Val.{Val}
use Rattle.eir_term.specs.declared.fact.Fact.{Fact}
use Rattle.eir_term.specs.Values.{val_eq, val_eq-decides}
use Rattle.eir_term.specs.Instances.{values, occurrences}
use Rattle.eir_term.specs.Maps.{image}
use Rattle.eir_term.specs.Plans.{is_known}
use Rattle.eir_term.proofs.ListLaws.{IsDistinct-distinct}
use Rattle.eir_term.proofs.OrderLaws.{place_of-slice_get}
use Rattle.eir_hom.specs.Matching.{Match, Bindings, bound_to}
use Rattle.eir_hom.specs.Levels.{number, bindings_of}
use Rattle.eir_hom.specs.Compiling.{given_image, bindings_from}
use Rattle.eir_hom.proofs.ColumnLaws.{same-false}

-- the number of a value is its place
number-at : (K : List Fact) (v : Val) (n : ℕ) → slice_get (values K) n ≡ Some v → number K v ≡ n
number-at K v n e = place_of-slice_get val_eq val_eq-decides v (values K) n (IsDistinct-distinct val_eq val_eq-decides (occurrences K)) e

-- the slots past these images are not bound
bound_to-past : (n : ℕ) (is : List (Option ℕ)) (s : ℕ) → n + length is ≤ s → bound_to (bindings_from n is) s ≡ None
bound_to-past n [] s le = refl
bound_to-past n (None ∷ is) s le = bound_to-past (suc n) is s (omega arith)
bound_to-past n (Some i ∷ is) s le =
    let ns : n < s = omega arith in
    rw (same-false n s (λ e. omega arith)) (bound_to-past (suc n) is s (omega arith))

pub slot-unbound : (slot value : ℕ) (is : List (Option ℕ)) → value ≤ length is → value < slot → bound_to ((slot, 0) ∷ bindings_from 0 (take value is)) value ≡ None
slot-unbound slot value is le lt =
    rw (same-false slot value (λ e. omega arith)) (bound_to-past 0 (take value is) value (omega (arith, length-take value is)))

-- one image more
numbered-push : (n : ℕ) (is : List (Option ℕ)) (i : ℕ) → bindings_from n (is ++ Some i ∷ []) ≡ bindings_from n is ++ (n + length is, i) ∷ []
numbered-push n [] i = let e : n ≡ n + 0 = omega arith in ap (λ k. (k, i) ∷ []) e
numbered-push n (None ∷ is) i = let e : suc n + length is ≡ n + suc (length is) = omega arith in numbered-push (suc n) is i ∙ ap (λ k. bindings_from (suc n) is ++ (k, i) ∷ []) e
numbered-push n (Some j ∷ is) i = let e : suc n + length is ≡ n + suc (length is) = omega arith in ap (λ ps. (n, j) ∷ ps) (numbered-push (suc n) is i ∙ ap (λ k. bindings_from (suc n) is ++ (k, i) ∷ []) e)

numbered-none : (n : ℕ) (is : List (Option ℕ)) → bindings_from n (is ++ None ∷ []) ≡ bindings_from n is
numbered-none n [] = refl
numbered-none n (None ∷ is) = numbered-none (suc n) is
numbered-none n (Some j ∷ is) = ap (λ ps. (n, j) ∷ ps) (numbered-none (suc n) is)

bound-step : (is : List (Option ℕ)) (value i : ℕ) (d : Option ℕ) → value < length is → get_or is value d ≡ Some i → bindings_from 0 (take (value + 1) is) ≡ bindings_from 0 (take value is) ++ (value, i) ∷ []
bound-step is value i d lt e =
    let l : 0 + length (take value is) ≡ value = omega (arith, length-take-le value is (omega arith)) in
    ap (bindings_from 0) (take_more is value d lt ∙ ap (λ o. take value is ++ o ∷ []) e) ∙ numbered-push 0 (take value is) i ∙ ap (λ k. bindings_from 0 (take value is) ++ (k, i) ∷ []) l

unbound-step : (is : List (Option ℕ)) (value : ℕ) (d : Option ℕ) → value < length is → get_or is value d ≡ None → bindings_from 0 (take (value + 1) is) ≡ bindings_from 0 (take value is)
unbound-step is value d lt e = ap (bindings_from 0) (take_more is value d lt ∙ ap (λ o. take value is ++ o ∷ []) e) ∙ numbered-none 0 (take value is)

-- one slot more is bound, or none
abbrev with_start : Match → Bindings → Match
with_start m start = record m { start = start }

pub bind-turn : (old now after : Match) (is : List (Option ℕ)) (value i : ℕ) (d : Option ℕ) → value < length is → get_or is value d ≡ Some i → now ≡ record old { start = (length is, 0) ∷ bindings_from 0 (take value is) } → after ≡ record now { start = now.start ++ (value, i) ∷ [] } →
    after ≡ record old { start = (length is, 0) ∷ bindings_from 0 (take (value + 1) is) }
bind-turn old now after is value i d lt at now_is after_is =
    after_is ∙ ap (λ (m : Match). with_start m (m.start ++ (value, i) ∷ [])) now_is ∙ ap (λ ps. with_start old ((length is, 0) ∷ ps)) (sym (bound-step is value i d lt at))

pub skip-turn : (old now : Match) (is : List (Option ℕ)) (value : ℕ) (d : Option ℕ) → value < length is → get_or is value d ≡ None → now ≡ record old { start = (length is, 0) ∷ bindings_from 0 (take value is) } → now ≡ record old { start = (length is, 0) ∷ bindings_from 0 (take (value + 1) is) }
skip-turn old now is value d lt at now_is = now_is ∙ ap (λ ps. with_start old ((length is, 0) ∷ ps)) (sym (unbound-step is value d lt at))

-- the numbered images of given values are their bindings
pub bindings-are : (A B : List Fact) (start : List (Val × Val)) (is : List (Option ℕ)) → is ≡ map (given_image B start) (values A) → (length is, 0) ∷ bindings_from 0 is ≡ bindings_of A B start
bindings-are A B start is e =
    rw e (ap₂ (λ n ps. (n, 0) ∷ ps) (length-map (values A) (given_image B start)) (from 0 (values A) (λ k v at. let z : k ≡ 0 + k = omega arith in number-at A v k at ∙ z)))
  where
    from : (n : ℕ) (vs : List Val) → ((k : ℕ) (v : Val) → slice_get vs k ≡ Some v → number A v ≡ n + k) → bindings_from n (map (given_image B start) vs) ≡ map (λ v. (number A v, number B (image start v))) (filter (is_known start []) vs)
    from n [] h = refl
    from n (v ∷ vs) h =
        let rest = from (suc n) vs (λ k u at. let s : suc n + k ≡ n + suc k = omega arith in h (suc k) u at ∙ sym s) in
        let here : number A v ≡ n = h 0 v refl ∙ (let z : n + 0 ≡ n = omega arith in z) in
        elim (cases_Bool (is_known start [] v)) [
          | inl t ↦ rw t (ap₂ (λ m ps. (m, number B (image start v)) ∷ ps) (sym here) rest)
          | inr t ↦ rw t rest
        ]
