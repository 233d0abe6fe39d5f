-- A version tells its example: what is held after an act was held before it, or is the one example with the new version.
use Rattle.std.proofs.Common.{◌≡◌, ◌⊎◌, ℕ, suc, ◌<◌, true, false, cond, List, [], ◌∷◌, ◌++◌, Option, Some, None, refl, sym, ◌∙◌, ap, subst, inl, inr, arith}
use Rattle.eir_term.specs.declared.val.Side.{Side}
use Rattle.eir_term.specs.declared.val.Side.TheVariants.{Source, Target}
use Rattle.eir_term.specs.declared.fact.Fact.{Fact}
use Rattle.eir_term.specs.Lists.{◌∈◌}
use Rattle.eir_term.proofs.ListLaws.{∈-append_cases}
use Rattle.eir_edit.specs.Causes.{Cause}
use Rattle.eir_edit.specs.Histories.{Example, History, find_example, changed, dropped, edited, undone, undone_to}
use Rattle.eir_edit.specs.Edits.{Loan, lent, new_example, put_on, cut_from}
use Rattle.eir_edit.specs.State as state
use Rattle.eir_edit.specs.State.{Act, Desk, relation_of, fact_of, refusal, done, draws, unless, after, drawn_after}
use Rattle.eir_edit.specs.Goods.{Holds, AreNumbered}
use Rattle.eir_edit.proofs.GoodLaws.{∈-take_from, ∈-changed, ∈-dropped}

-- ---- what is held after an edit

-- it is in the new list, or was held before
edited-from : (xs : List Example) (h : History) (x : Example) → Holds (edited xs h) x → (x ∈ xs) ⊎ Holds h x
edited-from xs h x held = elim held.1 [
  | inl e ↦ inl (subst (λ ys. x ∈ ys) e held.2)
  | inr k ↦ inr (held.0, ∈-take_from 32 held.0 (h.list ∷ h.undo) k, held.2)
]

undone-from : (h : History) (x : Example) → Holds (undone h) x → Holds h x
undone-from h x = by h.undo refl
  where
    by : (older : List (List Example)) → older ≡ h.undo → Holds (undone_to older h) x → Holds h x
    by [] e held = held
    by (xs ∷ older) e held = (held.0, inr (subst (λ us. held.0 ∈ us) e held.1), held.2)

-- the changed example of a name, where there is one
abbrev IsChanged : List ℕ → (Example → Example) → History → Example → Type 0
IsChanged name change h x = (y : Example) × (find_example name h.list ≡ Some y) × (x ≡ change y)

changed-from : (name : List ℕ) (change : Example → Example) (h : History) (x : Example) → Holds (edited (changed name change h.list) h) x → Holds h x ⊎ IsChanged name change h x
changed-from name change h x held = elim (edited-from (changed name change h.list) h x held) [
  | inr k ↦ inl k
  | inl k ↦ elim (∈-changed name change h.list x k) [
    | inl j ↦ inl (h.list, inl refl, j)
    | inr j ↦ inr (j.0, j.2, j.3)
  ]
]

pushed-from : (xs : List Example) (h : History) (x : Example) → Holds (edited (h.list ++ xs) h) x → Holds h x ⊎ (x ∈ xs)
pushed-from xs h x held = elim (edited-from (h.list ++ xs) h x held) [
  | inr k ↦ inl k
  | inl k ↦ elim (∈-append_cases x h.list xs k) [ inl j ↦ inl (h.list, inl refl, j) | inr j ↦ inr j ]
]

dropped-from : (name : List ℕ) (h : History) (x : Example) → Holds (edited (dropped name h.list) h) x → Holds h x
dropped-from name h x held = elim (edited-from (dropped name h.list) h x held) [ inr k ↦ k | inl k ↦ (h.list, inl refl, ∈-dropped name h.list x k) ]

-- ---- numbering

-- fewer examples are numbered too
pub AreNumbered-fewer : (n : ℕ) (P Q : Example → Type 0) → AreNumbered n P → ((x : Example) → Q x → P x) → AreNumbered n Q
AreNumbered-fewer n P Q good from = record { told = λ x y p q e. good.told x y (from x p) (from y q) e; below = λ x p. good.below x (from x p) }

-- and so are those with others that are one and have the next number
pub AreNumbered-next : (n : ℕ) (P Q New : Example → Type 0) → AreNumbered n P → ((x : Example) → New x → x.version ≡ n) → ((x y : Example) → New x → New y → x ≡ y) → ((x : Example) → Q x → P x ⊎ New x) → AreNumbered (suc n) Q
AreNumbered-next n P Q New good at one from = record {
  told = λ x y hx hy e. elim (from x hx) [
    | inl px ↦ elim (from y hy) [
      | inl py ↦ good.told x y px py e
      | inr ny ↦ (let l = good.below x px in let k = at y ny in absurd (omega (arith, l, k, e)))
    ]
    | inr nx ↦ elim (from y hy) [
      | inl py ↦ (let l = good.below y py in let k = at x nx in absurd (omega (arith, l, k, e)))
      | inr ny ↦ one x y nx ny
    ]
  ];
  below = λ x hx. elim (from x hx) [
    | inl px ↦ (let l = good.below x px in omega (arith, l))
    | inr nx ↦ (let k = at x nx in omega (arith, k))
  ];
}

-- what others hold, or the desk does
abbrev pub HeldWith : (Example → Type 0) → History → Example → Type 0
HeldWith Others h x = Others x ⊎ Holds h x

-- what an act borrows is held by somebody
abbrev pub IsHeldLoan : (Example → Type 0) → Act → Type 0
IsHeldLoan Held (state.borrow e loan) = (x : Example) → x ∈ lent loan → Held x
IsHeldLoan Held a = Unit {0}

put-version : (n : ℕ) (side : Side) (f : Fact) (x : Example) → (put_on n side f x).version ≡ n
put-version n Source f x = refl
put-version n Target f x = refl

cut-version : (n : ℕ) (side : Side) (f : Fact) (x : Example) → (cut_from n side f x).version ≡ n
cut-version n Source f x = refl
cut-version n Target f x = refl

same-found : (name : List ℕ) (change : Example → Example) (h : History) (x y : Example) → IsChanged name change h x → IsChanged name change h y → x ≡ y
same-found name change h x y p q =
    let e : Some p.0 ≡ Some q.0 = sym p.1 ∙ q.1 in
    let k : p.0 ≡ q.0 = cc in
    p.2 ∙ ap change k ∙ sym q.2

module _ (n : ℕ) (Others : Example → Type 0) where
  -- the one example of a name is changed, under the next version
  numbered-changed : (name : List ℕ) (change : Example → Example) (h : History) → ((x : Example) → (change x).version ≡ n) → AreNumbered n (HeldWith Others h) → AreNumbered (suc n) (HeldWith Others (edited (changed name change h.list) h))
  numbered-changed name change h at good = AreNumbered-next n (HeldWith Others h) _ (IsChanged name change h) good (λ x k. ap (λ (y : Example). y.version) k.2 ∙ at k.0) (same-found name change h) (
      λ x held. elim held [ inl o ↦ inl (inl o) | inr k ↦ elim (changed-from name change h x k) [ inl j ↦ inl (inr j) | inr j ↦ inr j ] ]
      )

  numbered-added : (name : List ℕ) (h : History) → AreNumbered n (HeldWith Others h) → AreNumbered (suc n) (HeldWith Others (edited (h.list ++ new_example n name ∷ []) h))
  numbered-added name h good = AreNumbered-next n (HeldWith Others h) _ (λ x. x ≡ new_example n name) good (λ x e. ap (λ (y : Example). y.version) e) (λ x y p q. p ∙ sym q) (
      λ x held. elim held [
        | inl o ↦ inl (inl o)
        | inr k ↦ elim (pushed-from (new_example n name ∷ []) h x k) [ inl j ↦ inl (inr j) | inr j ↦ elim j [ inl e ↦ inr e | inr j ↦ absurd j ] ]
      ]
      )

  -- an act that is done
  pub AreNumbered-done : (a : Act) (d : Desk) → IsHeldLoan (HeldWith Others d.history) a → AreNumbered n (HeldWith Others d.history) → AreNumbered (cond (draws a) (suc n) n) (HeldWith Others (done n a d).history)
  AreNumbered-done (state.declare side name columns) d lends good = good
  AreNumbered-done (state.add e) d lends good = numbered-added e d.history good
  AreNumbered-done (state.put e g) d lends good = numbered-changed e (put_on n (relation_of g d.schema).side (fact_of g d.schema)) d.history (put-version n (relation_of g d.schema).side (fact_of g d.schema)) good
  AreNumbered-done (state.cut e g) d lends good = numbered-changed e (cut_from n (relation_of g d.schema).side (fact_of g d.schema)) d.history (cut-version n (relation_of g d.schema).side (fact_of g d.schema)) good
  AreNumbered-done (state.drop e) d lends good = AreNumbered-fewer n (HeldWith Others d.history) _ good (λ x held. elim held [ inl o ↦ inl o | inr k ↦ inr (dropped-from e d.history x k) ])
  AreNumbered-done state.undo_last d lends good = AreNumbered-fewer n (HeldWith Others d.history) _ good (λ x held. elim held [ inl o ↦ inl o | inr k ↦ inr (undone-from d.history x k) ])
  AreNumbered-done (state.borrow e loan) d lends good = AreNumbered-fewer n (HeldWith Others d.history) _ good (
      λ x held. elim held [ inl o ↦ inl o | inr k ↦ elim (pushed-from (lent loan) d.history x k) [ inl j ↦ inr j | inr j ↦ lends x j ] ]
      )
  AreNumbered-done (state.set_kind k) d lends good = good
  AreNumbered-done (state.set_budget m) d lends good = good

  -- an act, refused or done
  pub AreNumbered-after : (a : Act) (d : Desk) → IsHeldLoan (HeldWith Others d.history) a → AreNumbered n (HeldWith Others d.history) → AreNumbered (drawn_after n a d) (HeldWith Others (after n a d).history)
  AreNumbered-after a d lends good = by (refusal a d)
    where
      by : (o : Option Cause) → AreNumbered (unless o n (cond (draws a) (suc n) n)) (HeldWith Others (unless o d (done n a d)).history)
      by None = AreNumbered-done a d lends good
      by (Some c) = good
