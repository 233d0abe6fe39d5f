-- Bindings of numbers and maps of values. The points are `Alike-values`: a row of numbers binds exactly where its values
-- do, and then alike; and `Same-start`: the search begins with the same bindings as its start.
--   sends_to M v       == what M sends v to, where it sends it; a fixed constant goes to itself
--   Same A B m M       == m binds the number of each value of A to the number of what M sends it to
--   Alike A B o O      == both are there and the same, or neither is
use Rattle.std.proofs.Common.{◌≡◌, ℕ, suc, ◌<◌, ◌≤◌, ◌==◌, inl, inr, Bool, true, false, cond, Decides, List, [], ◌∷◌, ◌++◌, map, length, Option, Some, None, is_some, option_and_then, option_map, unwrap_or, slice_get, refl, sym, ◌∙◌, ap, subst, arith, ◌||◌}
use Rattle.std.proofs.lemmas.Bool.{cases_Bool, eq-eqb, ne_eqb, eqb-true, false≢true}
use Rattle.std.proofs.lemmas.Option.{same_Some, none-some, slice_get_within}
use Rattle.eir_term.specs.declared.val.Val.{Val}
use Rattle.eir_term.specs.declared.val.Val.TheVariants.{Const, Fixed, Null}
use Rattle.eir_term.specs.declared.fact.Fact.{Fact}
use Rattle.eir_term.specs.Lists.{◌∈◌, place_of}
use Rattle.eir_term.specs.Values.{val_eq, val_eq-decides, is_fixed}
use Rattle.eir_term.specs.Instances.{values}
use Rattle.eir_term.specs.Maps.{get, image}
use Rattle.eir_term.specs.Bind.{bind_as, bind_value, bind_values}
use Rattle.eir_term.specs.Plans.{is_known}
use Rattle.eir_term.specs.Order.{KeepsFixed}
use Rattle.eir_term.proofs.ListLaws.{slice_get-place_of, apart-false, ∈-filter, ∈-filter_from}
use Rattle.eir_term.proofs.MapLaws.{get-append, get-append_same}
use Rattle.eir_hom.specs.Matching.{Bindings, bound_to, bind_slot_as, bind_slot, bind_row}
use Rattle.eir_hom.specs.Levels.{number, given_values, bindings_of}

-- two tests that follow from each other are the same
pub same-test : (a b : Bool) → (a ≡ true → b ≡ true) → (b ≡ true → a ≡ true) → a ≡ b
same-test true b to from = sym (to refl)
same-test false true to from = from refl
same-test false false to from = refl

-- ---- numbers of values

-- a place below the length is that of the element
place_of-below : {X : Type 0} (eq : X → X → Bool) (same : (a b : X) → Decides (eq a b) (a ≡ b)) (x : X) (xs : List X) → place_of eq x xs < length xs → slice_get xs (place_of eq x xs) ≡ Some x
place_of-below eq same x [] l = absurd (omega arith)
place_of-below eq same x (y ∷ xs) l = elim (cases_Bool (eq x y)) [
  | inl t ↦ rw t (ap Some (sym ((same x y).0 t)))
  | inr t ↦ (let more : suc (place_of eq x xs) < suc (length xs) = rw t at l in rw t (place_of-below eq same x xs (omega arith)))
]

place_of-le : {X : Type 0} (eq : X → X → Bool) (x : X) (xs : List X) → place_of eq x xs ≤ length xs
place_of-le eq x [] = omega arith
place_of-le eq x (y ∷ xs) = elim (cases_Bool (eq x y)) [ inl t ↦ rw t (omega arith) | inr t ↦ (let r = place_of-le eq x xs in rw t (omega arith)) ]

pub number-le : (K : List Fact) (v : Val) → number K v ≤ length (values K)
number-le K v = place_of-le val_eq v (values K)

pub number-there : (K : List Fact) (v : Val) → v ∈ values K → slice_get (values K) (number K v) ≡ Some v
number-there K v h = slice_get-place_of val_eq val_eq-decides v (values K) h

pub number-below : (K : List Fact) (v : Val) → v ∈ values K → number K v < length (values K)
number-below K v h = slice_get_within (values K) (number K v) v (number-there K v h)

-- a value has the number of one of the values only if it is that one
pub number-test : (K : List Fact) (u w : Val) → w ∈ values K → (number K u == number K w) ≡ val_eq u w
number-test K u w h = same-test (number K u == number K w) (val_eq u w)
    (λ t.
    let e = eqb-true (number K u) (number K w) t in
    let l = number-below K w h in
    let at : slice_get (values K) (number K u) ≡ Some u = place_of-below val_eq val_eq-decides u (values K) (omega arith) in
    (val_eq-decides u w).1 (same_Some u w (sym at ∙ ap (slice_get (values K)) e ∙ number-there K w h)))
    (λ t. eq-eqb (number K u) (number K w) (ap (number K) ((val_eq-decides u w).0 t)))

-- ---- bindings

bound_to-append_other : (m : Bindings) (s w t : ℕ) → (s == t) ≡ false → bound_to (m ++ (s, w) ∷ []) t ≡ bound_to m t
bound_to-append_other [] s w t e = rw e
bound_to-append_other (p ∷ m) s w t e = elim (cases_Bool (p.0 == t)) [ inl k ↦ rw k | inr k ↦ rw k (bound_to-append_other m s w t e) ]

bound_to-append_same : (m : Bindings) (s w : ℕ) → bound_to m s ≡ None → bound_to (m ++ (s, w) ∷ []) s ≡ Some w
bound_to-append_same [] s w e = rw (eq-eqb s s refl)
bound_to-append_same (p ∷ m) s w e = elim (cases_Bool (p.0 == s)) [
  | inl k ↦ (let c : Some p.1 ≡ None = sym (rw k) ∙ e in absurd (none-some p.1 (sym c)))
  | inr k ↦ (let c : bound_to m s ≡ None = sym (rw k) ∙ e in rw k (bound_to-append_same m s w c))
]

pub bound_to-append_kept : (m : Bindings) (s w t x : ℕ) → bound_to m t ≡ Some x → bound_to (m ++ (s, w) ∷ []) t ≡ Some x
bound_to-append_kept [] s w t x e = absurd (none-some x e)
bound_to-append_kept (p ∷ m) s w t x e = elim (cases_Bool (p.0 == t)) [
  | inl k ↦ rw k (sym (rw k) ∙ e)
  | inr k ↦ (let c : bound_to m t ≡ Some x = sym (rw k) ∙ e in rw k (bound_to-append_kept m s w t x c))
]

-- what is bound stays bound
pub bind_slot-keeps : (m n : Bindings) (s w t x : ℕ) → bind_slot m s w ≡ Some n → bound_to m t ≡ Some x → bound_to n t ≡ Some x
bind_slot-keeps m n s w t x e bound = by (bound_to m s) refl e
  where
    by : (o : Option ℕ) → bound_to m s ≡ o → bind_slot_as o m s w ≡ Some n → bound_to n t ≡ Some x
    by None k e = subst (λ b. bound_to b t ≡ Some x) (same_Some (m ++ (s, w) ∷ []) n e) (bound_to-append_kept m s w t x bound)
    by (Some u) k e = elim (cases_Bool (u == w)) [
      | inl c ↦ (let f : Some m ≡ Some n = sym (rw c) ∙ e in subst (λ b. bound_to b t ≡ Some x) (same_Some m n f) bound)
      | inr c ↦ (let f : None ≡ Some n = sym (rw c) ∙ e in absurd (none-some n f))
    ]

-- ---- bindings and maps

-- what M sends v to, where it sends it; a fixed constant goes to itself
abbrev pub sends_to : List (Val × Val) → Val → Option Val
sends_to M v = cond (is_fixed v) (Some v) (get M v)

bind_value-sends_to : (M : List (Val × Val)) (v w : Val) → bind_value M v w ≡ bind_as (sends_to M v) M v w
bind_value-sends_to M (Const c) w = refl
bind_value-sends_to M (Fixed c) w = refl
bind_value-sends_to M (Null n) w = refl

-- what M sends v to is the image
pub sends_to-image : (M : List (Val × Val)) (v u : Val) → KeepsFixed M → sends_to M v ≡ Some u → image M v ≡ u
sends_to-image M (Const c) u keeps e = ap (λ o. unwrap_or o (Const c)) e
sends_to-image M (Fixed c) u keeps e = keeps c ∙ same_Some (Fixed c) u e
sends_to-image M (Null n) u keeps e = ap (λ o. unwrap_or o (Null n)) e

sends_to-append_same : (M : List (Val × Val)) (v w : Val) → sends_to M v ≡ None → sends_to (M ++ (v, w) ∷ []) v ≡ Some w
sends_to-append_same M (Const c) w e = get-append_same M (Const c) w e
sends_to-append_same M (Fixed c) w e = absurd (none-some (Fixed c) (sym e))
sends_to-append_same M (Null n) w e = get-append_same M (Null n) w e

sends_to-none : (M : List (Val × Val)) (v : Val) → sends_to M v ≡ None → get M v ≡ None
sends_to-none M (Const c) e = e
sends_to-none M (Fixed c) e = absurd (none-some (Fixed c) (sym e))
sends_to-none M (Null n) e = e

sends_to-append_other : (M : List (Val × Val)) (v w u : Val) → sends_to M v ≡ None → val_eq v u ≡ false → sends_to (M ++ (v, w) ∷ []) u ≡ sends_to M u
sends_to-append_other M v w u e f = ap (λ o. cond (is_fixed u) (Some u) o) (get-append M v w u (sends_to-none M v e) ∙ rw f)

module _ (A B : List Fact) where
  -- m binds the number of each value of A to the number of what M sends it to, and the slot of no value to 0
  pub record Same (m : Bindings) (M : List (Val × Val)) : Type 0 where
    pub none : bound_to m (length (values A)) ≡ Some 0
    pub slots : (v : Val) → v ∈ values A → bound_to m (number A v) ≡ option_map (number B) (sends_to M v)

  -- both are there and the same, or neither is
  abbrev pub Alike : Option Bindings → Option (List (Val × Val)) → Type 0
  Alike None None = Unit {0}
  Alike None (Some M) = ⊥
  Alike (Some m) None = ⊥
  Alike (Some m) (Some M) = Same m M

  pub Alike-is_some : (o : Option Bindings) (O : Option (List (Val × Val))) → Alike o O → is_some o ≡ is_some O
  Alike-is_some None None a = refl
  Alike-is_some None (Some M) a = absurd a
  Alike-is_some (Some m) None a = absurd a
  Alike-is_some (Some m) (Some M) a = refl

  Alike-then : (f : Bindings → Option Bindings) (F : List (Val × Val) → Option (List (Val × Val))) (o : Option Bindings) (O : Option (List (Val × Val))) → Alike o O →
      ((m : Bindings) (M : List (Val × Val)) → Same m M → Alike (f m) (F M)) → Alike (option_and_then f o) (option_and_then F O)
  Alike-then f F None None a next = tt
  Alike-then f F None (Some M) a next = absurd a
  Alike-then f F (Some m) None a next = absurd a
  Alike-then f F (Some m) (Some M) a next = next m M a

  -- a new value in both
  Same-append : (m : Bindings) (M : List (Val × Val)) (v w : Val) → Same m M → v ∈ values A → sends_to M v ≡ None → Same (m ++ (number A v, number B w) ∷ []) (M ++ (v, w) ∷ [])
  Same-append m M v w same h free = record {
    none = bound_to-append_kept m (number A v) (number B w) (length (values A)) 0 same.none;
    slots = λ u i. elim (cases_Bool (val_eq v u)) [
      | inl t ↦ subst (λ x. bound_to (m ++ (number A v, number B w) ∷ []) (number A x) ≡ option_map (number B) (sends_to (M ++ (v, w) ∷ []) x)) ((val_eq-decides v u).0 t)
          (bound_to-append_same m (number A v) (number B w) (same.slots v h ∙ ap (option_map (number B)) free) ∙ sym (ap (option_map (number B)) (sends_to-append_same M v w free)))
      | inr t ↦ bound_to-append_other m (number A v) (number B w) (number A u) (number-test A v u i ∙ t) ∙ same.slots u i
          ∙ sym (ap (option_map (number B)) (sends_to-append_other M v w u free t))
    ];
  }

  -- a slot binds where its value does
  pub Alike-value : (m : Bindings) (M : List (Val × Val)) (v w : Val) → Same m M → v ∈ values A → w ∈ values B → Alike (bind_slot m (number A v) (number B w)) (bind_value M v w)
  Alike-value m M v w same h i =
      subst (λ O. Alike (bind_slot m (number A v) (number B w)) O) (sym (bind_value-sends_to M v w)) (by (sends_to M v) refl)
    where
      by : (o : Option Val) → sends_to M v ≡ o → Alike (bind_slot m (number A v) (number B w)) (bind_as o M v w)
      by None e =
          let free : bound_to m (number A v) ≡ None = same.slots v h ∙ ap (option_map (number B)) e in
          rw free (Same-append m M v w same h e)
      by (Some u) e =
          let bound : bound_to m (number A v) ≡ Some (number B u) = same.slots v h ∙ ap (option_map (number B)) e in
          let test = number-test B u w i in
          elim (cases_Bool (val_eq u w)) [
            | inl t ↦ (let s : (number B u == number B w) ≡ true = test ∙ t in rw (bound, s, t) same)
            | inr t ↦ (let s : (number B u == number B w) ≡ false = test ∙ t in rw (bound, s, t) tt)
          ]

  -- a row binds where its values do
  pub Alike-values : (m : Bindings) (M : List (Val × Val)) (vs ws : List Val) → Same m M → ((v : Val) → v ∈ vs → v ∈ values A) → ((w : Val) → w ∈ ws → w ∈ values B) →
      Alike (bind_row m (map (number A) vs) (map (number B) ws)) (bind_values M vs ws)
  Alike-values m M [] [] same from to = same
  Alike-values m M [] (w ∷ ws) same from to = tt
  Alike-values m M (v ∷ vs) [] same from to = tt
  Alike-values m M (v ∷ vs) (w ∷ ws) same from to =
      Alike-then (λ n. bind_row n (map (number A) vs) (map (number B) ws)) (λ N. bind_values N vs ws) (bind_slot m (number A v) (number B w)) (bind_value M v w)
      (Alike-value m M v w same (from v (inl refl)) (to w (inl refl)))
      (λ n N also. Alike-values n N vs ws also (λ u i. from u (inr i)) (λ u i. to u (inr i)))

  -- ---- the start

  module _ (start : List (Val × Val)) where
    -- the slots of these values with the numbers of their images
    abbrev given_slots : List Val → Bindings
    given_slots vs = map (λ v. (number A v, number B (image start v))) vs

    given-there : (vs : List Val) (v : Val) → v ∈ values A → v ∈ vs → bound_to (given_slots vs) (number A v) ≡ Some (number B (image start v))
    given-there [] v i h = elim h [ ]
    given-there (u ∷ vs) v i (inl e) = rw (eq-eqb (number A u) (number A v) (ap (number A) (sym e))) (ap (λ x. Some (number B (image start x))) (sym e))
    given-there (u ∷ vs) v i (inr h) = elim (cases_Bool (val_eq u v)) [
      | inl t ↦ (let s : (number A u == number A v) ≡ true = number-test A u v i ∙ t in rw s (ap (λ x. Some (number B (image start x))) ((val_eq-decides u v).0 t)))
      | inr t ↦ (let s : (number A u == number A v) ≡ false = number-test A u v i ∙ t in rw s (given-there vs v i h))
    ]

    given-absent : (vs : List Val) (v : Val) → v ∈ values A → (v ∈ vs → ⊥) → bound_to (given_slots vs) (number A v) ≡ None
    given-absent [] v i h = refl
    given-absent (u ∷ vs) v i h =
        let f : val_eq u v ≡ false = apart-false val_eq val_eq-decides u v (λ e. h (inl (sym e))) in
        let s : (number A u == number A v) ≡ false = number-test A u v i ∙ f in
        rw s (given-absent vs v i (λ k. h (inr k)))

    known-sends_to : (v : Val) → is_known start [] v ≡ is_some (sends_to start v)
    known-sends_to (Const c) = by (get start (Const c))
      where
        by : (o : Option Val) → (is_some o || false) ≡ is_some o
        by None = refl
        by (Some w) = refl
    known-sends_to (Fixed c) = refl
    known-sends_to (Null n) = by (get start (Null n))
      where
        by : (o : Option Val) → (is_some o || false) ≡ is_some o
        by None = refl
        by (Some w) = refl

    pub Same-start : KeepsFixed start → Same (bindings_of A B start) start
    Same-start keeps = record {
      none = rw (eq-eqb (length (values A)) (length (values A)) refl);
      slots = λ v i.
          let l = number-below A v i in
          let apart : (length (values A) == number A v) ≡ false = ne_eqb (length (values A)) (number A v) (λ e. omega arith) in
          rw apart (by v i (sends_to start v) refl);
    }
      where
        by : (v : Val) → v ∈ values A → (o : Option Val) → sends_to start v ≡ o → bound_to (given_slots (given_values A start)) (number A v) ≡ option_map (number B) (sends_to start v)
        by v i None e =
            let unknown : is_known start [] v ≡ false = known-sends_to v ∙ ap is_some e in
            given-absent (given_values A start) v i (λ h. false≢true (sym unknown ∙ (∈-filter_from (is_known start []) v (values A) h).1))
            ∙ sym (ap (option_map (number B)) e)
        by v i (Some u) e =
            let known : is_known start [] v ≡ true = known-sends_to v ∙ ap is_some e in
            given-there (given_values A start) v i (∈-filter (is_known start []) v (values A) known i)
            ∙ ap (λ x. Some (number B x)) (sends_to-image start v u keeps e) ∙ sym (ap (option_map (number B)) e)
