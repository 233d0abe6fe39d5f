-- The rows of a level and the facts that are tried. The points are `rows-tried`: the rows of a fact's level after the
-- bindings are those of the facts that are tried for it; and `row-binds`: such a row binds where its fact is bound.
--   IsKey known to vs i    == the value at column i is known, and a list of values meets it there first
--   Knows start listed M   == M sends somewhere what is known
use Rattle.std.proofs.Common.{◌≡◌, ℕ, zero, suc, ◌+◌, ◌==◌, ◌&&◌, inl, inr, Bool, true, false, List, [], ◌∷◌, map, filter, length, get_or, Option, Some, None, option_map, unwrap_or, slice_get, refl, sym, ◌∙◌, ap, subst, arith}
use Rattle.std.proofs.lemmas.Bool.{cases_Bool, and_parts, eq-eqb, eqb-true, false≢true}
use Rattle.std.proofs.lemmas.Option.{same_Some, none-some, slice_get-map}
use Rattle.std.proofs.lemmas.List.FromFn.{get_or-map-range_with_len}
use Rattle.eir_term.specs.declared.val.Val.{Val}
use Rattle.eir_term.specs.declared.fact.Fact.{Fact}
use Rattle.eir_term.specs.Lists.{◌∈◌}
use Rattle.eir_term.specs.Values.{val_eq, val_eq-decides}
use Rattle.eir_term.specs.Instances.{values}
use Rattle.eir_term.specs.Maps.{image}
use Rattle.eir_term.specs.Bind.{bind_fact}
use Rattle.eir_term.specs.Profiles.{profile, is_within}
use Rattle.eir_term.specs.Plans.{is_known, meets_first, fits_profiles, is_tried}
use Rattle.eir_term.specs.Order.{KeepsFixed}
use Rattle.eir_term.proofs.ListLaws.{filter-agree}
use Rattle.eir_term.proofs.HomLaws.{∈-values}
use Rattle.eir_term.proofs.OrderLaws.{∈-slice_get_from}
use Rattle.eir_hom.specs.Matching.{Bindings, bound_to, bind_row, rows_at}
use Rattle.eir_hom.specs.Levels.{number, first_known, but_at, may_go, has_number, row_of, rows_for, slot_of, level_at}
use Rattle.eir_hom.proofs.BindingLaws.{same-test, number-le, number-test, sends_to, sends_to-image, Same, Alike, Alike-values}
use Rattle.eir_hom.proofs.LongerLaws.{bind_row-but}

module _ (known : Val → Bool) (to : Val → Val) where
  -- the value at column i is known, and whether a list of values meets the images is seen there
  pub record IsKey (vs : List Val) (i : ℕ) : Type 0 where
    pub value : Val
    pub there : slice_get vs i ≡ Some value
    pub known_there : known value ≡ true
    pub meets : (ws : List Val) (w : Val) → slice_get ws i ≡ Some w → meets_first known to vs ws ≡ val_eq (to value) w

  -- where no value is known, all lists meet the images
  meets-unknown : (n : ℕ) (vs ws : List Val) → first_known known n vs ≡ None → meets_first known to vs ws ≡ true
  meets-unknown n [] ws e = refl
  meets-unknown n (v ∷ vs) [] e = refl
  meets-unknown n (v ∷ vs) (w ∷ ws) e = elim (cases_Bool (known v)) [
    | inl t ↦ (let c : Some n ≡ None = sym (rw t) ∙ e in absurd (none-some n (sym c)))
    | inr t ↦ (let c : first_known known (suc n) vs ≡ None = sym (rw t) ∙ e in rw t (meets-unknown (suc n) vs ws c))
  ]

  key-first : (v : Val) (vs : List Val) → known v ≡ true → IsKey (v ∷ vs) 0
  key-first v vs t = record { value = v; there = refl; known_there = t; meets = meets }
    where
      meets : (ws : List Val) (w : Val) → slice_get ws 0 ≡ Some w → meets_first known to (v ∷ vs) ws ≡ val_eq (to v) w
      meets [] w e = absurd (none-some w e)
      meets (u ∷ ws) w e = rw t (ap (val_eq (to v)) (same_Some u w e))

  key-later : (v : Val) (vs : List Val) (i : ℕ) → known v ≡ false → IsKey vs i → IsKey (v ∷ vs) (suc i)
  key-later v vs i f k = record { value = k.value; there = k.there; known_there = k.known_there; meets = meets }
    where
      meets : (ws : List Val) (w : Val) → slice_get ws (suc i) ≡ Some w → meets_first known to (v ∷ vs) ws ≡ val_eq (to k.value) w
      meets [] w e = absurd (none-some w e)
      meets (u ∷ ws) w e = rw f (k.meets ws w e)

  key-from : (n j : ℕ) (vs : List Val) → first_known known n vs ≡ Some j → (i : ℕ) × (j ≡ n + i) × IsKey vs i
  key-from n j [] e = absurd (none-some j e)
  key-from n j (v ∷ vs) e = elim (cases_Bool (known v)) [
    | inl t ↦ (let c : Some n ≡ Some j = sym (rw t) ∙ e in let s : n ≡ j = same_Some n j c in (0, omega arith, key-first v vs t))
    | inr t ↦ (
        let c : first_known known (suc n) vs ≡ Some j = sym (rw t) ∙ e in
        let r = key-from (suc n) j vs c in
        let s = r.1 in
        (suc r.0, omega arith, key-later v vs r.0 t r.2)
        )
  ]

  -- the first known column is the key
  pub key-at : (j : ℕ) (vs : List Val) → first_known known 0 vs ≡ Some j → IsKey vs j
  key-at j vs e = let r = key-from 0 j vs e in let s = r.1 in let q : r.0 ≡ j = omega arith in subst (λ i. IsKey vs i) q r.2

-- a list of values that has the profiles is as long
fits-there : (A B : List Fact) (i : ℕ) (v : Val) (vs ws : List Val) → slice_get vs i ≡ Some v → fits_profiles A B vs ws ≡ true → (w : Val) × (slice_get ws i ≡ Some w)
fits-there A B i v [] ws e t = absurd (none-some v e)
fits-there A B i v (u ∷ vs) [] e t = absurd (false≢true t)
fits-there A B zero v (u ∷ vs) (w ∷ ws) e t = (w, refl)
fits-there A B (suc i) v (u ∷ vs) (w ∷ ws) e t = fits-there A B i v vs ws e (and_parts (is_within (profile A u) (profile B w)) (fits_profiles A B vs ws) t).1

-- a test may be made last, in a form that says the same where the others pass
move-test : (r m s h : Bool) → (s ≡ true → m ≡ h) → (r && (m && s)) ≡ ((r && s) && h)
move-test false m s h e = refl
move-test true true true h e = e refl
move-test true false true h e = e refl
move-test true true false h e = refl
move-test true false false h e = refl

-- M sends somewhere what is given by the start, is fixed, or occurs in a listed fact
abbrev pub Knows : List (Val × Val) → List Fact → List (Val × Val) → Type 0
Knows start listed M = (v : Val) → is_known start listed v ≡ true → (u : Val) × (sends_to M v ≡ Some u)

module _ (A B : List Fact) (start : List (Val × Val)) (listed : List Fact) (m : Bindings) (M : List (Val × Val)) (f : Fact)
    (same : Same A B m M) (keeps : KeepsFixed M) (knows : Knows start listed M) (planned : f ∈ A) where
  -- whether a fact is tried for f
  abbrev tried : Fact → Bool
  tried = is_tried A B start listed M f

  -- where no column is known, all that f may go to is tried
  tried-no_key : first_known (is_known start listed) 0 f.args ≡ None → (g : Fact) → tried g ≡ may_go A B f g
  tried-no_key e g = rw (meets-unknown (is_known start listed) (image M) 0 f.args g.args e) refl

  -- else what has the number of the image at the key column
  tried-key : (i : ℕ) (u : Val) (k : IsKey (is_known start listed) (image M) f.args i) → sends_to M k.value ≡ Some u → (g : Fact) → g ∈ B →
      tried g ≡ (may_go A B f g && has_number B i (number B u) g)
  tried-key i u k e g h =
      move-test (f.rel == g.rel) (meets_first (is_known start listed) (image M) f.args g.args) (fits_profiles A B f.args g.args) (has_number B i (number B u) g) (λ t.
      let r = fits-there A B i k.value f.args g.args k.there t in
      let w = r.0 in
      let to : image M k.value ≡ u = sends_to-image M k.value u keeps e in
      let there : has_number B i (number B u) g ≡ (number B w == number B u) = rw r.1 in
      let test = number-test B u w (∈-values w g B h (∈-slice_get_from w g.args i r.1)) in
      let turned : (number B u == number B w) ≡ (number B w == number B u) = same-test (number B u == number B w) (number B w == number B u)
      (λ s. eq-eqb (number B w) (number B u) (sym (eqb-true (number B u) (number B w) s))) (λ s. eq-eqb (number B u) (number B w) (sym (eqb-true (number B w) (number B u) s))) in
      k.meets g.args w r.1 ∙ ap (λ x. val_eq x w) to ∙ sym test ∙ turned ∙ sym there)

  -- the rows of the level are those of the facts that are tried
  pub rows-tried : (o : Option ℕ) → first_known (is_known start listed) 0 f.args ≡ o → rows_at (level_at A B f o) m ≡ map (row_of B o) (filter tried B)
  rows-tried None e =
      let at : get_or (rows_for A B f None) (unwrap_or (bound_to m (length (values A))) 0) [] ≡ map (row_of B None) (filter (may_go A B f) B) = rw same.none refl in
      at ∙ ap (map (row_of B None)) (filter-agree (may_go A B f) tried B (λ g h. sym (tried-no_key e g)))
  rows-tried (Some i) e =
      let k = key-at (is_known start listed) (image M) i f.args e in
      let v = k.value in
      let r = knows v k.known_there in
      let u = r.0 in
      let bound : bound_to m (number A v) ≡ Some (number B u) = same.slots v (∈-values v f A planned (∈-slice_get_from v f.args i k.there)) ∙ ap (option_map (number B)) r.1 in
      let slot : slot_of A f (Some i) ≡ number A v = rw k.there refl in
      let at : get_or (rows_for A B f (Some i)) (unwrap_or (bound_to m (slot_of A f (Some i))) 0) [] ≡ get_or (rows_for A B f (Some i)) (number B u) [] = rw (slot, bound) refl in
      let l = number-le B u in
      let there = get_or-map-range_with_len (λ w. map (row_of B (Some i)) (filter (λ g. may_go A B f g && has_number B i w g) B)) 0 (suc (length (values B))) (number B u) (number B u) [] (omega arith) (omega arith) in
      at ∙ there ∙ ap (map (row_of B (Some i))) (filter-agree (λ g. may_go A B f g && has_number B i (number B u) g) tried B (λ g h. sym (tried-key i u k r.1 g h)))

  -- all columns of a fact that is tried bind as the fact does
  whole-binds : (g : Fact) → g ∈ B → tried g ≡ true → Alike A B (bind_row m (map (number A) f.args) (map (number B) g.args)) (bind_fact M f g)
  whole-binds g h t =
      let rel : (f.rel == g.rel) ≡ true = (and_parts (f.rel == g.rel) (meets_first (is_known start listed) (image M) f.args g.args && fits_profiles A B f.args g.args) t).0 in
      rw rel (Alike-values A B m M f.args g.args same (λ v i. ∈-values v f A planned i) (λ w i. ∈-values w g B h i))

  -- so does its row, which leaves the key column out
  pub row-binds : (o : Option ℕ) → first_known (is_known start listed) 0 f.args ≡ o → (g : Fact) → g ∈ B → tried g ≡ true →
      Alike A B (bind_row m (but_at o (map (number A) f.args)) (row_of B o g)) (bind_fact M f g)
  row-binds None e g h t = whole-binds g h t
  row-binds (Some i) e g h t =
      let k = key-at (is_known start listed) (image M) i f.args e in
      let v = k.value in
      let r = knows v k.known_there in
      let u = r.0 in
      let rest = (and_parts (f.rel == g.rel) (meets_first (is_known start listed) (image M) f.args g.args && fits_profiles A B f.args g.args) t).1 in
      let parts = and_parts (meets_first (is_known start listed) (image M) f.args g.args) (fits_profiles A B f.args g.args) rest in
      let w = fits-there A B i v f.args g.args k.there parts.1 in
      let is : u ≡ w.0 = sym (sends_to-image M v u keeps r.1) ∙ (val_eq-decides (image M v) w.0).0 (sym (k.meets g.args w.0 w.1) ∙ parts.0) in
      let bound : bound_to m (number A v) ≡ Some (number B u) = same.slots v (∈-values v f A planned (∈-slice_get_from v f.args i k.there)) ∙ ap (option_map (number B)) r.1 in
      let slot : slice_get (map (number A) f.args) i ≡ Some (number A v) = slice_get-map (number A) f.args i ∙ ap (option_map (number A)) k.there in
      let cell : slice_get (map (number B) g.args) i ≡ Some (number B u) = slice_get-map (number B) g.args i ∙ ap (option_map (number B)) w.1 ∙ ap (λ x. Some (number B x)) (sym is) in
      subst (λ b. Alike A B b (bind_fact M f g)) (sym (bind_row-but i (number A v) (number B u) m (map (number A) f.args) (map (number B) g.args) slot cell bound)) (whole-binds g h t)
