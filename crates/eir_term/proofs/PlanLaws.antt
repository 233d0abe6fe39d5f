-- What the plan and the candidates owe: the plan is an order of the places of A, so that each fact of A is planned, as
-- many as A has, and it looks at the values that start names and not at their images; the candidates are places of B,
-- ascend, and miss no homomorphism. This is the one file of laws that knows the two words: a better plan, or fewer
-- candidates, proves these again and nothing else.
use Rattle.std.proofs.Common.{◌≡◌, ℕ, zero, suc, ◌+◌, ◌<◌, ◌==◌, ◌&&◌, ◌||◌, inl, inr, Bool, true, false, cond, List, [], ◌∷◌, ◌++◌, map, length, take, Option, Some, None, is_some, option_map, unwrap_or, slice_get, refl, sym, ◌∙◌, ap, ap₂, subst, arith, ltb}
use Rattle.std.specs.List.{list_any}
use Rattle.std.proofs.lemmas.Bool.{cases_Bool, cases_eq, eq-eqb, ne_eqb, and_from, or_cases, false≢true}
use Rattle.std.proofs.lemmas.List.{take-take}
use Rattle.std.proofs.lemmas.Option.{slice_get_within}
use Rattle.eir_term.specs.declared.val.Val.{Val}
use Rattle.eir_term.specs.declared.val.Val.TheVariants.{Const, Fixed, Null}
use Rattle.eir_term.specs.declared.fact.Fact.{Fact}
use Rattle.eir_term.specs.Lists.{◌∈◌, IsDistinct, places}
use Rattle.eir_term.specs.Values.{val_eq, val_eq-decides, is_fixed}
use Rattle.eir_term.specs.Instances.{values}
use Rattle.eir_term.specs.Maps.{get, image, fact_image}
use Rattle.eir_term.specs.Homs.{IsMorphism}
use Rattle.eir_term.specs.Bind.{bind_facts, facts_at}
use Rattle.eir_term.specs.Profiles.{profile, is_within}
use Rattle.eir_term.specs.Plans.{is_known, weight, count_of, weight_of, lightest, without_place, weight_at, plan_from, plan, meets_first, fits_profiles, is_tried, tried_after, listed_first, candidates}
use Rattle.eir_term.specs.Search.{planned}
use Rattle.eir_term.specs.Order.{AllLater, KeepsFixed}
use Rattle.eir_term.proofs.ListLaws.{∈-filter, ∈-filter_from, IsDistinct-filter, filter-agree, ∈-list_any_from}
use Rattle.eir_term.proofs.HomLaws.{map-agree_from, ∈-values}
use Rattle.eir_term.proofs.OrderLaws.{AllLater-distinct, ∈-filter_map, ∈-filter_map_from, length-filter_map, take-filter_map, ∈-slice_get, ∈-slice_get_from, ∈-places, ∈-places_from, length-places, places-ascending}
use Rattle.eir_term.proofs.BindLaws.{Follows, Follows-keeps, FactsBind, AllBind-image, bind_facts-sound, bind_facts-complete}
use Rattle.eir_term.proofs.ProfileLaws.{IsMorphism-profile}

-- the lightest is one of the places
pub ∈-lightest : (w : ℕ → ℕ) (p : ℕ) (qs : List ℕ) → lightest w p qs ∈ (p ∷ qs)
∈-lightest w p [] = inl refl
∈-lightest w p (q ∷ qs) = over (ltb (w q) (w p)) (lightest w p (q ∷ qs)) (∈-lightest w (cond (ltb (w q) (w p)) q p) qs)
  where
    over : (b : Bool) (r : ℕ) → r ∈ (cond b q p ∷ qs) → r ∈ (p ∷ q ∷ qs)
    over true r (inl e) = inr (inl e)
    over true r (inr h) = inr (inr h)
    over false r (inl e) = inl e
    over false r (inr h) = inr (inr h)

-- equal weights have the same lightest place
lightest-agree : (w u : ℕ → ℕ) (p : ℕ) (qs : List ℕ) → ((q : ℕ) → w q ≡ u q) → lightest w p qs ≡ lightest u p qs
lightest-agree w u p [] e = refl
lightest-agree w u p (q ∷ qs) e =
    ap (λ b. lightest w (cond b q p) qs) (ap₂ ltb (e q) (e p)) ∙ lightest-agree w u (cond (ltb (u q) (u p)) q p) qs e

-- the other places are left
∈-without_place : (p q : ℕ) (qs : List ℕ) → (q ≡ p → ⊥) → q ∈ qs → q ∈ without_place p qs
∈-without_place p q qs ne h = ∈-filter (λ k. cond (k == p) false true) q qs (rw (ne_eqb q p ne)) h

-- and no more
∈-without_place_from : (p q : ℕ) (qs : List ℕ) → q ∈ without_place p qs → (q ∈ qs) × (q ≡ p → ⊥)
∈-without_place_from p q qs h =
    let r = ∈-filter_from (λ k. cond (k == p) false true) q qs h in
    (r.0, λ e. (let s : false ≡ true = sym (ap (λ b. cond b false true) (eq-eqb q p e)) ∙ r.1 in false≢true s))

without_place-absent : (p : ℕ) (qs : List ℕ) → (p ∈ qs → ⊥) → without_place p qs ≡ qs
without_place-absent p [] absent = refl
without_place-absent p (q ∷ qs) absent =
    rw (ne_eqb q p (λ e. absent (inl (sym e)))) (ap (λ ks. q ∷ ks) (without_place-absent p qs (λ h. absent (inr h))))

-- one place less
length-without_place : (p : ℕ) (qs : List ℕ) → IsDistinct qs → p ∈ qs → suc (length (without_place p qs)) ≡ length qs
length-without_place p [] d h = elim h [ ]
length-without_place p (q ∷ qs) d (inl e) =
    rw (eq-eqb q p (sym e)) (ap (λ ks. suc (length ks)) (without_place-absent p qs (λ h. d.0 (subst (λ k. k ∈ qs) e h))))
length-without_place p (q ∷ qs) d (inr h) =
    rw (ne_eqb q p (λ e. d.0 (subst (λ k. k ∈ qs) (sym e) h))) (ap suc (length-without_place p qs d.1 h))

module _ (A B : List Fact) (start : List (Val × Val)) where
  -- each place that is left comes
  ∈-plan_from : (n : ℕ) (listed : List Fact) (left : List ℕ) → n ≡ length left → IsDistinct left → (p : ℕ) → p ∈ left → p ∈ plan_from A B start n listed left
  ∈-plan_from zero listed [] e d p h = h
  ∈-plan_from zero listed (q ∷ left) e d p h = absurd (omega arith)
  ∈-plan_from (suc n) listed [] e d p h = h
  ∈-plan_from (suc n) listed (x ∷ xs) e d p h =
      let q = lightest (weight_at A B start listed) x xs in
      let l = length-without_place q (x ∷ xs) d (∈-lightest (weight_at A B start listed) x xs) in
      elim (cases_eq p q) [
        | inl s ↦ inl s
        | inr s ↦ inr (∈-plan_from n (listed ++ facts_at A (q ∷ [])) (without_place q (x ∷ xs)) (omega arith) (IsDistinct-filter (λ k. cond (k == q) false true) (x ∷ xs) d) p (∈-without_place q p (x ∷ xs) s h))
      ]

  -- what comes was left
  ∈-plan_from_from : (n : ℕ) (listed : List Fact) (left : List ℕ) (p : ℕ) → p ∈ plan_from A B start n listed left → p ∈ left
  ∈-plan_from_from zero listed left p h = elim h [ ]
  ∈-plan_from_from (suc n) listed [] p h = h
  ∈-plan_from_from (suc n) listed (x ∷ xs) p (inl e) =
      subst (λ k. k ∈ (x ∷ xs)) (sym e) (∈-lightest (weight_at A B start listed) x xs)
  ∈-plan_from_from (suc n) listed (x ∷ xs) p (inr h) =
      let q = lightest (weight_at A B start listed) x xs in
      (∈-without_place_from q p (x ∷ xs) (∈-plan_from_from n (listed ++ facts_at A (q ∷ [])) (without_place q (x ∷ xs)) p h)).0

  -- each place comes once
  IsDistinct-plan_from : (n : ℕ) (listed : List Fact) (left : List ℕ) → IsDistinct (plan_from A B start n listed left)
  IsDistinct-plan_from zero listed left = tt
  IsDistinct-plan_from (suc n) listed [] = tt
  IsDistinct-plan_from (suc n) listed (x ∷ xs) =
      let q = lightest (weight_at A B start listed) x xs in
      let more = listed ++ facts_at A (q ∷ []) in
      (λ h. (∈-without_place_from q q (x ∷ xs) (∈-plan_from_from n more (without_place q (x ∷ xs)) q h)).1 refl, IsDistinct-plan_from n more (without_place q (x ∷ xs)))

  -- as many come as are left
  length-plan_from : (n : ℕ) (listed : List Fact) (left : List ℕ) → n ≡ length left → IsDistinct left → length (plan_from A B start n listed left) ≡ n
  length-plan_from zero listed left e d = refl
  length-plan_from (suc n) listed [] e d = absurd (omega arith)
  length-plan_from (suc n) listed (x ∷ xs) e d =
      let q = lightest (weight_at A B start listed) x xs in
      let l = length-without_place q (x ∷ xs) d (∈-lightest (weight_at A B start listed) x xs) in
      ap suc (length-plan_from n (listed ++ facts_at A (q ∷ [])) (without_place q (x ∷ xs)) (omega arith) (IsDistinct-filter (λ k. cond (k == q) false true) (x ∷ xs) d))

  all-distinct : IsDistinct (places (λ (f : Fact). true) 0 A)
  all-distinct = AllLater-distinct (λ p q. p < q) (places (λ (f : Fact). true) 0 A) (λ p l. absurd (omega arith)) (places-ascending (λ (f : Fact). true) 0 A)

  all-length : length A ≡ length (places (λ (f : Fact). true) 0 A)
  all-length = sym (length-places (λ (f : Fact). true) 0 A (λ f i. refl))

  -- no place is planned twice
  pub IsDistinct-plan : IsDistinct (plan A B start)
  IsDistinct-plan = IsDistinct-plan_from (length A) [] (places (λ f. true) 0 A)

  -- as many places are planned as A has facts
  pub length-plan : length (plan A B start) ≡ length A
  length-plan = length-plan_from (length A) [] (places (λ f. true) 0 A) all-length all-distinct

  -- each place of A is planned
  pub ∈-plan : (p : ℕ) (f : Fact) → slice_get A p ≡ Some f → p ∈ plan A B start
  ∈-plan p f e =
      let q : 0 + p ≡ p = omega arith in
      ∈-plan_from (length A) [] (places (λ f. true) 0 A) all-length all-distinct p (subst (λ k. k ∈ places (λ (f : Fact). true) 0 A) q (∈-places (λ f. true) 0 p f A e refl))

  -- at each planned place stands a fact of A
  pub plan-there : (p : ℕ) → p ∈ plan A B start → (f : Fact) × (slice_get A p ≡ Some f)
  plan-there p h =
      let r = ∈-places_from (λ (f : Fact). true) 0 p A (∈-plan_from_from (length A) [] (places (λ f. true) 0 A) p h) in
      let q : p ≡ r.0 = let e = r.2 in omega arith in
      (r.1, ap (slice_get A) q ∙ r.3)

  -- what is planned is a place of A
  pub plan-below : (p : ℕ) → p ∈ plan A B start → p < length A
  plan-below p h = let r = plan-there p h in slice_get_within A p r.0 r.1

  -- each fact of A is planned
  pub ∈-planned : (f : Fact) → f ∈ A → f ∈ planned A B start
  ∈-planned f h = let r = ∈-slice_get f A h in ∈-filter_map (slice_get A) r.0 f (plan A B start) (∈-plan r.0 f r.1) r.1

  -- what is planned is a fact of A
  pub ∈-planned_from : (f : Fact) → f ∈ planned A B start → f ∈ A
  ∈-planned_from f h = let r = ∈-filter_map_from (slice_get A) f (plan A B start) h in ∈-slice_get_from f A r.0 r.2

  -- as many facts are planned as A has
  pub length-planned : length (planned A B start) ≡ length A
  length-planned = length-filter_map (slice_get A) (plan A B start) plan-there ∙ length-plan

  -- the facts that are listed first are the first planned ones
  pub listed_first-planned : (k : ℕ) → listed_first A B start k ≡ take k (planned A B start)
  listed_first-planned k = take-filter_map (slice_get A) k (plan A B start) plan-there

  tried-within : (listed : List Fact) (o : Option (List (Val × Val))) (f : Fact) (p : ℕ) → p ∈ tried_after A B start listed o f → (g : Fact) × (slice_get B p ≡ Some g)
  tried-within listed None f p h = elim h [ ]
  tried-within listed (Some m) f p h =
      let r = ∈-places_from (is_tried A B start listed m f) 0 p B h in
      let q : p ≡ r.0 = let e = r.2 in omega arith in
      (r.1, ap (slice_get B) q ∙ r.3)

  tried-ascending : (listed : List Fact) (o : Option (List (Val × Val))) (f : Fact) → AllLater (λ p q. p < q) (tried_after A B start listed o f)
  tried-ascending listed None f = tt
  tried-ascending listed (Some m) f = places-ascending (is_tried A B start listed m f) 0 B

  -- candidates are places of B
  pub candidates-within : (placed : List ℕ) (f : Fact) (p : ℕ) → p ∈ candidates A B start placed f → (g : Fact) × (slice_get B p ≡ Some g)
  candidates-within placed f p h =
      let listed = listed_first A B start (length placed) in tried-within listed (bind_facts start listed (facts_at B placed)) f p h

  -- candidates ascend
  pub candidates-ascending : (placed : List ℕ) (f : Fact) → AllLater (λ p q. p < q) (candidates A B start placed f)
  candidates-ascending placed f =
      let listed = listed_first A B start (length placed) in tried-ascending listed (bind_facts start listed (facts_at B placed)) f

  module _ (g : Val → Val) (mo : IsMorphism g A B) where
    -- each value's profile is within that of its image
    fits-images : (vs : List Val) → fits_profiles A B vs (map g vs) ≡ true
    fits-images [] = refl
    fits-images (v ∷ vs) = and_from (is_within (profile A v) (profile B (g v))) (fits_profiles A B vs (map g vs)) (IsMorphism-profile g A B v mo) (fits-images vs)

    -- a map that sends known values where g does meets the images at the first known column
    meets-images : (known : Val → Bool) (to : Val → Val) (vs : List Val) → ((v : Val) → known v ≡ true → to v ≡ g v) → meets_first known to vs (map g vs) ≡ true
    meets-images known to [] same = refl
    meets-images known to (v ∷ vs) same = elim (cases_Bool (known v)) [ inl t ↦ rw t ((val_eq-decides (to v) (g v)).1 (same v t)) | inr t ↦ rw t (meets-images known to vs same) ]

  -- where a map that g follows is over start and sends the listed facts as g does, it sends known values as g does
  known-image : (g : Val → Val) (listed : List Fact) (m : List (Val × Val)) → Follows g m → KeepsFixed m → ((k : ℕ) → g (Fixed k) ≡ Fixed k) →
      ((v w : Val) → get start v ≡ Some w → get m v ≡ Some w) → FactsBind m listed (map (fact_image g) listed) → (v : Val) → is_known start listed v ≡ true → image m v ≡ g v
  known-image g listed m follows keeps fixed over binds v t = elim (or_cases (is_fixed v) (is_some (get start v) || list_any (λ f. list_any (val_eq v) f.args) listed) t) [
    | inl s ↦ at_fixed v s
    | inr s ↦ elim (or_cases (is_some (get start v)) (list_any (λ f. list_any (val_eq v) f.args) listed) s) [ inl r ↦ at_start (get start v) refl r | inr r ↦ at_listed listed binds r ]
  ]
    where
      at_fixed : (v : Val) → is_fixed v ≡ true → image m v ≡ g v
      at_fixed (Const c) s = absurd (false≢true s)
      at_fixed (Fixed k) s = keeps k ∙ sym (fixed k)
      at_fixed (Null k) s = absurd (false≢true s)

      at_start : (o : Option Val) → get start v ≡ o → is_some o ≡ true → image m v ≡ g v
      at_start None e s = absurd (false≢true s)
      at_start (Some w) e s = let k = over v w e in ap (λ o. unwrap_or o v) k ∙ sym (follows v w k)

      at_listed : (fs : List Fact) → FactsBind m fs (map (fact_image g) fs) → list_any (λ f. list_any (val_eq v) f.args) fs ≡ true → image m v ≡ g v
      at_listed [] b s = absurd (false≢true s)
      at_listed (f ∷ fs) b s = elim (or_cases (list_any (val_eq v) f.args) (list_any (λ f. list_any (val_eq v) f.args) fs) s) [
        | inl r ↦ map-agree_from (image m) g v f.args (AllBind-image m f.args (map g f.args) keeps (b.0).1) (∈-list_any_from val_eq val_eq-decides v f.args r)
        | inr r ↦ at_listed fs b.1 r
      ]

  -- where the first planned facts went as a homomorphism that follows start sends them, the place of the next fact's
  -- image is a candidate
  pub candidates-complete : (g : Val → Val) → IsMorphism g A B → Follows g start → (placed : List ℕ) →
      facts_at B placed ≡ map (fact_image g) (take (length placed) (planned A B start)) → (f : Fact) → slice_get (planned A B start) (length placed) ≡ Some f →
      (p : ℕ) → slice_get B p ≡ Some (fact_image g f) → p ∈ candidates A B start placed f
  candidates-complete g mo follows placed so_far f next p at =
      let k = length placed in
      let listed = listed_first A B start k in
      let images : facts_at B placed ≡ map (fact_image g) listed = so_far ∙ ap (map (fact_image g)) (sym (listed_first-planned k)) in
      let first : take k listed ≡ listed = ap (take k) (listed_first-planned k) ∙ take-take k k (planned A B start) (omega arith) ∙ sym (listed_first-planned k) in
      let bound = bind_facts-complete g mo.fixed start listed k follows in
      let m = bound.0 in
      let same : bind_facts start listed (facts_at B placed) ≡ Some m = ap (bind_facts start listed) (images ∙ ap (map (fact_image g)) (sym first)) ∙ bound.1 in
      let sound = bind_facts-sound start m listed (facts_at B placed) same in
      let binds : FactsBind m listed (map (fact_image g) listed) = subst (λ fs. FactsBind m listed fs) images sound.1 in
      let known = known-image g listed m bound.2 (Follows-keeps g m mo.fixed bound.2) mo.fixed (sound.0).over binds in
      let q : 0 + p ≡ p = omega arith in
      let meets = meets-images g mo (is_known start listed) (image m) f.args known in
      let tried : is_tried A B start listed m f (fact_image g f) ≡ true =
      and_from (f.rel == f.rel) (meets_first (is_known start listed) (image m) f.args (map g f.args) && fits_profiles A B f.args (map g f.args)) (eq-eqb f.rel f.rel refl)
      (and_from (meets_first (is_known start listed) (image m) f.args (map g f.args)) (fits_profiles A B f.args (map g f.args)) meets (fits-images g mo f.args)) in
      subst (λ o. p ∈ tried_after A B start listed o f) (sym same)
      (subst (λ j. j ∈ places (is_tried A B start listed m f) 0 B) q (∈-places (is_tried A B start listed m f) 0 p (fact_image g f) B at tried))

-- two starts that name the same values of A have the same plan
module _ (A B : List Fact) (start other : List (Val × Val)) (named : (v : Val) → v ∈ values A → is_some (get start v) ≡ is_some (get other v)) where
  weight_of-agree : (listed : List Fact) (f : Fact) → f ∈ A → weight_of B start listed f ≡ weight_of B other listed f
  weight_of-agree listed f h = ap (λ vs. weight (length f.args) (length vs) (count_of f.rel B)) (filter-agree (is_known start listed) (is_known other listed) f.args
      (λ v i. ap (λ b. is_fixed v || (b || list_any (λ e. list_any (val_eq v) e.args) listed)) (named v (∈-values v f A h i))))

  weight_at-agree : (listed : List Fact) (p : ℕ) → weight_at A B start listed p ≡ weight_at A B other listed p
  weight_at-agree listed p = by (slice_get A p) refl
    where
      by : (o : Option Fact) → slice_get A p ≡ o → unwrap_or (option_map (weight_of B start listed) o) 0 ≡ unwrap_or (option_map (weight_of B other listed) o) 0
      by None e = refl
      by (Some f) e = weight_of-agree listed f (∈-slice_get_from f A p e)

  plan_from-agree : (n : ℕ) (listed : List Fact) (left : List ℕ) → plan_from A B start n listed left ≡ plan_from A B other n listed left
  plan_from-agree zero listed left = refl
  plan_from-agree (suc n) listed [] = refl
  plan_from-agree (suc n) listed (p ∷ ps) =
      let q = lightest (weight_at A B other listed) p ps in
      let same = lightest-agree (weight_at A B start listed) (weight_at A B other listed) p ps (weight_at-agree listed) in
      ap (λ k. k ∷ plan_from A B start n (listed ++ facts_at A (k ∷ [])) (without_place k (p ∷ ps))) same
      ∙ ap (λ ks. q ∷ ks) (plan_from-agree n (listed ++ facts_at A (q ∷ [])) (without_place q (p ∷ ps)))

  pub plan-agree : plan A B start ≡ plan A B other
  plan-agree = plan_from-agree (length A) [] (places (λ f. true) 0 A)

  pub planned-agree : planned A B start ≡ planned A B other
  planned-agree = ap (facts_at A) plan-agree
