-- The list of all homomorphisms that agree with a start map. The point is `homs-all`: the list is sound, complete and in
-- order. `AreAllHoms-unique` says that no other list is, `homs-distinct` that each homomorphism stands once, and
-- `homs-complete` is completeness for a total function.
--   IsPlaced k ps    == ps are k places of B
--   Comes ps h       == h comes from the places ps of B, by the least map over start
use Rattle.std.proofs.Common.{◌≡◌, ℕ, zero, suc, ◌<◌, ◌≤◌, inl, inr, true, List, [], ◌∷◌, ◌++◌, map, length, take, Option, Some, None, is_some, option_map, unwrap_or, slice_get, refl, sym, ◌∙◌, ap, ap₂, subst, arith, length-append}
use Rattle.std.proofs.lemmas.Option.{same_Some, none-some}
use Rattle.std.proofs.lemmas.List.Elements.{filter_map-append}
use Rattle.std.proofs.lemmas.List.{map-append, take_all}
use Rattle.eir_term.specs.declared.val.Val.{Val}
use Rattle.eir_term.specs.declared.val.Val.TheVariants.{Fixed}
use Rattle.eir_term.specs.declared.fact.Fact.{Fact}
use Rattle.eir_term.specs.Lists.{◌∈◌, IsDistinct, place_of}
use Rattle.eir_term.specs.Facts.{fact_eq, fact_eq-decides}
use Rattle.eir_term.specs.Instances.{values}
use Rattle.eir_term.specs.Maps.{domain_of, get, image, graph, fact_image}
use Rattle.eir_term.specs.Homs.{IsMorphism, Hom}
use Rattle.eir_term.specs.Bind.{bind_facts, facts_at}
use Rattle.eir_term.specs.Search.{planned, map_of, tried_for, next_places, longer, partials, homs, image_places}
use Rattle.eir_term.specs.Order.{AllLater, IsBefore, KeepsFixed, AgreesWith, AreAllHoms}
use Rattle.eir_term.proofs.ListLaws.{∈-append_cases, ∈-filter, ∈-filter_from, ∈-map, ∈-map_from, ∈-flat_map, ∈-flat_map_from}
use Rattle.eir_term.proofs.MapLaws.{get-domain_of, ∈-domain_of, graph-domain_of}
use Rattle.eir_term.proofs.HomLaws.{map-agree, map-agree_from, ∈-values, ∈-values_from, Hom-graph, IsMorphism-agree, image-graph, domain_of-graph, fact_image-agree}
use Rattle.eir_term.proofs.OrderLaws.{AllLater-filter, AllLater-distinct, AllLater-unique, AllLater-map, AllLater-flat_map, ∈-filter_map, ∈-filter_map_from, AllLater-filter_map, length-filter_map, IsBefore-irrefl, IsBefore-apart, IsBefore-append, IsBefore-last, ∈-slice_get, ∈-slice_get_from, slice_get-below, take-slice_get, place_of-slice_get}
use Rattle.eir_term.proofs.BindLaws.{Follows, Follows-keeps, Grows, FactsBind, AllBind-image, FactBinds-image, FactsBind-some, FactsBind-map, bind_facts-sound, bind_facts-complete}
use Rattle.eir_term.proofs.PlanLaws.{∈-planned, ∈-planned_from, length-planned, candidates-within, candidates-ascending, candidates-complete}

-- what a function makes of an option comes from what the option has
pub option_map-is : {X Y : Type 0} (f : X → Y) (o : Option X) (y : Y) → option_map f o ≡ Some y → (x : X) × (o ≡ Some x) × (f x ≡ y)
option_map-is f None y e = absurd (none-some y e)
option_map-is f (Some x) y e = (x, refl, same_Some (f x) y e)

-- places of B have as many facts
pub length-facts_at : (B : List Fact) (ps : List ℕ) → ((p : ℕ) → p ∈ ps → (g : Fact) × (slice_get B p ≡ Some g)) → length (facts_at B ps) ≡ length ps
length-facts_at B ps there = length-filter_map (slice_get B) ps there

-- facts at places of B are facts of B
∈-facts_at_from : (B : List Fact) (ps : List ℕ) (g : Fact) → g ∈ facts_at B ps → g ∈ B
∈-facts_at_from B ps g h = let r = ∈-filter_map_from (slice_get B) g ps h in ∈-slice_get_from g B r.0 r.2

-- where a map sends facts to those at places of B without repeats, these are the places of their images
images-places : (B : List Fact) (F : Fact → Fact) (m : List (Val × Val)) (fs : List Fact) (ps : List ℕ) → IsDistinct B → KeepsFixed m → length ps ≡ length fs →
    ((p : ℕ) → p ∈ ps → (g : Fact) × (slice_get B p ≡ Some g)) → FactsBind m fs (facts_at B ps) → ((f : Fact) → f ∈ fs → F f ≡ fact_image (image m) f) → map (λ f. place_of fact_eq (F f) B) fs ≡ ps
images-places B F m [] [] d keeps l there b e = refl
images-places B F m [] (p ∷ ps) d keeps l there b e = absurd (omega arith)
images-places B F m (f ∷ fs) [] d keeps l there b e = absurd (omega arith)
images-places B F m (f ∷ fs) (p ∷ ps) d keeps l there b e =
    let r = there p (inl refl) in
    let whole : FactsBind m (f ∷ fs) (r.0 ∷ facts_at B ps) = rw r.1 at b in
    ap₂ (λ q qs. q ∷ qs) (ap (λ x. place_of fact_eq x B) (e f (inl refl) ∙ FactBinds-image m f r.0 keeps whole.0) ∙ place_of-slice_get fact_eq fact_eq-decides r.0 B p d r.1)
    (images-places B F m fs ps d keeps (omega arith) (λ q i. there q (inr i)) whole.1 (λ g i. e g (inr i)))

module _ (A B : List Fact) (start : List (Val × Val)) where
  -- ps are k places of B
  pub record IsPlaced (k : ℕ) (ps : List ℕ) : Type 0 where
    pub long : length ps ≡ k
    pub there : (p : ℕ) → p ∈ ps → (g : Fact) × (slice_get B p ≡ Some g)

  -- the homomorphism at a whole match, if there is one
  abbrev listed : List ℕ → Option (List (Val × Val))
  listed ps = option_map (λ m. graph (image m) (values A)) (map_of A B start ps)

  tried-within : (ps : List ℕ) (o : Option Fact) (p : ℕ) → p ∈ tried_for A B start ps o → (g : Fact) × (slice_get B p ≡ Some g)
  tried-within ps None p h = elim h [ ]
  tried-within ps (Some f) p h = candidates-within A B start ps f p h

  -- a longer match has one place of B more
  longer-from : (ps us : List ℕ) → us ∈ longer A B start ps → (p : ℕ) × (us ≡ ps ++ p ∷ []) × ((g : Fact) × (slice_get B p ≡ Some g))
  longer-from ps us h =
      let a = ∈-filter_from (λ qs. is_some (map_of A B start qs)) us (map (λ p. ps ++ p ∷ []) (next_places A B start ps)) h in
      let b = ∈-map_from (λ p. ps ++ p ∷ []) us (next_places A B start ps) a.0 in
      (b.0, b.2, tried-within ps (slice_get (planned A B start) (length ps)) b.0 b.1)

  -- partial matches of k facts are k places of B
  pub partials-placed : (k : ℕ) (ps : List ℕ) → ps ∈ partials A B start k → IsPlaced k ps
  partials-placed zero ps (inl e) = subst (λ qs. IsPlaced 0 qs) (sym e) (record { long = refl; there = λ p h. absurd h })
  partials-placed zero ps (inr h) = elim h [ ]
  partials-placed (suc k) us h =
      let r = ∈-flat_map_from (longer A B start) us (partials A B start k) h in
      let q = longer-from r.0 us r.2 in
      let before = partials-placed k r.0 r.1 in
      subst (λ qs. IsPlaced (suc k) qs) (sym q.1) (record {
        long = let l = length-append r.0 (q.0 ∷ []) in let l' = before.long in omega arith;
        there = λ p i. elim (∈-append_cases p r.0 (q.0 ∷ []) i) [
          | inl j ↦ before.there p j
          | inr j ↦ elim j [ inl e ↦ subst (λ u. (g : Fact) × (slice_get B u ≡ Some g)) (sym e) q.2 | inr j ↦ absurd j ]
        ];
      })

  -- h comes from the places ps of B, by the least map over start that sends the planned facts there
  pub record Comes (ps : List ℕ) (h : List (Val × Val)) : Type 0 where
    pub least : List (Val × Val)
    pub is : graph (image least) (values A) ≡ h
    pub grows : Grows start least
    pub binds : FactsBind least (planned A B start) (facts_at B ps)
    pub long : length ps ≡ length (planned A B start)
    pub there : (p : ℕ) → p ∈ ps → (g : Fact) × (slice_get B p ≡ Some g)

  listed-comes : (ps : List ℕ) (h : List (Val × Val)) → ps ∈ partials A B start (length A) → listed ps ≡ Some h → Comes ps h
  listed-comes ps h i e =
      let r = option_map-is (λ m. graph (image m) (values A)) (map_of A B start ps) h e in
      let b = bind_facts-sound start r.0 (planned A B start) (facts_at B ps) r.1 in
      let placed = partials-placed (length A) ps i in record {
        least = r.0;
        is = r.2;
        grows = b.0;
        binds = b.1;
        long = placed.long ∙ sym (length-planned A B start);
        there = placed.there;
      }

  -- what the least map does is a homomorphism
  Comes-morphism : (ps : List ℕ) (h : List (Val × Val)) → KeepsFixed start → (c : Comes ps h) → IsMorphism (image c.least) A B
  Comes-morphism ps h keeps c = record {
    sends = λ f j.
        let same = length-facts_at B ps c.there ∙ c.long in
        let x = FactsBind-some c.least f (planned A B start) (facts_at B ps) same c.binds (∈-planned A B start f j) in
        let e = FactBinds-image c.least f x.0 ((c.grows).keeps keeps) x.2 in
        subst (λ y. y ∈ B) (sym e) (∈-facts_at_from B ps x.0 x.1);
    fixed = (c.grows).keeps keeps;
  }

  -- what is listed is a homomorphism on the values of A that agrees with start
  pub homs-sound : (h : List (Val × Val)) → KeepsFixed start → h ∈ homs A B start → Hom h A B × (domain_of h ≡ values A) × AgreesWith start A h
  homs-sound h keeps i =
      let r = ∈-filter_map_from listed h (partials A B start (length A)) i in
      let c = listed-comes r.0 h r.1 r.2 in
      let m = c.least in
      subst (λ x. Hom x A B × (domain_of x ≡ values A) × AgreesWith start A x) c.is (
        Hom-graph (image m) A B (Comes-morphism r.0 h keeps c),
        domain_of-graph (image m) (values A),
        λ v j k.
            let w = get-domain_of start v k in
            image-graph (image m) v (values A) j ∙ ap (λ o. unwrap_or o v) ((c.grows).over v w.0 w.1) ∙ sym (ap (λ o. unwrap_or o v) w.1),
      )

  module _ (g : Val → Val) (mo : IsMorphism g A B) (follows : Follows g start) where
    -- a partial match of k facts sends them as g does
    found : (k : ℕ) → k ≤ length A → (ps : List ℕ) × (ps ∈ partials A B start k) × (length ps ≡ k) × (facts_at B ps ≡ map (fact_image g) (take k (planned A B start)))
    found zero l = ([], inl refl, refl, refl)
    found (suc k) l =
        let before = found k (omega arith) in
        let ps = before.0 in
        let n = length-planned A B start in
        let next = slice_get-below (planned A B start) k (omega arith) in
        let f = next.0 in
        let to = ∈-slice_get (fact_image g f) B (mo.sends f (∈-planned_from A B start f (∈-slice_get_from f (planned A B start) k next.1))) in
        let p = to.0 in
        let here : slice_get (planned A B start) (length ps) ≡ Some f = ap (slice_get (planned A B start)) before.2 ∙ next.1 in
        let so_far : facts_at B ps ≡ map (fact_image g) (take (length ps) (planned A B start)) = before.3 ∙ ap (λ j. map (fact_image g) (take j (planned A B start))) (sym before.2) in
        let tried : p ∈ next_places A B start ps = subst (λ o. p ∈ tried_for A B start ps o) (sym here) (candidates-complete A B start g mo follows ps so_far f here p to.1) in
        let one : facts_at B (p ∷ []) ≡ fact_image g f ∷ [] = rw to.1 in
        let images : facts_at B (ps ++ p ∷ []) ≡ map (fact_image g) (take (suc k) (planned A B start)) =
        filter_map-append (slice_get B) ps (p ∷ []) ∙ ap₂ (λ xs ys. xs ++ ys) before.3 one
        ∙ sym (map-append (fact_image g) (take k (planned A B start)) (f ∷ [])) ∙ ap (map (fact_image g)) (sym (take-slice_get (planned A B start) k f next.1)) in
        let bound = bind_facts-complete g mo.fixed start (planned A B start) (suc k) follows in
        let good : is_some (map_of A B start (ps ++ p ∷ [])) ≡ true = ap (λ gs. is_some (bind_facts start (planned A B start) gs)) images ∙ ap is_some bound.1 in (
          ps ++ p ∷ [],
          ∈-flat_map (longer A B start) ps (ps ++ p ∷ []) (partials A B start k) before.1
              (∈-filter (λ us. is_some (map_of A B start us)) (ps ++ p ∷ []) (map (λ u. ps ++ u ∷ []) (next_places A B start ps)) good (∈-map (λ u. ps ++ u ∷ []) p (next_places A B start ps) tried)),
          (let e = length-append ps (p ∷ []) in let e' = before.2 in omega arith),
          images,
        )

    -- each function that is a homomorphism and follows start is listed, by its pairs on the values of A
    pub homs-complete : graph g (values A) ∈ homs A B start
    homs-complete =
        let r = found (length A) (omega arith) in
        let n = length-planned A B start in
        let all : take (length A) (planned A B start) ≡ planned A B start = take_all (length A) (planned A B start) (omega arith) in
        let bound = bind_facts-complete g mo.fixed start (planned A B start) (length A) follows in
        let m = bound.0 in
        let same : map_of A B start r.0 ≡ Some m = ap (bind_facts start (planned A B start)) r.3 ∙ bound.1 in
        let sound = bind_facts-sound start m (planned A B start) (map (fact_image g) (take (length A) (planned A B start))) bound.1 in
        let binds : FactsBind m (planned A B start) (map (fact_image g) (planned A B start)) = subst (λ fs. FactsBind m (planned A B start) (map (fact_image g) fs)) all sound.1 in
        let still = (sound.0).keeps (Follows-keeps g start mo.fixed follows) in
        let agree : (v : Val) → v ∈ values A → image m v ≡ g v = λ v i.
        let at = ∈-values_from v A i in
        map-agree_from (image m) g v (at.0).args (AllBind-image m (at.0).args (map g (at.0).args) still (FactsBind-map m (fact_image g) at.0 (planned A B start) binds (∈-planned A B start at.0 at.1)).1) at.2 in
        ∈-filter_map listed r.0 (graph g (values A)) (partials A B start (length A)) r.1
        (ap (option_map (λ m. graph (image m) (values A))) same ∙ ap Some (map-agree (λ v. (v, image m v)) (λ v. (v, g v)) (values A) (λ v i. ap (λ w. (v, w)) (agree v i))))

  -- what lengthens a match stands in order
  longer-ascending : (ps : List ℕ) → AllLater IsBefore (longer A B start ps)
  longer-ascending ps = AllLater-filter IsBefore (λ us. is_some (map_of A B start us)) (map (λ p. ps ++ p ∷ []) (next_places A B start ps))
      (AllLater-map (λ p q. p < q) IsBefore (λ p. ps ++ p ∷ []) (next_places A B start ps) (λ p q l. IsBefore-last ps p q l) (by (slice_get (planned A B start) (length ps))))
    where
      by : (o : Option Fact) → AllLater (λ p q. p < q) (tried_for A B start ps o)
      by None = tt
      by (Some f) = candidates-ascending A B start ps f

  -- partial matches stand in order
  pub partials-ascending : (k : ℕ) → AllLater IsBefore (partials A B start k)
  partials-ascending zero = (λ ps h. absurd h, tt)
  partials-ascending (suc k) = AllLater-flat_map IsBefore IsBefore (longer A B start) (partials A B start k) (partials-ascending k) (λ ps i. longer-ascending ps)
      (λ ps qs i j before us vs a b.
      let u = longer-from ps us a in
      let v = longer-from qs vs b in
      let same : length ps ≡ length qs = (partials-placed k ps i).long ∙ sym (partials-placed k qs j).long in
      subst (λ x. IsBefore x vs) (sym u.1) (subst (λ x. IsBefore (ps ++ u.0 ∷ []) x) (sym v.1) (IsBefore-append ps qs (u.0 ∷ []) (v.0 ∷ []) same before)))

  -- what comes from places of B sends the planned facts there
  Comes-places : (ps : List ℕ) (h : List (Val × Val)) → IsDistinct B → KeepsFixed start → Comes ps h → image_places A B start h ≡ ps
  Comes-places ps h d keeps c =
      images-places B (fact_image (image h)) c.least (planned A B start) ps d ((c.grows).keeps keeps) c.long c.there c.binds
      (λ f j. fact_image-agree (image h) (image c.least) f
      (λ v k. ap (λ x. image x v) (sym c.is) ∙ image-graph (image c.least) v (values A) (∈-values v f A (∈-planned_from A B start f j) k)))

  -- the list is in the order of the places of images
  pub homs-ascending : IsDistinct B → KeepsFixed start → AllLater (λ h k. IsBefore (image_places A B start h) (image_places A B start k)) (homs A B start)
  homs-ascending d keeps =
      AllLater-filter_map listed IsBefore (λ h k. IsBefore (image_places A B start h) (image_places A B start k)) (partials A B start (length A)) (partials-ascending (length A))
      (λ ps qs h k i j before a b. subst (λ x. IsBefore x (image_places A B start k)) (sym (Comes-places ps h d keeps (listed-comes ps h i a)))
      (subst (λ x. IsBefore ps x) (sym (Comes-places qs k d keeps (listed-comes qs k j b))) before))

  -- each homomorphism stands once
  pub homs-distinct : IsDistinct B → KeepsFixed start → IsDistinct (homs A B start)
  homs-distinct d keeps = AllLater-distinct (λ h k. IsBefore (image_places A B start h) (image_places A B start k)) (homs A B start)
      (λ h. IsBefore-irrefl (image_places A B start h)) (homs-ascending d keeps)

  -- each homomorphism on the values of A that agrees with start is listed
  pub homs-complete_map : (h : List (Val × Val)) → KeepsFixed start → Hom h A B → domain_of h ≡ values A → AgreesWith start A h → h ∈ homs A B start
  homs-complete_map h keeps hom named agrees =
      let mo : IsMorphism g A B = IsMorphism-agree (image h) g A B (λ v i. sym (on v (hom.total v i))) fixed hom.morphism in
      let same : graph g (values A) ≡ h = ap (graph g) (sym named) ∙ graph-domain_of g h hom.single (λ v w e. ap (λ o. unwrap_or o (image start v)) e) in
      subst (λ x. x ∈ homs A B start) same (homs-complete g mo (λ v w e. follows v w (get h v) refl e))
    where
      -- what h does, and elsewhere what start does
      g : Val → Val
      g v = unwrap_or (get h v) (image start v)

      on : (v : Val) → v ∈ domain_of h → g v ≡ image h v
      on v i = let w = get-domain_of h v i in ap (λ o. unwrap_or o (image start v)) w.1 ∙ sym (ap (λ o. unwrap_or o v) w.1)

      fixed : (n : ℕ) → g (Fixed n) ≡ Fixed n
      fixed n = by (get h (Fixed n)) (hom.morphism.fixed n)
        where
          by : (o : Option Val) → unwrap_or o (Fixed n) ≡ Fixed n → unwrap_or o (image start (Fixed n)) ≡ Fixed n
          by None e = keeps n
          by (Some w) e = e

      follows : (v w : Val) (o : Option Val) → get h v ≡ o → get start v ≡ Some w → g v ≡ w
      follows v w None none e = ap (λ o. unwrap_or o (image start v)) none ∙ ap (λ o. unwrap_or o v) e
      follows v w (Some x) some e =
          let i = ∈-domain_of h v x some in
          on v i ∙ agrees v (subst (λ vs. v ∈ vs) named i) (∈-domain_of start v w e) ∙ ap (λ o. unwrap_or o v) e

-- the list is all homomorphisms in order, where B has no repeats and start moves no fixed constant
pub homs-all : (A B : List Fact) (start : List (Val × Val)) → IsDistinct B → KeepsFixed start → AreAllHoms A B start (homs A B start)
homs-all A B start d keeps = record {
  sound = λ h i. homs-sound A B start h keeps i;
  complete = λ h hom named agrees. homs-complete_map A B start h keeps hom named agrees;
  ascending = homs-ascending A B start d keeps;
}

-- and no other list is
pub AreAllHoms-unique : (A B : List Fact) (start : List (Val × Val)) (hs ks : List (List (Val × Val))) → AreAllHoms A B start hs → AreAllHoms A B start ks → hs ≡ ks
AreAllHoms-unique A B start hs ks a b = AllLater-unique (λ h k. IsBefore (image_places A B start h) (image_places A B start k)) hs ks
    (λ h k. IsBefore-apart (image_places A B start h) (image_places A B start k)) a.ascending b.ascending
    (λ h i. let r = a.sound h i in b.complete h r.0 r.1 r.2) (λ h i. let r = b.sound h i in a.complete h r.0 r.1 r.2)
