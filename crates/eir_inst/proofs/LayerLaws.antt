-- An instance as its base, the marks and the added facts. The points are `more-own`: a fact is put into a base; `out-base` and
-- `out-added`: a fact is taken out; `IsLayered-more` and `IsLayered-taken`: what is true of the instance then; and the laws of
-- its reads.
use Rattle.std.proofs.Common.{◌≡◌, ◌↔◌, ℕ, zero, suc, ◌+◌, ◌-◌, ◌<◌, ◌≤◌, inl, inr, Bool, true, false, Result, Ok, Err, OnOk, List, [], ◌∷◌, ◌++◌, map, filter, length, set, remove, replicate, Option, Some, None, IsSome, is_some, IfSome, option_copied, ltb, get_or, Bor, slice_get, refl, sym, ◌∙◌, ap, ap₂, subst, arith, length-append, append-nil}
use Rattle.std.proofs.lemmas.Bool.{false≢true, ltb-true, ltb-false}
use Rattle.std.proofs.lemmas.Option.{none-some, slice_get_past, slice_get_within, slice_get-get_or}
use Rattle.std.proofs.lemmas.Slice.Zip.{AllZip-map}
use Rattle.std.specs.List.{AllZip}
use Rattle.eir_term.specs.declared.fact.Fact.{Fact}
use Rattle.eir_term.specs.Lists.{◌∈◌, IsDistinct, places, without}
use Rattle.eir_term.specs.Facts.{fact_eq, fact_eq-decides}
use Rattle.eir_term.proofs.ListLaws.{∈-append_left, ∈-append_right, ∈-append_cases, IsDistinct-push, IsDistinct-without}
use Rattle.eir_term.proofs.OrderLaws.{∈-slice_get_from}
use Rattle.eir_inst.specs.declared.instance.Base.{Base}
use Rattle.eir_inst.specs.declared.instance.Base.TheVariants.{Own}
use Rattle.eir_inst.specs.FactList.{FactList}
use Rattle.eir_inst.specs.Layers.{stays, staying, base_facts, layered, IsLayered}
use Rattle.eir_inst.proofs.WithoutLaws.{without-absent, without-append, remove-without, length-without, IsDistinct-front, IsDistinct-back, IsDistinct-apart}
use Rattle.eir_inst.proofs.WalkLaws.{filter-append, length-filter}
use Rattle.eir_inst.proofs.StayingLaws.{staying-more, staying-gone, staying-full, staying-all, length-staying, ∈-staying, counted-under, found-under}

-- a list of no length has nothing
pub nothing-of : {X : Type 0} (xs : List X) → length xs ≡ 0 → xs ≡ []
nothing-of [] n = refl
nothing-of (x ∷ xs) n = absurd (omega arith)

-- ---- a fact more

-- a fact that is put into a base, where none is added
pub more-own : {T E : Type 0} (r : Result T E) (old new : FactList) (base : Base) (gone marks : List Bool) (added : List Fact) (f : Fact) → base ≡ Own old → added ≡ [] → length gone ≡ length (base_facts base) →
    OnOk r (new.facts ≡ old.facts ++ f ∷ []) → OnOk r (marks ≡ gone ++ false ∷ []) → OnOk r (layered (Own new) marks added ≡ layered base gone added ++ f ∷ [])
more-own (Err e) old new base gone marks added f b a n g m = tt
more-own (Ok o) old new base gone marks added f b a n g m =
    let own : base_facts base ≡ old.facts = ap base_facts b in
    let grown : staying new.facts marks ≡ staying (base_facts base) gone ++ f ∷ [] =
    ap₂ staying g m ∙ staying-more old.facts gone f (n ∙ ap length own) ∙ ap (λ fs. staying fs gone ++ f ∷ []) (sym own) in
    ap₂ (λ fs gs. fs ++ gs) grown a ∙ append-nil (staying (base_facts base) gone ++ f ∷ []) ∙ ap (λ fs. fs ++ f ∷ []) (sym (ap (λ gs. staying (base_facts base) gone ++ gs) a ∙ append-nil (staying (base_facts base) gone)))

pub IsLayered-more : (base new : Base) (gone marks : List Bool) (added more : List Fact) (count limit : ℕ) (f : Fact) → IsLayered base gone added count limit → length marks ≡ length (base_facts new) → layered new marks more ≡ layered base gone added ++ f ∷ [] →
    (f ∈ layered base gone added → ⊥) → count < limit → IsLayered new marks more (count + 1) limit
IsLayered-more base new gone marks added more count limit f i n g a l =
    let c = i.counted in
    let e : length (layered new marks more) ≡ length (layered base gone added ++ f ∷ []) = ap length g in
    let s = length-append (layered base gone added) (f ∷ []) in
    record {
      marked = n;
      distinct = subst (λ fs. IsDistinct fs) (sym g) (IsDistinct-push (layered base gone added) f i.distinct a);
      counted = omega arith;
      within = omega arith;
    }

pub IsLayered-same : (base new : Base) (gone marks : List Bool) (added more : List Fact) (count limit : ℕ) → IsLayered base gone added count limit → length marks ≡ length (base_facts new) → layered new marks more ≡ layered base gone added → IsLayered new marks more count limit
IsLayered-same base new gone marks added more count limit i n g = record {
  marked = n;
  distinct = subst (λ fs. IsDistinct fs) (sym g) i.distinct;
  counted = i.counted ∙ ap length (sym g);
  within = i.within;
}

-- ---- a fact less

-- a fact of the base is marked as gone
pub out-base : (facts : List Fact) (gone : List Bool) (added : List Fact) (p : ℕ) (f : Fact) → length gone ≡ length facts → IsDistinct (staying facts gone ++ added) → slice_get facts p ≡ Some f → stays gone p ≡ true →
    staying facts (set gone p true) ++ added ≡ without fact_eq f (staying facts gone ++ added)
out-base facts gone added p f n d e t =
    let l = slice_get_within facts p f e in
    let left = staying-gone facts gone p f (omega arith) e t (IsDistinct-front (staying facts gone) added d) in
    let rest = without-absent f added (IsDistinct-apart f (staying facts gone) added d (∈-staying facts gone p f e t)) in
    ap₂ (λ fs gs. fs ++ gs) left (sym rest) ∙ sym (without-append f (staying facts gone) added)

-- an added one is taken from its place
pub out-added : (facts added : List Fact) (p : ℕ) (f : Fact) → IsDistinct (facts ++ added) → slice_get added p ≡ Some f → facts ++ remove added p ≡ without fact_eq f (facts ++ added)
out-added facts added p f d e =
    let left = without-absent f facts (λ h. IsDistinct-apart f facts added d h (∈-slice_get_from f added p e)) in
    let rest = remove-without f added p e (IsDistinct-back facts added d) in
    ap₂ (λ fs gs. fs ++ gs) (sym left) rest ∙ sym (without-append f facts added)

-- and none where the fact is in neither part
pub in-neither : (f : Fact) (facts added : List Fact) → (f ∈ facts → ⊥) → (f ∈ added → ⊥) → f ∈ (facts ++ added) → ⊥
in-neither f facts added a b h = elim (∈-append_cases f facts added h) [ inl k ↦ a k | inr k ↦ b k ]

pub IsLayered-taken : (base : Base) (gone marks : List Bool) (added less : List Fact) (count limit : ℕ) (f : Fact) → IsLayered base gone added count limit → length marks ≡ length gone → layered base marks less ≡ without fact_eq f (layered base gone added) →
    f ∈ layered base gone added → IsLayered base marks less (count - 1) limit
IsLayered-taken base gone marks added less count limit f i n g h =
    let c = i.counted in
    let w = i.within in
    let e : length (layered base marks less) ≡ length (without fact_eq f (layered base gone added)) = ap length g in
    let s = length-without f (layered base gone added) i.distinct h in
    record {
      marked = n ∙ i.marked;
      distinct = subst (λ fs. IsDistinct fs) (sym g) (IsDistinct-without fact_eq fact_eq-decides f (layered base gone added) i.distinct);
      counted = omega arith;
      within = omega arith;
    }

-- ---- reads

-- what an answer tells of membership, where it was found in the first part, or sought in the second
pub in-first : (f : Fact) (facts added seen : List Fact) (r : Option ℕ) (b : Bool) → facts ++ added ≡ seen → (IsSome r ↔ (f ∈ facts)) → b ≡ is_some r → b ≡ true → (b ≡ true) ↔ (f ∈ seen)
in-first f facts added seen r b s i e t = (λ _. subst (λ fs. f ∈ fs) s (∈-append_left f facts added (i.0 (sym e ∙ t))), λ _. t)

pub in-second : (f : Fact) (facts added seen : List Fact) (r q : Option ℕ) (b c : Bool) → facts ++ added ≡ seen → (IsSome r ↔ (f ∈ facts)) → b ≡ is_some r → b ≡ false → (IsSome q ↔ (f ∈ added)) → c ≡ is_some q → (c ≡ true) ↔ (f ∈ seen)
in-second f facts added seen r q b c s i e t j g = (
  λ h. subst (λ fs. f ∈ fs) s (∈-append_right f facts added (j.0 (sym g ∙ h))),
  λ h. elim (∈-append_cases f facts added (subst (λ fs. f ∈ fs) (sym s) h)) [
    | inl k ↦ absurd (false≢true (sym t ∙ e ∙ i.1 k))
    | inr k ↦ g ∙ j.1 k
  ],
)

-- an element of the first part, and of the second
pub slice_get-first : {X : Type 0} (xs ys : List X) (k : ℕ) → k < length xs → slice_get (xs ++ ys) k ≡ slice_get xs k
slice_get-first [] ys k l = absurd (omega arith)
slice_get-first (x ∷ xs) ys zero l = refl
slice_get-first (x ∷ xs) ys (suc k) l = slice_get-first xs ys k (omega arith)

pub slice_get-second : {X : Type 0} (xs ys : List X) (k : ℕ) → length xs ≤ k → slice_get (xs ++ ys) k ≡ slice_get ys (k - length xs)
slice_get-second [] ys k l = let c : k ≡ k - 0 = omega arith in ap (slice_get ys) c
slice_get-second (x ∷ xs) ys zero l = absurd (omega arith)
slice_get-second (x ∷ xs) ys (suc k) l = let c : k - length xs ≡ suc k - suc (length xs) = omega arith in slice_get-second xs ys k (omega arith) ∙ ap (slice_get ys) c

-- where nothing stands at a place, the list is no longer
pub slice_get-none : {X : Type 0} (xs : List X) (k : ℕ) → slice_get xs k ≡ None → length xs ≤ k
slice_get-none [] k e = omega arith
slice_get-none (x ∷ xs) zero e = absurd (none-some x (sym e))
slice_get-none (x ∷ xs) (suc k) e = let r = slice_get-none xs k e in omega arith

-- as many stay as are not added
pub staying-count : (base : Base) (gone : List Bool) (added : List Fact) (count limit : ℕ) → IsLayered base gone added count limit → count ≡ length (staying (base_facts base) gone) + length added
staying-count base gone added count limit i = i.counted ∙ length-append (staying (base_facts base) gone) added

-- the base and no added fact are all facts, where these are as many
pub all-stay : (base : Base) (gone : List Bool) (added : List Fact) (count limit : ℕ) → IsLayered base gone added count limit → added ≡ [] → length (base_facts base) ≡ count → layered base gone added ≡ base_facts base
all-stay base gone added count limit i a n =
    let s = staying-count base gone added count limit i in
    let z : length added ≡ length {A = Fact} [] = ap length a in
    ap (λ gs. staying (base_facts base) gone ++ gs) a ∙ append-nil (staying (base_facts base) gone) ∙ staying-full (base_facts base) gone (omega arith)

-- the fact at a place of the base, and at one past it
pub read-staying : (base : Base) (gone : List Bool) (added : List Fact) (count limit k : ℕ) → IsLayered base gone added count limit → k < count - length added → slice_get (layered base gone added) k ≡ slice_get (staying (base_facts base) gone) k
read-staying base gone added count limit k i l =
    let s = staying-count base gone added count limit i in
    slice_get-first (staying (base_facts base) gone) added k (omega arith)

pub read-base : (base : Base) (gone : List Bool) (added : List Fact) (count limit k : ℕ) → IsLayered base gone added count limit → k < count - length added → count - length added ≡ length (base_facts base) → slice_get (layered base gone added) k ≡ slice_get (base_facts base) k
read-base base gone added count limit k i l n =
    let s = staying-count base gone added count limit i in
    read-staying base gone added count limit k i l ∙ ap (λ fs. slice_get fs k) (staying-full (base_facts base) gone (omega arith))

module _ (p : Fact → Bool) (facts added seen : List Fact) (gone : List Bool) (ps : List ℕ) (s : staying facts gone ++ added ≡ seen) (e : ps ≡ places p 0 facts) where
  -- as many as stay under a key
  staying-under : length (filter (stays gone) ps) ≡ length (filter p (staying facts gone))
  staying-under = ap (λ qs. length (filter (stays gone) qs)) e ∙ counted-under p facts gone

  under : filter p seen ≡ filter p (staying facts gone) ++ filter p added
  under = ap (filter p) (sym s) ∙ filter-append p (staying facts gone) added

  -- and no more than there are
  pub under-below : (n m : ℕ) → n ≡ length (filter (stays gone) ps) → m ≡ length (filter p added) → (n ≤ length facts) × (m ≤ length added)
  under-below n m a b =
      let c = staying-under in
      let d = length-filter p (staying facts gone) in
      let f = length-staying facts gone in
      let g = length-filter p added in
      (omega arith, omega arith)

  pub count-layered : (n m : ℕ) → n ≡ length (filter (stays gone) ps) → m ≡ length (filter p added) → n + m ≡ length (filter p seen)
  count-layered n m a b =
      let c = staying-under in
      let d : length (filter p seen) ≡ length (filter p (staying facts gone) ++ filter p added) = ap length under in
      let f = length-append (filter p (staying facts gone)) (filter p added) in
      omega arith

  -- the k-th under a key is of the base
  pub nth-staying : (k q : ℕ) → slice_get (filter (stays gone) ps) k ≡ Some q → slice_get facts q ≡ slice_get (filter p seen) k
  nth-staying k q a =
      let c = staying-under in
      let l = slice_get_within (filter (stays gone) ps) k q a in
      found-under p facts gone k q (ap (λ qs. slice_get (filter (stays gone) qs) k) (sym e) ∙ a)
      ∙ sym (ap (λ fs. slice_get fs k) under ∙ slice_get-first (filter p (staying facts gone)) (filter p added) k (omega arith))

  -- or was added
  pub nth-added : (k n : ℕ) → slice_get (filter (stays gone) ps) k ≡ None → n ≡ length (filter (stays gone) ps) → slice_get (filter p added) (k - n) ≡ slice_get (filter p seen) k
  nth-added k n a b =
      let c = staying-under in
      let l = slice_get-none (filter (stays gone) ps) k a in
      let m : k - length (filter p (staying facts gone)) ≡ k - n = omega arith in
      sym (ap (λ fs. slice_get fs k) under ∙ slice_get-second (filter p (staying facts gone)) (filter p added) k (omega arith) ∙ ap (slice_get (filter p added)) m)

-- an instance over a base that has all its facts
pub settled-layers : (base new : Base) (gone marks : List Bool) (added more : List Fact) (n : ℕ) → base_facts new ≡ layered base gone added → marks ≡ replicate n false → more ≡ [] → layered new marks more ≡ layered base gone added
settled-layers base new gone marks added more n e m z =
    ap₂ (λ fs gs. fs ++ gs) (ap₂ staying e m ∙ staying-all (layered base gone added) n) z ∙ append-nil (layered base gone added)

-- a look-up in a slice
pub got : {X : Type 0} (r : Option (Bor X)) (xs : List X) (k : ℕ) → is_some r ≡ ltb k (length xs) → IfSome r (λ x. x.now ≡ get_or xs k x.now) → option_copied r ≡ slice_get xs k
got None xs k e g = sym (slice_get_past xs k (ltb-false k (length xs) (sym e)))
got (Some x) xs k e g = ap Some g ∙ sym (slice_get-get_or xs k x.now (ltb-true k (length xs) (sym e)))

-- marks that were copied one by one
pub copied-marks : (gone marks : List Bool) → AllZip (λ g m. m ≡ g) gone marks → marks ≡ gone
copied-marks gone marks h = AllZip-map (λ g. g) gone marks h ∙ same gone
  where
    same : (gs : List Bool) → map (λ (g : Bool). g) gs ≡ gs
    same [] = refl
    same (g ∷ gs) = ap (λ hs. g ∷ hs) (same gs)
