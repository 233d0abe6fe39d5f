-- What the index says of the facts that the owner sees. The points are `IsIndex-push`: the index after one fact more, and
-- the laws of the look-ups by key and by value.
use Rattle.std.proofs.Common.{◌≡◌, ◌↔◌, ◌==◌, ◌&&◌, ℕ, suc, ◌+◌, ◌-◌, ◌<◌, ◌^◌, ◌≤◌, inl, inr, Bool, true, false, cond, Decides, Result, Ok, Err, OnOk, OnErr, IfOk, is_err, take, List, [], ◌∷◌, ◌++◌, map, filter, length, get_or, Option, Some, None, IsSome, is_some, position, option_map, unwrap_or, slice_get, refl, sym, ◌∙◌, ap, ap₂, subst, arith, nat_lt}
use Rattle.std.specs.List.{position_or_len, list_any}
use Rattle.std.proofs.lemmas.Bool.{cases_Bool, false≢true}
use Rattle.std.proofs.lemmas.Bool.Decides.{Decides-ltb}
use Rattle.std.proofs.lemmas.Option.{same_Some, none-some, slice_get_past, slice_get_within, slice_get-map, get_or_from_slice_get}
use Rattle.std.proofs.lemmas.List.{take_all}
use Rattle.std.proofs.Math.Seq.{take-append_seam, take-suc}
use Rattle.indexmap.specs.IndexSet.{insert_key, insert_all}
use Rattle.eir_term.specs.declared.val.Val.{Val}
use Rattle.eir_term.specs.declared.fact.Fact.{Fact}
use Rattle.eir_term.specs.Lists.{◌∈◌, IsDistinct, place_of, places}
use Rattle.eir_term.specs.Values.{val_eq}
use Rattle.eir_term.specs.Facts.{fact_eq, fact_eq-decides}
use Rattle.eir_term.specs.Instances.{values, is_ground, ground_part}
use Rattle.eir_term.specs.Profiles.{Mark, has_at, profile}
use Rattle.eir_term.proofs.ListLaws.{slice_get-place_of, ∈-list_any, ∈-list_any_from}
use Rattle.eir_term.proofs.OrderLaws.{place_of-slice_get}
use Rattle.eir_inst.specs.declared.index.Index.{Index}
use Rattle.eir_inst.specs.declared.key.Key.{Key}
use Rattle.eir_inst.specs.BoundedFacts.{BoundedFacts}
use Rattle.eir_inst.specs.Postings.{listed, in_fact}
use Rattle.eir_inst.specs.Numbers.{numbers_of}
use Rattle.eir_inst.specs.Grown.{grown, blank}
use Rattle.eir_inst.specs.Indexes.{IsIndex}
use Rattle.eir_inst.proofs.KeyLaws.{places-with}
use Rattle.eir_inst.proofs.WalkLaws.{filter-last}
use Rattle.eir_inst.proofs.ValueLaws.{values-push, rows-push, position_or_len-place}
use Rattle.eir_inst.proofs.GrownLaws.{profiles-push, profile-absent}

-- look-ups in a set
module _ {X : Type 0} (eq : X → X → Bool) (same : (a b : X) → Decides (eq a b) (a ≡ b)) where
  -- where a place is below the length, the element is there
  place-there : (v : X) (ws : List X) → place_of eq v ws < length ws → v ∈ ws
  place-there v [] l = absurd (omega arith)
  place-there v (w ∷ ws) l = elim (cases_Bool (eq v w)) [
    | inl t ↦ inl ((same v w).0 t)
    | inr t ↦ (let k : suc (place_of eq v ws) < suc (length ws) = rw t at l in inr (place-there v ws (omega arith)))
  ]

  -- a look-up answers exactly the place at which the element stands
  pub position-iff : (r : Option ℕ) (v : X) (ws seen : List X) → ws ≡ seen → IsDistinct ws → r ≡ position (eq v) ws → (n : ℕ) → (r ≡ Some n) ↔ (slice_get seen n ≡ Some v)
  position-iff r v ws seen s d e n = (λ h. ap (λ us. slice_get us n) (sym s) ∙ to h, λ h. e ∙ from (ap (λ us. slice_get us n) s ∙ h))
    where
      at : position_or_len (eq v) ws ≡ place_of eq v ws
      at = position_or_len-place eq same v ws

      to : r ≡ Some n → slice_get ws n ≡ Some v
      to h = by (nat_lt (position_or_len (eq v) ws) (length ws)) refl (sym e ∙ h)
        where
          by : (b : Bool) → nat_lt (position_or_len (eq v) ws) (length ws) ≡ b → cond b (Some (position_or_len (eq v) ws)) None ≡ Some n → slice_get ws n ≡ Some v
          by true t k =
              let l : position_or_len (eq v) ws < length ws = (Decides-ltb (position_or_len (eq v) ws) (length ws)).0 t in
              let p : place_of eq v ws ≡ n = sym (position_or_len-place eq same v ws) ∙ same_Some (position_or_len (eq v) ws) n k in
              let m : place_of eq v ws < length ws = subst (λ j. j < length ws) (position_or_len-place eq same v ws) l in
              ap (slice_get ws) (sym p) ∙ slice_get-place_of eq same v ws (place-there v ws m)
          by false t k = absurd (none-some n k)

      from : slice_get ws n ≡ Some v → position (eq v) ws ≡ Some n
      from h =
          let p : position_or_len (eq v) ws ≡ n = position_or_len-place eq same v ws ∙ place_of-slice_get eq same v ws n d h in
          let l = slice_get_within ws n v h in
          let m : position_or_len (eq v) ws < length ws = omega arith in
          rw ((Decides-ltb (position_or_len (eq v) ws) (length ws)).1 m) (ap Some p)

  -- and answers at all exactly where it occurs
  pub position-some : (r : Option ℕ) (v : X) (ws seen : List X) → ws ≡ seen → is_some r ≡ list_any (eq v) ws → IsSome r ↔ (v ∈ seen)
  position-some None v ws seen s e = (λ h. absurd (false≢true h), λ h. absurd (false≢true (e ∙ ∈-list_any eq same v ws (subst (λ us. v ∈ us) (sym s) h))))
  position-some (Some n) v ws seen s e = (λ h. subst (λ us. v ∈ us) s (∈-list_any_from eq same v ws (sym e)), λ h. refl)

-- the values that the owner sees
pub values-seen : (K facts : List Fact) (x : Index) → K ≡ facts → IsIndex K x → x.numbering.values.keys ≡ values facts
values-seen K facts x seen i = i.values ∙ ap values seen

-- the index of the facts stays one where each of its parts is seen as before
pub IsIndex-same : (K : List Fact) (x y : Index) → IsIndex K x → ((k : Key) → listed y.postings.lists k ≡ listed x.postings.lists k) → y.numbering.values.keys ≡ x.numbering.values.keys → y.numbering.rows.items ≡ x.numbering.rows.items →
    y.numbering.profiles.items ≡ x.numbering.profiles.items → IsIndex K y
IsIndex-same K x y i l v r p = record { postings = λ k. l k ∙ i.postings k; values = v ∙ i.values; rows = r ∙ i.rows; profiles = p ∙ i.profiles; short = i.short }

-- each fact is as short as the others and one more
short-push : (K : List Fact) (f : Fact) → ((g : Fact) → g ∈ K → length g.args < 2 ^ 32) → length f.args < 2 ^ 32 → (g : Fact) → g ∈ (K ++ f ∷ []) → length g.args < 2 ^ 32
short-push [] f all few g (inl e) = subst (λ (h : Fact). length h.args < 2 ^ 32) (sym e) few
short-push [] f all few g (inr h) = absurd h
short-push (k ∷ K) f all few g (inl e) = all g (inl e)
short-push (k ∷ K) f all few g (inr h) = short-push K f (λ i m. all i (inr m)) few g h

-- the index after one fact more
pub IsIndex-push : {T E : Type 0} (r : Result T E) (x y : Index) (f : Fact) (p : ℕ) → length f.args < 2 ^ 32 → ((k : Key) → listed y.postings.lists k ≡ listed x.postings.lists k ++ in_fact p f k) →
    OnOk r (y.numbering.values.keys ≡ insert_all val_eq x.numbering.values.keys f.args) → OnOk r (y.numbering.rows.items ≡ x.numbering.rows.items ++ numbers_of y.numbering.values.keys f.args ∷ []) →
    OnOk r ((n : ℕ) → slice_get y.numbering.profiles.items n ≡ option_map (grown f.rel 0 (numbers_of y.numbering.values.keys f.args) n) (slice_get (x.numbering.profiles.items ++ blank (length y.numbering.values.keys - length x.numbering.profiles.items)) n)) →
    OnOk r ((K : List Fact) → length K ≡ p → IsIndex K x → IsIndex (K ++ f ∷ []) y)
IsIndex-push (Err e) x y f p few l v r g = tt
IsIndex-push (Ok o) x y f p few l v r g = λ K n i.
    let keys : y.numbering.values.keys ≡ values (K ++ f ∷ []) = v ∙ ap (λ vs. insert_all val_eq vs f.args) i.values ∙ values-push K f in
    record {
      postings = places-with (listed x.postings.lists) (listed y.postings.lists) K f p n i.postings l;
      values = keys;
      rows = r ∙ ap (λ rs. rs ++ numbers_of y.numbering.values.keys f.args ∷ []) i.rows ∙ rows-push K f y.numbering.values.keys keys;
      profiles = profiles-push K f y.numbering.values.keys x.numbering.profiles.items y.numbering.profiles.items keys i.profiles g;
      short = short-push K f i.short few;
    }

-- the index where the fact's values found no memory, and its place was taken off again
pub IsIndex-pop : {T E : Type 0} (r : Result T E) (x y : Index) (f : Fact) (p : ℕ) (mid : Key → List ℕ) → ((k : Key) → mid k ≡ listed x.postings.lists k ++ in_fact p f k) →
    ((before : Key → List ℕ) → ((k : Key) → mid k ≡ before k ++ in_fact p f k) → (k : Key) → listed y.postings.lists k ≡ before k) →
    OnErr r (y.numbering.values.keys ≡ x.numbering.values.keys) → OnErr r (y.numbering.rows.items ≡ x.numbering.rows.items) → OnErr r (y.numbering.profiles.items ≡ x.numbering.profiles.items) → OnErr r ((K : List Fact) → IsIndex K x → IsIndex K y)
IsIndex-pop (Ok o) x y f p mid l d v r g = tt
IsIndex-pop (Err e) x y f p mid l d v r g = λ K i. IsIndex-same K x y i (d (listed x.postings.lists) l) v r g

-- a fact that holds anyway holds where a call fails
pub on-err : {T E P : Type 0} (r : Result T E) → P → OnErr r P
on-err (Ok x) p = tt
on-err (Err e) p = p

-- or does not
pub on-ok : {T E P : Type 0} (r : Result T E) → P → OnOk r P
on-ok (Ok x) p = p
on-ok (Err e) p = tt

-- what holds where a call fails, and where it does not
pub from-err : {T E P : Type 0} (r : Result T E) (b : Bool) → b ≡ is_err r → b ≡ true → OnErr r P → P
from-err (Ok x) b e t p = absurd (false≢true (sym e ∙ t))
from-err (Err x) b e t p = p

pub from-ok : {T E P : Type 0} (r : Result T E) (b : Bool) → b ≡ is_err r → b ≡ false → OnOk r P → P
from-ok (Ok x) b e t p = p
from-ok (Err x) b e t p = absurd (false≢true (sym t ∙ e))

-- a fact that is not there goes last
pub appended : (K new : List Fact) (f : Fact) → (f ∈ K → ⊥) → new ≡ insert_key fact_eq K f → new ≡ K ++ f ∷ []
appended K new f a e = elim (cases_Bool (list_any (fact_eq f) K)) [
  | inl t ↦ absurd (a (∈-list_any_from fact_eq fact_eq-decides f K t))
  | inr t ↦ e ∙ rw t refl
]

-- and the first of them are those that were there
pub cut-back : (K new cut : List Fact) (f : Fact) (place : ℕ) → new ≡ K ++ f ∷ [] → place ≡ length K → cut ≡ take place new → cut ≡ K
cut-back K new cut f place e p c = c ∙ ap₂ (λ n fs. take n fs) p e ∙ take-append_seam K (f ∷ [])

-- the profile at a value's number
pub profile-at : (facts : List Fact) (vals : List Val) (ps : List (List Mark)) (v : Val) (n : ℕ) (d : List Mark) → ps ≡ map (profile facts) vals → slice_get vals n ≡ Some v → (n < length ps) × (get_or ps n d ≡ profile facts v)
profile-at facts vals ps v n d e at =
    let there : slice_get ps n ≡ Some (profile facts v) = ap (λ qs. slice_get qs n) e ∙ slice_get-map (profile facts) vals n ∙ ap (option_map (profile facts)) at in
    (slice_get_within ps n (profile facts v) there, get_or_from_slice_get ps n (profile facts v) d there)

-- the loop that copies the facts without nulls, at its end
pub copied-ground : (part : BoundedFacts) (facts seen : List Fact) (limit i : ℕ) → part.facts ≡ filter is_ground (take i facts) → part.limit ≡ limit → length facts ≤ i → facts ≡ seen → part ≡ (let b : BoundedFacts = record { facts = ground_part seen; limit = limit } in b)
copied-ground part facts seen limit i e l n s = ap₂ (λ fs k. let b : BoundedFacts = record { facts = fs; limit = k } in b) (e ∙ ap (filter is_ground) (take_all i facts n ∙ s)) l

-- and its turns
pub ground-next : (part new facts : List Fact) (i : ℕ) (x : Fact) (b : Bool) → i < length facts → x ≡ get_or facts i x → part ≡ filter is_ground (take i facts) → b ≡ is_ground x → new ≡ part ++ cond b (x ∷ []) [] → new ≡ filter is_ground (take (i + 1) facts)
ground-next part new facts i x b l at e t g =
    let c : suc i ≡ i + 1 = omega arith in
    g ∙ ap₂ (λ fs q. fs ++ cond q (x ∷ []) []) e t ∙ sym (filter-last is_ground (take i facts) x) ∙ ap (λ y. filter is_ground (take i facts ++ y ∷ [])) at ∙ ap (filter is_ground) (sym (take-suc facts i x l) ∙ ap (λ k. take k facts) c)

-- an answer that is equal to x is equal to what x is equal to
pub if-ok : {T E : Type 0} (r : Result T E) (x y : T) → x ≡ y → IfOk r (λ p. p ≡ x) → IfOk r (λ p. p ≡ y)
if-ok (Ok z) x y e h = h ∙ e
if-ok (Err z) x y e h = tt

-- a value without a number has no mark
pub unnumbered : (facts : List Fact) (v : Val) (r : Option ℕ) → r ≡ None → (v ∈ values facts → IsSome r) → [] ≡ profile facts v
unnumbered facts v r e h = sym (profile-absent facts v (λ i. false≢true (sym (ap is_some e) ∙ h i)))

and-false : (b : Bool) → (b && false) ≡ false
and-false true = refl
and-false false = refl

-- no fact has a value at a column past the last of a short one
pub none-past : (rel column : ℕ) (v : Val) (n : ℕ) (K : List Fact) → 2 ^ 32 ≤ column → ((f : Fact) → f ∈ K → length f.args < 2 ^ 32) → places (has_at rel column v) n K ≡ []
none-past rel column v n [] far short = refl
none-past rel column v n (f ∷ K) far short =
    let none : slice_get f.args column ≡ None = slice_get_past f.args column (omega (arith, short f (inl refl))) in
    let no : has_at rel column v f ≡ false = ap (λ o. (f.rel == rel) && unwrap_or (option_map (val_eq v) o) false) none ∙ and-false (f.rel == rel) in
    rw no (none-past rel column v (suc n) K far (λ g h. short g (inr h)))
