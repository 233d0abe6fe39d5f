-- What a start gives, by number.
use Rattle.std.proofs.Common.{◌≡◌, ◌≢◌, ◌≤◌, ◌<◌, ◌↔◌, ℕ, zero, suc, ◌+◌, ◌-◌, Bool, true, false, cond, eqb, List, [], ◌∷◌, ◌++◌, map, take, drop, length, replicate, get_or, Option, Some, None, IfSome, set, option_map, slice_get, refl, sym, ap, ap₂, ◌∙◌, inl, inr, append-nil, arith}
use Rattle.std.proofs.lemmas.List.{get_or-map, get_or-set_other, length-map, take_more, take_all, drop_all}
use Rattle.std.proofs.lemmas.Grind.{get_or-set_at}
use Rattle.std.proofs.lemmas.Bool.{cases_Bool, cases_lt, false≢true}
use Rattle.std.proofs.lemmas.Bool.Decides.{Decides-eqb}
use Rattle.eir_term.specs.declared.val.Val.{Val}
use Rattle.eir_term.specs.declared.fact.Fact.{Fact}
use Rattle.eir_term.specs.Lists.{◌∈◌, place_of}
use Rattle.eir_term.specs.Values.{val_eq, val_eq-decides, is_fixed}
use Rattle.eir_term.specs.Instances.{values}
use Rattle.eir_term.specs.Maps.{get}
use Rattle.eir_hom.specs.Levels.{number}
use Rattle.eir_hom.specs.Compiling.{given_image, is_here, or_else, with_fixed}
use Rattle.eir_hom.proofs.StockLaws.{get_or-found, ∈-found, number-found}

-- a value that is none has the number of values as its number
place_of-absent : (v : Val) (vs : List Val) → (v ∈ vs → ⊥) → place_of val_eq v vs ≡ length vs
place_of-absent v [] n = refl
place_of-absent v (w ∷ vs) n =
    elim (cases_Bool (val_eq v w)) [ inl t ↦ absurd (n (inl ((val_eq-decides v w).0 t))) | inr f ↦ rw f (ap suc (place_of-absent v vs (λ h. n (inr h)))) ]

module _ (K : List Fact) (v : Val) where
  pub number-absent : (v ∈ values K → ⊥) → number K v ≡ length (values K)
  number-absent n = place_of-absent v (values K) n

  pub number-there : (m : ℕ) → ((n : ℕ) → (Some m ≡ Some n) ↔ (slice_get (values K) n ≡ Some v)) → m ≡ number K v
  number-there m there =
      let e = (there m).0 refl in
      let f : Some m ≡ Some (number K v) = (there (number K v)).1 (number-found K v (∈-found (values K) m v e)) in
      cc

  -- the number that is told is n exactly where the value is the n-th
  pub here-is : (o : Option ℕ) → ((n : ℕ) → (o ≡ Some n) ↔ (slice_get (values K) n ≡ Some v)) → (n : ℕ) (u : Val) → slice_get (values K) n ≡ Some u → is_here o n ≡ val_eq v u
  here-is o there n u e =
      elim (cases_Bool (val_eq v u)) [
        | inl t ↦ (let s : o ≡ Some n = (there n).1 (e ∙ ap Some (sym ((val_eq-decides v u).0 t))) in ap (λ o. is_here o n) s ∙ (Decides-eqb n n).1 refl ∙ sym t)
        | inr f ↦ by f o refl ∙ sym f
      ]
    where
      by : val_eq v u ≡ false → (x : Option ℕ) → o ≡ x → is_here x n ≡ false
      by f None s = refl
      by f (Some m) s = elim (cases_Bool (eqb m n)) [
        | inl t ↦ (let q : o ≡ Some n = s ∙ ap Some ((Decides-eqb m n).0 t) in let z : Some u ≡ Some v = sym e ∙ (there n).0 q in let y : v ≡ u = cc in absurd (false≢true (sym f ∙ (val_eq-decides v u).1 y)))
        | inr t ↦ t
      ]

-- a list by its places
pub map-by-place : (f : Val → Option ℕ) (vs : List Val) (xs : List (Option ℕ)) → length xs ≡ length vs → ((n : ℕ) (u : Val) → slice_get vs n ≡ Some u → get_or xs n None ≡ f u) → xs ≡ map f vs
map-by-place f [] [] e all = refl
map-by-place f [] (x ∷ xs) e all = absurd (omega arith)
map-by-place f (v ∷ vs) [] e all = absurd (omega arith)
map-by-place f (v ∷ vs) (x ∷ xs) e all =
    ap₂ (λ y ys. y ∷ ys) (all 0 v refl) (map-by-place f vs xs (omega arith) (λ n u h. all (suc n) u h))

pub map-at : (f : Val → Option ℕ) (vs : List Val) (n : ℕ) (u : Val) → slice_get vs n ≡ Some u → get_or (map f vs) n None ≡ f u
map-at f vs n u e = let r = get_or-found vs n u u e in get_or-map f vs n u None r.0 ∙ ap f r.1

get-push : (h : List (Val × Val)) (p : Val × Val) (u : Val) → get (h ++ p ∷ []) u ≡ or_else (get h u) (cond (val_eq p.0 u) (Some p.1) None)
get-push [] p u = refl
get-push (r ∷ h) p u = elim (cases_Bool (val_eq r.0 u)) [ inl t ↦ rw t refl | inr f ↦ rw f (get-push h p u) ]

or_else-map : (f : Val → ℕ) (o : Option Val) (b : Bool) (w : Val) → or_else (option_map f o) (cond b (Some (f w)) None) ≡ option_map f (or_else o (cond b (Some w) None))
or_else-map f None true w = refl
or_else-map f None false w = refl
or_else-map f (Some v) b w = refl

-- one pair more
pub given-step : (A B : List Fact) (start : List (Val × Val)) (i : ℕ) (v w : Val) (o : Option ℕ) (old new : List (Option ℕ)) → slice_get start i ≡ Some (v, w) → ((n : ℕ) → (o ≡ Some n) ↔ (slice_get (values A) n ≡ Some v)) → length new ≡ length old →
    old ≡ map (λ u. option_map (number B) (get (take i start) u)) (values A) → ((n : ℕ) → n < length new → get_or new n None ≡ or_else (get_or old n None) (cond (is_here o n) (Some (number B w)) None)) →
    new ≡ map (λ u. option_map (number B) (get (take (i + 1) start) u)) (values A)
given-step A B start i v w o old new at there long before set =
    let f : Val → Option ℕ = λ u. option_map (number B) (get (take i start) u) in
    let g : Val → Option ℕ = λ u. option_map (number B) (get (take (i + 1) start) u) in
    let l : length new ≡ length (values A) = long ∙ ap length before ∙ length-map (values A) f in
    let r = get_or-found start i (v, w) (v, w) at in
    let more : take (i + 1) start ≡ take i start ++ (v, w) ∷ [] = take_more start i (v, w) r.0 ∙ ap (λ p. take i start ++ p ∷ []) r.1 in
    map-by-place g (values A) new l (λ n u e.
    let wide : n < length new = let q = (get_or-found (values A) n u u e).0 in omega arith in
    set n wide ∙ ap₂ (λ x b. or_else x (cond b (Some (number B w)) None)) (ap (λ xs. get_or xs n None) before ∙ map-at f (values A) n u e) (here-is A v o there n u e)
    ∙ or_else-map (number B) (get (take i start) u) (val_eq v u) w ∙ ap (option_map (number B)) (sym (ap (λ h. get h u) more ∙ get-push (take i start) (v, w) u)))

-- a number that is told is that of a value
pub number-below : (A : List Fact) (v : Val) (o : Option ℕ) → ((n : ℕ) → (o ≡ Some n) ↔ (slice_get (values A) n ≡ Some v)) → (n : ℕ) → o ≡ Some n → n < length (values A)
number-below A v o there n e = (get_or-found (values A) n v v ((there n).0 e)).0

-- what the start gives and what is fixed
given-is : (B : List Fact) (start : List (Val × Val)) (v : Val) → with_fixed B (option_map (number B) (get start v)) (Some v) ≡ given_image B start v
given-is B start v = by (get start v) refl (is_fixed v) refl
  where
    by : (o : Option Val) → get start v ≡ o → (b : Bool) → is_fixed v ≡ b → with_fixed B (option_map (number B) (get start v)) (Some v) ≡ given_image B start v
    by None e true f = rw (e, f) refl
    by None e false f = rw (e, f) refl
    by (Some w) e true f = rw (e, f) refl
    by (Some w) e false f = rw (e, f) refl

pub images-are : (A B : List Fact) (start : List (Val × Val)) (given new : List (Option ℕ)) → given ≡ map (λ u. option_map (number B) (get start u)) (values A) → length new ≡ length given → ((n : ℕ) → n < length new → get_or new n None ≡ with_fixed B (get_or given n None) (slice_get (values A) n)) →
    new ≡ map (given_image B start) (values A)
images-are A B start given new g long set =
    let f : Val → Option ℕ = λ u. option_map (number B) (get start u) in
    let l : length new ≡ length (values A) = long ∙ ap length g ∙ length-map (values A) f in
    map-by-place (given_image B start) (values A) new l (λ n u e.
    let wide : n < length new = let q = (get_or-found (values A) n u u e).0 in omega arith in
    set n wide ∙ ap₂ (λ x o. with_fixed B x o) (ap (λ xs. get_or xs n None) g ∙ map-at f (values A) n u e) e ∙ given-is B start u)

-- a list of nothing
pub none-map : (vs : List Val) → replicate (length vs) None ≡ map (λ _. let o : Option ℕ = None in o) vs
none-map [] = refl
none-map (v ∷ vs) = ap (λ xs. None ∷ xs) (none-map vs)

pub if-below : (o : Option ℕ) (m : ℕ) → ((n : ℕ) → o ≡ Some n → n < m) → IfSome o (λ n. n < m)
if-below None m all = tt
if-below (Some n) m all = all n refl

-- a turn of the loop over fixed values
pub fixed-before : (B : List Fact) (vs : List Val) (old now : List (Option ℕ)) (i : ℕ) (x : Option ℕ) → i < length vs → i < length now → ((n : ℕ) → n < i → get_or now n None ≡ with_fixed B (get_or old n None) (slice_get vs n)) → ((n : ℕ) → i ≤ n → get_or now n None ≡ get_or old n None) → x ≡ with_fixed B (get_or now i None) (slice_get vs i) →
    (n : ℕ) → n < i + 1 → get_or (set now i x) n None ≡ with_fixed B (get_or old n None) (slice_get vs n)
fixed-before B vs old now i x h wide before behind e n m =
    elim (cases_lt n i) [
      | inl l ↦ (let d : n ≢ i = λ q. absurd (omega arith) in get_or-set_other now i n x None d ∙ before n l)
      | inr g ↦ (let q : n ≡ i = omega arith in get_or-set_at now i n x None q wide ∙ e ∙ ap₂ (λ a b. with_fixed B a b) (behind i (omega arith) ∙ ap (λ k. get_or old k None) (sym q)) (ap (slice_get vs) (sym q)))
    ]

pub fixed-behind : (old now : List (Option ℕ)) (i : ℕ) (x : Option ℕ) → ((n : ℕ) → i ≤ n → get_or now n None ≡ get_or old n None) → (n : ℕ) → i + 1 ≤ n → get_or (set now i x) n None ≡ get_or old n None
fixed-behind old now i x behind n h = let d : n ≢ i = λ q. absurd (omega arith) in get_or-set_other now i n x None d ∙ behind n (omega arith)

-- a new list of nothing
pub resized : (n len : ℕ) (old : List (Option ℕ)) (vs : List Val) → old ≡ [] → len ≡ 0 → n ≡ length vs → take n old ++ replicate (n - len) None ≡ map (λ _. let o : Option ℕ = None in o) vs
resized n len old vs e f g =
    let m : n - len ≡ length vs = omega arith in
    let nothing : take n old ≡ [] = ap (take n) e ∙ take-none n in
    ap₂ (λ xs k. xs ++ replicate k None) nothing m ∙ none-map vs
  where
    take-none : (n : ℕ) → ◌≡◌ {A = List (Option ℕ)} (take n []) []
    take-none zero = refl
    take-none (suc n) = refl

-- a list written over one of its length
pub written : {X : Type 0} (len : ℕ) (old new : List X) → len ≡ length old → length new ≡ length old → take len (new ++ drop (length new) old) ≡ new
written len old new e f =
    rw (drop_all (length new) old (omega arith), append-nil new) (take_all len new (omega arith))
