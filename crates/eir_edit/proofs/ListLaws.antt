-- Lists of examples, and places in them.
use Rattle.std.proofs.Common.{◌≡◌, ℕ, zero, suc, ◌+◌, ◌≤◌, ◌<◌, Bool, true, false, not, cond, List, [], ◌∷◌, ◌++◌, map, length, get_or, set, take, drop, Option, Some, None, option_map, refl, sym, ◌∙◌, ap, ap₂, subst, inl, inr, arith}
use Rattle.std.specs.Prelude.{find, ltb, unwrap_or, ◌==◌}
use Rattle.std.specs.List.{list_any, position, position_or_len, remove, insert}
use Rattle.std.specs.Str.{bytes_eq}
use Rattle.std.proofs.lemmas.Bool.{cases_Bool, or_parts, ltb-true, ltb-false, lt-ltb, le-ltb}
use Rattle.std.proofs.lemmas.Bool.Decides.{Decides-eqb}
use Rattle.std.proofs.lemmas.List.{length-map, map-append, take-map, drop-map, take_more, get_or-map}
use Rattle.std.proofs.lemmas.List.Folds.{list_any-append}
use Rattle.std.proofs.lemmas.Option.{none-some, same_Some}
use Rattle.eir_term.specs.declared.val.Side.{Side}
use Rattle.eir_edit.specs.Histories.{Example, has_name, is_present, find_example, facts_on, facts_in, changed, dropped}

-- ---- where an element is first found

-- the place of the first element that passes, or the length
abbrev pub first : {X : Type 0} → (X → Bool) → List X → ℕ
first p [] = 0
first p (x ∷ xs) = cond (p x) 0 (suc (first p xs))

pub position_or_len-first : {X : Type 0} (p : X → Bool) (xs : List X) → position_or_len p xs ≡ first p xs
position_or_len-first p [] = refl
position_or_len-first p (x ∷ xs) = elim (cases_Bool (p x)) [ inl t ↦ rw t refl | inr t ↦ rw t (omega (arith, position_or_len-first p xs)) ]

-- the same in a list of images
first-map : {X Y : Type 0} (p : Y → Bool) (f : X → Y) (xs : List X) → first p (map f xs) ≡ first (λ x. p (f x)) xs
first-map p f [] = refl
first-map p f (x ∷ xs) = ap (λ n. cond (p (f x)) 0 (suc n)) (first-map p f xs)

pub position-map : {X Y : Type 0} (p : Y → Bool) (f : X → Y) (xs : List X) → position p (map f xs) ≡ position (λ x. p (f x)) xs
position-map p f xs =
    let same : position_or_len p (map f xs) ≡ position_or_len (λ x. p (f x)) xs = position_or_len-first p (map f xs) ∙ first-map p f xs ∙ sym (position_or_len-first (λ x. p (f x)) xs) in
    ap₂ (λ n l. cond (ltb n l) (Some n) None) same (length-map xs f)

module _ {X : Type 0} (p : X → Bool) where
  -- an element that is found stands at the first place
  pub position-found : (xs : List X) (n : ℕ) → Some n ≡ position p xs → (n ≡ first p xs) × (n < length xs)
  position-found xs n e = elim (cases_Bool (ltb (position_or_len p xs) (length xs))) [
    | inl t ↦ (
        let k : Some n ≡ Some (position_or_len p xs) = e ∙ rw t refl in
        let same : n ≡ position_or_len p xs = same_Some _ _ k in
        (same ∙ position_or_len-first p xs, subst (λ m. m < length xs) (sym same) (ltb-true _ _ t))
        )
    | inr t ↦ (let k : Some n ≡ None = e ∙ rw t refl in absurd (none-some n (sym k)))
  ]

  -- where none is found, none passes
  pub position-absent : (xs : List X) → None ≡ position p xs → list_any p xs ≡ false
  position-absent xs e = elim (cases_Bool (ltb (position_or_len p xs) (length xs))) [
    | inl t ↦ (let k : None ≡ Some (position_or_len p xs) = e ∙ rw t refl in absurd (none-some _ k))
    | inr t ↦ none xs (subst (λ n. length xs ≤ n) (position_or_len-first p xs) (ltb-false _ _ t))
  ]
    where
      none : (xs : List X) → length xs ≤ first p xs → list_any p xs ≡ false
      none [] l = refl
      none (x ∷ xs) l = by (p x) refl l (none xs)
        where
          by : (b : Bool) → p x ≡ b → suc (length xs) ≤ cond b 0 (suc (first p xs)) → (length xs ≤ first p xs → list_any p xs ≡ false) → list_any p (x ∷ xs) ≡ false
          by true t l rest = absurd (omega arith)
          by false t l rest = rw t (rest (omega arith))

  -- the first element that passes is found
  pub list_any-first : (xs : List X) → first p xs < length xs → list_any p xs ≡ true
  list_any-first [] l = absurd (omega arith)
  list_any-first (x ∷ xs) l = by (p x) refl l (list_any-first xs)
    where
      by : (b : Bool) → p x ≡ b → cond b 0 (suc (first p xs)) < suc (length xs) → (first p xs < length xs → list_any p xs ≡ true) → list_any p (x ∷ xs) ≡ true
      by true t l rest = rw t refl
      by false t l rest = rw t (rest (omega arith))

  pub find-first : (xs : List X) (d : X) → first p xs < length xs → find p xs ≡ Some (get_or xs (first p xs) d)
  find-first [] d l = absurd (omega arith)
  find-first (x ∷ xs) d l = by (p x) l (find-first xs d)
    where
      by : (b : Bool) → cond b 0 (suc (first p xs)) < suc (length xs) → (first p xs < length xs → find p xs ≡ Some (get_or xs (first p xs) d)) → cond b (Some x) (find p xs) ≡ Some (get_or (x ∷ xs) (cond b 0 (suc (first p xs))) d)
      by true l rest = refl
      by false l rest = rest (omega arith)

-- ---- the example of a name

module _ (name : List ℕ) where
  -- what is changed is the example at the first place of the name
  pub changed-first : (change : Example → Example) (xs : List Example) (d : Example) → first (has_name name) xs < length xs → set xs (first (has_name name) xs) (change (get_or xs (first (has_name name) xs) d)) ≡ changed name change xs
  changed-first change [] d l = absurd (omega arith)
  changed-first change (x ∷ xs) d l = by (has_name name x) l (changed-first change xs d)
    where
      by : (b : Bool) → cond b 0 (suc (first (has_name name) xs)) < suc (length xs)
          → (first (has_name name) xs < length xs → set xs (first (has_name name) xs) (change (get_or xs (first (has_name name) xs) d)) ≡ changed name change xs)
          → set (x ∷ xs) (cond b 0 (suc (first (has_name name) xs))) (change (get_or (x ∷ xs) (cond b 0 (suc (first (has_name name) xs))) d)) ≡ cond b (change x ∷ xs) (x ∷ changed name change xs)
      by true l rest = refl
      by false l rest = ap (λ ys. x ∷ ys) (rest (omega arith))

  -- and so is the one that is dropped
  pub dropped-first : (xs : List Example) → first (has_name name) xs < length xs → remove xs (first (has_name name) xs) ≡ dropped name xs
  dropped-first [] l = absurd (omega arith)
  dropped-first (x ∷ xs) l = by (has_name name x) l (dropped-first xs)
    where
      by : (b : Bool) → cond b 0 (suc (first (has_name name) xs)) < suc (length xs) → (first (has_name name) xs < length xs → remove xs (first (has_name name) xs) ≡ dropped name xs)
          → remove (x ∷ xs) (cond b 0 (suc (first (has_name name) xs))) ≡ cond b xs (x ∷ dropped name xs)
      by true l rest = refl
      by false l rest = ap (λ ys. x ∷ ys) (rest (omega arith))

  -- the facts of a side of it
  pub facts_in-found : (side : Side) (xs : List Example) (x : Example) → find_example name xs ≡ Some x → facts_in name side xs ≡ facts_on side x
  facts_in-found side xs x e = ap (λ o. unwrap_or (option_map (facts_on side) o) []) e

-- an element taken out of a list of images
pub map-remove : {X Y : Type 0} (f : X → Y) (xs : List X) (n : ℕ) → map f (remove xs n) ≡ remove (map f xs) n
map-remove f xs n = map-append f (take n xs) (drop (suc n) xs) ∙ ap₂ (λ ys zs. ys ++ zs) (sym (take-map f n xs)) (sym (drop-map f (suc n) xs))

-- ---- loops over lists of images

pub take-all : {X : Type 0} (n : ℕ) (xs : List X) → length xs ≤ n → take n xs ≡ xs
take-all zero [] l = refl
take-all (suc n) [] l = refl
take-all zero (x ∷ xs) l = absurd (omega arith)
take-all (suc n) (x ∷ xs) l = ap (λ ys. x ∷ ys) (take-all n xs (omega arith))

module _ {Y : Type 0} (p : Y → Bool) where
  first-at : (ys : List Y) (i : ℕ) (d : Y) → i < length ys → list_any p (take i ys) ≡ false → p (get_or ys i d) ≡ true → first p ys ≡ i
  first-at [] i d l none t = absurd (omega arith)
  first-at (y ∷ ys) zero d l none t = rw t refl
  first-at (y ∷ ys) (suc i) d l none t =
      let parts = or_parts (p y) (list_any p (take i ys)) none in
      rw parts.0 (ap suc (first-at ys i d (omega arith) parts.1 t))

  first-none : (ys : List Y) → list_any p ys ≡ false → first p ys ≡ length ys
  first-none [] none = refl
  first-none (y ∷ ys) none = let parts = or_parts (p y) (list_any p ys) none in rw parts.0 (ap suc (first-none ys parts.1))

  list_any-get : (ys : List Y) (i : ℕ) (d : Y) → i < length ys → p (get_or ys i d) ≡ true → list_any p ys ≡ true
  list_any-get [] i d l t = absurd (omega arith)
  list_any-get (y ∷ ys) zero d l t = rw t refl
  list_any-get (y ∷ ys) (suc i) d l t = let rest = list_any-get ys i d (omega arith) t in elim (cases_Bool (p y)) [ inl s ↦ rw s refl | inr s ↦ rw s rest ]

module _ {X Y : Type 0} (f : X → Y) (xs : List X) (i : ℕ) (x : X) (within : i < length xs) (at : x ≡ get_or xs i x) where
  pub next-taken : take (i + 1) xs ≡ take i xs ++ x ∷ []
  next-taken = take_more xs i x within ∙ ap (λ z. take i xs ++ z ∷ []) (sym at)

  image-at : get_or (map f xs) i (f x) ≡ f x
  image-at = get_or-map f xs i x (f x) within ∙ ap f (sym at)

  within-images : i < length (map f xs)
  within-images = let l : length (map f xs) ≡ length xs = length-map xs f in omega arith

  -- one image more
  pub map-more : (made new : List X) (c : X) → map f made ≡ map f (take i xs) → f c ≡ f x → new ≡ made ++ c ∷ [] → map f new ≡ map f (take (i + 1) xs)
  map-more made new c so_far same grown =
      ap (map f) grown ∙ map-append f made (c ∷ []) ∙ ap₂ (λ ys y. ys ++ y ∷ []) so_far same ∙ sym (map-append f (take i xs) (x ∷ [])) ∙ ap (map f) (sym next-taken)

  module _ (p : Y → Bool) where
    -- one that does not pass
    pub none-more : list_any p (map f (take i xs)) ≡ false → false ≡ p (f x) → list_any p (map f (take (i + 1) xs)) ≡ false
    none-more none t =
        ap (λ ys. list_any p (map f ys)) next-taken ∙ ap (list_any p) (map-append f (take i xs) (x ∷ [])) ∙ list_any-append p (map f (take i xs)) (f x ∷ []) ∙ rw (none, sym t) refl

    -- the first that passes
    pub position-here : list_any p (map f (take i xs)) ≡ false → true ≡ p (f x) → Some i ≡ position p (map f xs)
    position-here none t =
        let e : first p (map f xs) ≡ i = first-at p (map f xs) i (f x) within-images (ap (list_any p) (take-map f i xs) ∙ none) (ap p image-at ∙ sym t) in
        let o : position_or_len p (map f xs) ≡ i = position_or_len-first p (map f xs) ∙ e in
        let l : ltb (position_or_len p (map f xs)) (length (map f xs)) ≡ true = lt-ltb _ _ (subst (λ n. n < length (map f xs)) (sym o) within-images) in
        sym (rw l (ap Some o))

    pub any-here : true ≡ p (f x) → list_any p (map f xs) ≡ true
    any-here t = list_any-get p (map f xs) i (f x) within-images (ap p image-at ∙ sym t)

module _ {X Y : Type 0} (f : X → Y) (xs : List X) (i : ℕ) (end : length xs ≤ i) where
  pub map-end : (made : List X) → map f made ≡ map f (take i xs) → map f made ≡ map f xs
  map-end made e = e ∙ ap (map f) (take-all i xs end)

  -- none passes
  pub none-end : (p : Y → Bool) → list_any p (map f (take i xs)) ≡ false → list_any p (map f xs) ≡ false
  none-end p none = ap (λ ys. list_any p (map f ys)) (sym (take-all i xs end)) ∙ none

  pub position-end : (p : Y → Bool) → list_any p (map f (take i xs)) ≡ false → None ≡ position p (map f xs)
  position-end p none =
      let e : position_or_len p (map f xs) ≡ length (map f xs) = position_or_len-first p (map f xs) ∙ first-none p (map f xs) (none-end p none) in
      let l : ltb (position_or_len p (map f xs)) (length (map f xs)) ≡ false = le-ltb _ _ (omega (arith, e)) in
      sym (rw l refl)

-- ---- the older lists

-- a list put in front of the older ones, of which 32 stay
pub pushed : {X Y : Type 0} (g : X → Y) (old made new : List X) (x : X) → made ≡ insert old 0 x → new ≡ take 32 made → map g new ≡ take 32 (g x ∷ map g old)
pushed g old made new x e t = ap (map g) t ∙ sym (take-map g 32 made) ∙ ap (λ xs. take 32 (map g xs)) (e ∙ front old)
  where
    front : (xs : List _) → insert xs 0 x ≡ x ∷ xs
    front [] = refl
    front (y ∷ ys) = refl

-- two numbers that differ, and that do not
pub differ : (a b : ℕ) → (a ≡ b → ⊥) → false ≡ (a == b)
differ a b apart = elim (cases_Bool (a == b)) [ inl t ↦ absurd (apart ((Decides-eqb a b).0 t)) | inr t ↦ sym t ]

pub agree : (a b : ℕ) → a ≡ b → true ≡ (a == b)
agree a b e = sym ((Decides-eqb a b).1 e)

-- where none passes, none is found
pub find-absent : {X : Type 0} (p : X → Bool) (xs : List X) → list_any p xs ≡ false → find p xs ≡ None
find-absent p [] e = refl
find-absent p (x ∷ xs) e = let parts = or_parts (p x) (list_any p xs) e in rw parts.0 (find-absent p xs parts.1)

-- an element in place of one with an equal image
pub map-set_equal : {X Y : Type 0} (v : X → Y) (xs : List X) (i : ℕ) (x y : X) → y ≡ get_or xs i y → v x ≡ v y → map v (set xs i x) ≡ map v xs
map-set_equal v [] i x y at e = refl
map-set_equal {X} {Y} v (z ∷ xs) zero x y at e = ap (λ (w : Y). w ∷ map v xs) (e ∙ ap v at)
map-set_equal {X} {Y} v (z ∷ xs) (suc i) x y at e = ap (λ (ws : List Y). v z ∷ ws) (map-set_equal v xs i x y at e)
