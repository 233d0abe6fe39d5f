-- Lists in order, and places in lists. The points are `AllLater-flat_map` and `AllLater-filter_map`: what lengthens
-- partial matches in order, and what keeps some of them, keeps the order.
use Rattle.std.proofs.Common.{◌≡◌, ℕ, zero, suc, ◌+◌, ◌<◌, ◌⊎◌, inl, inr, Bool, true, false, cond, Decides, List, [], ◌∷◌, ◌++◌, map, filter, flat_map, filter_map, take, length, Option, Some, None, slice_get, refl, sym, ◌∙◌, ap, ap₂, subst, arith}
use Rattle.std.specs.List.{cons_option}
use Rattle.std.proofs.lemmas.Bool.{cases_Bool}
use Rattle.std.proofs.lemmas.Option.{same_Some, none-some}
use Rattle.eir_term.specs.Lists.{◌∈◌, IsDistinct, place_of, places}
use Rattle.eir_term.specs.Order.{AllLater, IsBefore}
use Rattle.eir_term.proofs.ListLaws.{∈-append_cases, ∈-filter_from, ∈-map_from, ∈-flat_map_from}

module _ {X : Type 0} (R : X → X → Type 0) where
  -- two lists in order, each element of the first before each of the second
  pub AllLater-append : (xs ys : List X) → AllLater R xs → AllLater R ys → ((x y : X) → x ∈ xs → y ∈ ys → R x y) → AllLater R (xs ++ ys)
  AllLater-append [] ys a b across = b
  AllLater-append (x ∷ xs) ys a b across = (
    λ y h. elim (∈-append_cases y xs ys h) [ inl k ↦ a.0 y k | inr k ↦ across x y (inl refl) k ],
    AllLater-append xs ys a.1 b (λ u y i j. across u y (inr i) j),
  )

  -- a filter keeps the order
  pub AllLater-filter : (p : X → Bool) (xs : List X) → AllLater R xs → AllLater R (filter p xs)
  AllLater-filter p [] a = tt
  AllLater-filter p (x ∷ xs) a = elim (cases_Bool (p x))
      [ inl t ↦ rw t (λ y h. a.0 y (∈-filter_from p y xs h).0, AllLater-filter p xs a.1) | inr t ↦ rw t (AllLater-filter p xs a.1) ]

  -- where nothing is before itself, an ordered list has each element once
  pub AllLater-distinct : (xs : List X) → ((x : X) → R x x → ⊥) → AllLater R xs → IsDistinct xs
  AllLater-distinct [] never a = tt
  AllLater-distinct (x ∷ xs) never a = (λ h. never x (a.0 x h), AllLater-distinct xs never a.1)

  -- where no two elements are before each other, lists in order with the same elements are equal
  pub AllLater-unique : (xs ys : List X) → ((x y : X) → R x y → R y x → ⊥) → AllLater R xs → AllLater R ys →
      ((x : X) → x ∈ xs → x ∈ ys) → ((x : X) → x ∈ ys → x ∈ xs) → xs ≡ ys
  AllLater-unique [] [] apart a b to from = refl
  AllLater-unique [] (y ∷ ys) apart a b to from = absurd (from y (inl refl))
  AllLater-unique (x ∷ xs) [] apart a b to from = absurd (to x (inl refl))
  AllLater-unique (x ∷ xs) (y ∷ ys) apart a b to from = ap₂ (λ z zs. z ∷ zs) same (AllLater-unique xs ys apart a.1 b.1 (λ z i. later_to z i (to z (inr i))) (λ z i. later_from z i (from z (inr i))))
    where
      first : x ∈ (y ∷ ys) → y ∈ (x ∷ xs) → x ≡ y
      first (inl e) k = e
      first (inr i) (inl e) = sym e
      first (inr i) (inr j) = absurd (apart x y (a.0 y j) (b.0 x i))

      same : x ≡ y
      same = first (to x (inl refl)) (from y (inl refl))

      later_to : (z : X) → z ∈ xs → z ∈ (y ∷ ys) → z ∈ ys
      later_to z i (inl e) = let r : R x x = subst (R x) (e ∙ sym same) (a.0 z i) in absurd (apart x x r r)
      later_to z i (inr j) = j

      later_from : (z : X) → z ∈ ys → z ∈ (x ∷ xs) → z ∈ xs
      later_from z i (inl e) = let r : R y y = subst (R y) (e ∙ same) (b.0 z i) in absurd (apart y y r r)
      later_from z i (inr j) = j

module _ {X Y : Type 0} (R : X → X → Type 0) (S : Y → Y → Type 0) where
  -- a function that keeps the order, element by element
  pub AllLater-map : (f : X → Y) (xs : List X) → ((x y : X) → R x y → S (f x) (f y)) → AllLater R xs → AllLater S (map f xs)
  AllLater-map f [] keep a = tt
  AllLater-map f (x ∷ xs) keep a =
      (λ y h. let r = ∈-map_from f y xs h in subst (λ z. S (f x) z) (sym r.2) (keep x r.0 (a.0 r.0 r.1)), AllLater-map f xs keep a.1)

  -- each element makes a list in order, and lists of elements in order are in order
  pub AllLater-flat_map : (f : X → List Y) (xs : List X) → AllLater R xs → ((x : X) → x ∈ xs → AllLater S (f x)) →
      ((x y : X) → x ∈ xs → y ∈ xs → R x y → (u v : Y) → u ∈ f x → v ∈ f y → S u v) → AllLater S (flat_map f xs)
  AllLater-flat_map f [] a each across = tt
  AllLater-flat_map f (x ∷ xs) a each across =
      AllLater-append S (f x) (flat_map f xs) (each x (inl refl)) (AllLater-flat_map f xs a.1 (λ y i. each y (inr i)) (λ y z i j. across y z (inr i) (inr j)))
      (λ u v i j. let r = ∈-flat_map_from f v xs j in across x r.0 (inl refl) (inr r.1) (a.0 r.0 r.1) u v i r.2)

-- what may be there stands in front
∈-cons_option : {Y : Type 0} (o : Option Y) (y : Y) (ys : List Y) → y ∈ ys → y ∈ cons_option o ys
∈-cons_option None y ys h = h
∈-cons_option (Some z) y ys h = inr h

∈-cons_option_cases : {Y : Type 0} (o : Option Y) (y : Y) (ys : List Y) → y ∈ cons_option o ys → (o ≡ Some y) ⊎ (y ∈ ys)
∈-cons_option_cases None y ys h = inr h
∈-cons_option_cases (Some z) y ys (inl e) = inl (ap Some (sym e))
∈-cons_option_cases (Some z) y ys (inr h) = inr h

module _ {X Y : Type 0} (f : X → Option Y) where
  -- what f gives of an element is in the list
  pub ∈-filter_map : (x : X) (y : Y) (xs : List X) → x ∈ xs → f x ≡ Some y → y ∈ filter_map f xs
  ∈-filter_map x y [] h e = elim h [ ]
  ∈-filter_map x y (z ∷ xs) (inl p) e = let q : f z ≡ Some y = sym (ap f p) ∙ e in rw q (inl refl)
  ∈-filter_map x y (z ∷ xs) (inr h) e = ∈-cons_option (f z) y (filter_map f xs) (∈-filter_map x y xs h e)

  -- each element of the list is what f gives of some element
  pub ∈-filter_map_from : (y : Y) (xs : List X) → y ∈ filter_map f xs → (x : X) × (x ∈ xs) × (f x ≡ Some y)
  ∈-filter_map_from y [] h = elim h [ ]
  ∈-filter_map_from y (z ∷ xs) h = elim (∈-cons_option_cases (f z) y (filter_map f xs) h)
      [ inl e ↦ (z, inl refl, e) | inr k ↦ (let r = ∈-filter_map_from y xs k in (r.0, inr r.1, r.2)) ]

  -- where f gives something of each element, it gives as many
  pub length-filter_map : (xs : List X) → ((x : X) → x ∈ xs → (y : Y) × (f x ≡ Some y)) → length (filter_map f xs) ≡ length xs
  length-filter_map [] each = refl
  length-filter_map (x ∷ xs) each = let r = each x (inl refl) in rw r.1 (ap suc (length-filter_map xs (λ z i. each z (inr i))))

  -- and what it gives of the first ones comes first
  pub take-filter_map : (k : ℕ) (xs : List X) → ((x : X) → x ∈ xs → (y : Y) × (f x ≡ Some y)) → filter_map f (take k xs) ≡ take k (filter_map f xs)
  take-filter_map zero [] each = refl
  take-filter_map zero (x ∷ xs) each = refl
  take-filter_map (suc k) [] each = refl
  take-filter_map (suc k) (x ∷ xs) each = let r = each x (inl refl) in rw r.1 (ap (λ ys. r.0 ∷ ys) (take-filter_map k xs (λ z i. each z (inr i))))

  -- what f gives of a list in order is in order
  pub AllLater-filter_map : (R : X → X → Type 0) (S : Y → Y → Type 0) (xs : List X) → AllLater R xs →
      ((x y : X) (u v : Y) → x ∈ xs → y ∈ xs → R x y → f x ≡ Some u → f y ≡ Some v → S u v) → AllLater S (filter_map f xs)
  AllLater-filter_map R S [] a keep = tt
  AllLater-filter_map R S (x ∷ xs) a keep = by (f x) refl (AllLater-filter_map R S xs a.1 (λ y z u v i j. keep y z u v (inr i) (inr j)))
    where
      by : (o : Option Y) → f x ≡ o → AllLater S (filter_map f xs) → AllLater S (cons_option o (filter_map f xs))
      by None e rest = rest
      by (Some u) e rest = (λ v h. let r = ∈-filter_map_from v xs h in keep x r.0 u v (inl refl) (inr r.1) (a.0 r.0 r.1) e r.2, rest)

-- no list is before itself
pub IsBefore-irrefl : (ps : List ℕ) → IsBefore ps ps → ⊥
IsBefore-irrefl [] b = b
IsBefore-irrefl (p ∷ ps) (inl l) = absurd (omega arith)
IsBefore-irrefl (p ∷ ps) (inr b) = IsBefore-irrefl ps b.1

-- no two lists are before each other
pub IsBefore-apart : (ps qs : List ℕ) → IsBefore ps qs → IsBefore qs ps → ⊥
IsBefore-apart [] qs a b = a
IsBefore-apart (p ∷ ps) [] a b = a
IsBefore-apart (p ∷ ps) (q ∷ qs) (inl l) (inl k) = absurd (omega arith)
IsBefore-apart (p ∷ ps) (q ∷ qs) (inl l) (inr b) = let e = b.0 in absurd (omega arith)
IsBefore-apart (p ∷ ps) (q ∷ qs) (inr a) (inl k) = let e = a.0 in absurd (omega arith)
IsBefore-apart (p ∷ ps) (q ∷ qs) (inr a) (inr b) = IsBefore-apart ps qs a.1 b.1

-- lists of one length stay in order whatever follows them
pub IsBefore-append : (ps qs us vs : List ℕ) → length ps ≡ length qs → IsBefore ps qs → IsBefore (ps ++ us) (qs ++ vs)
IsBefore-append [] qs us vs e b = absurd b
IsBefore-append (p ∷ ps) [] us vs e b = absurd b
IsBefore-append (p ∷ ps) (q ∷ qs) us vs e (inl l) = inl l
IsBefore-append (p ∷ ps) (q ∷ qs) us vs e (inr b) = inr (b.0, IsBefore-append ps qs us vs (omega arith) b.1)

-- a list is ordered by its last element where all before it is the same
pub IsBefore-last : (ps : List ℕ) (p q : ℕ) → p < q → IsBefore (ps ++ p ∷ []) (ps ++ q ∷ [])
IsBefore-last [] p q l = inl l
IsBefore-last (r ∷ ps) p q l = inr (refl, IsBefore-last ps p q l)

-- an element stands at some place
pub ∈-slice_get : {X : Type 0} (x : X) (xs : List X) → x ∈ xs → (k : ℕ) × (slice_get xs k ≡ Some x)
∈-slice_get x [] h = elim h [ ]
∈-slice_get x (y ∷ xs) (inl e) = (0, ap Some (sym e))
∈-slice_get x (y ∷ xs) (inr h) = let r = ∈-slice_get x xs h in (suc r.0, r.1)

-- what stands at a place is an element
pub ∈-slice_get_from : {X : Type 0} (x : X) (xs : List X) (k : ℕ) → slice_get xs k ≡ Some x → x ∈ xs
∈-slice_get_from x [] k e = absurd (none-some x e)
∈-slice_get_from x (y ∷ xs) zero e = inl (sym (same_Some y x e))
∈-slice_get_from x (y ∷ xs) (suc k) e = inr (∈-slice_get_from x xs k e)

-- something stands at each place below the length
pub slice_get-below : {X : Type 0} (xs : List X) (k : ℕ) → k < length xs → (x : X) × (slice_get xs k ≡ Some x)
slice_get-below [] k l = absurd (omega arith)
slice_get-below (x ∷ xs) zero l = (x, refl)
slice_get-below (x ∷ xs) (suc k) l = slice_get-below xs k (omega arith)

-- one element more
pub take-slice_get : {X : Type 0} (xs : List X) (k : ℕ) (x : X) → slice_get xs k ≡ Some x → take (suc k) xs ≡ take k xs ++ x ∷ []
take-slice_get [] k x e = absurd (none-some x e)
take-slice_get (y ∷ xs) zero x e = ap (λ z. z ∷ []) (same_Some y x e)
take-slice_get (y ∷ xs) (suc k) x e = ap (λ zs. y ∷ zs) (take-slice_get xs k x e)

-- in a list without repeats an element's place is where it stands
pub place_of-slice_get : {X : Type 0} (eq : X → X → Bool) (same : (a b : X) → Decides (eq a b) (a ≡ b)) (x : X) (xs : List X) (k : ℕ) →
    IsDistinct xs → slice_get xs k ≡ Some x → place_of eq x xs ≡ k
place_of-slice_get eq same x [] k d e = absurd (none-some x e)
place_of-slice_get eq same x (y ∷ xs) zero d e = rw ((same x y).1 (sym (same_Some y x e)))
place_of-slice_get {X} eq same x (y ∷ xs) (suc k) d e = elim (cases_Bool (eq x y)) [
  | inl t ↦ absurd (d.0 (subst (λ (z : X). z ∈ xs) ((same x y).0 t) (∈-slice_get_from x xs k e)))
  | inr t ↦ rw t (ap suc (place_of-slice_get eq same x xs k d.1 e))
]

-- an element that passes has its place among the places, counted on from n
pub ∈-places : {X : Type 0} (p : X → Bool) (n k : ℕ) (x : X) (xs : List X) → slice_get xs k ≡ Some x → p x ≡ true → (n + k) ∈ places p n xs
∈-places p n k x [] e t = absurd (none-some x e)
∈-places p n zero x (y ∷ xs) e t = let s : p y ≡ true = ap p (same_Some y x e) ∙ t in rw s (inl (omega arith))
∈-places p n (suc k) x (y ∷ xs) e t =
    let rest : (n + suc k) ∈ places p (suc n) xs = let q : suc n + k ≡ n + suc k = omega arith in subst (λ m. m ∈ places p (suc n) xs) q (∈-places p (suc n) k x xs e t) in
    elim (cases_Bool (p y)) [ inl s ↦ rw s (inr rest) | inr s ↦ rw s rest ]

-- at each of the places stands an element that passes
pub ∈-places_from : {X : Type 0} (p : X → Bool) (n q : ℕ) (xs : List X) → q ∈ places p n xs → (k : ℕ) × (x : X) × (q ≡ n + k) × (slice_get xs k ≡ Some x) × (p x ≡ true)
∈-places_from p n q [] h = elim h [ ]
∈-places_from {X} p n q (x ∷ xs) h = by (p x) refl (∈-places_from p (suc n) q xs) h
  where
    Found : ℕ → List X → Type 0
    Found n xs = (k : ℕ) × (y : X) × (q ≡ n + k) × (slice_get xs k ≡ Some y) × (p y ≡ true)

    later : Found (suc n) xs → Found n (x ∷ xs)
    later r = (suc r.0, r.1, omega arith, r.3, r.4)

    by : (b : Bool) → p x ≡ b → (q ∈ places p (suc n) xs → Found (suc n) xs) → q ∈ cond b (n ∷ places p (suc n) xs) (places p (suc n) xs) → Found n (x ∷ xs)
    by true t rest (inl e) = (0, x, omega arith, refl, t)
    by true t rest (inr k) = later (rest k)
    by false t rest k = later (rest k)

-- where all elements pass, there are as many places
pub length-places : {X : Type 0} (p : X → Bool) (n : ℕ) (xs : List X) → ((x : X) → x ∈ xs → p x ≡ true) → length (places p n xs) ≡ length xs
length-places p n [] all = refl
length-places p n (x ∷ xs) all = let t = all x (inl refl) in rw t (ap suc (length-places p (suc n) xs (λ y i. all y (inr i))))

-- places ascend
pub places-ascending : {X : Type 0} (p : X → Bool) (n : ℕ) (xs : List X) → AllLater (λ a b. a < b) (places p n xs)
places-ascending p n [] = tt
places-ascending p n (x ∷ xs) = elim (cases_Bool (p x)) [
  | inl t ↦ rw t (λ q h. (let r = ∈-places_from p (suc n) q xs h in let e = r.2 in omega arith), places-ascending p (suc n) xs)
  | inr t ↦ rw t (places-ascending p (suc n) xs)
]
