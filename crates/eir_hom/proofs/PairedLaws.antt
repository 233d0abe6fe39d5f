-- Lists whose elements at equal places stand in a relation. The point is `Paired-places`: the k-th of the elements that
-- pass a test stands at the k-th of the places of elements that pass it.
--   Paired R xs ys     == as many elements, and those at equal places stand in the relation
--   IsAt T K c p       == the c-th element of K that passes the test stands at the place p
use Rattle.std.proofs.Common.{◌≡◌, ℕ, suc, ◌+◌, inl, inr, Bool, true, false, List, [], ◌∷◌, ◌++◌, map, filter, flat_map, filter_map, length, Option, Some, slice_get, refl, sym, ◌∙◌, ap, ap₂, arith}
use Rattle.std.specs.List.{range_with_len, sum_by}
use Rattle.std.proofs.lemmas.Bool.{cases_Bool}
use Rattle.std.proofs.lemmas.List.{map-append}
use Rattle.std.proofs.lemmas.List.Elements.{filter_map-append}
use Rattle.std.proofs.lemmas.List.Sums.{sum_by-cons}
use Rattle.eir_term.specs.Lists.{places}
use Rattle.eir_term.specs.Search.{total}

-- as many elements, and those at equal places stand in the relation
abbrev pub Paired : {X Y : Type 0} → (X → Y → Type 0) → List X → List Y → Type 0
Paired R [] [] = Unit {0}
Paired R [] (y ∷ ys) = ⊥
Paired R (x ∷ xs) [] = ⊥
Paired R (x ∷ xs) (y ∷ ys) = R x y × Paired R xs ys

pub Paired-length : {X Y : Type 0} (R : X → Y → Type 0) (xs : List X) (ys : List Y) → Paired R xs ys → length xs ≡ length ys
Paired-length R [] [] h = refl
Paired-length R [] (y ∷ ys) h = absurd h
Paired-length R (x ∷ xs) [] h = absurd h
Paired-length R (x ∷ xs) (y ∷ ys) h = ap suc (Paired-length R xs ys h.1)

-- of paired elements that pass their tests alike, those that pass
pub Paired-filter : {X Y Z : Type 0} (P : X → Y → Type 0) (Q : X → Z → Type 0) (h : Y → Z) (a : X → Bool) (b : Z → Bool) (xs : List X) (ys : List Y) → Paired P xs ys →
    ((x : X) (y : Y) → P x y → (a x ≡ b (h y)) × (a x ≡ true → Q x (h y))) → Paired Q (filter a xs) (filter b (map h ys))
Paired-filter P Q h a b [] [] p keep = tt
Paired-filter P Q h a b [] (y ∷ ys) p keep = absurd p
Paired-filter P Q h a b (x ∷ xs) [] p keep = absurd p
Paired-filter P Q h a b (x ∷ xs) (y ∷ ys) p keep =
    let now = keep x y p.0 in
    let rest = Paired-filter P Q h a b xs ys p.1 keep in
    elim (cases_Bool (a x)) [
      | inl t ↦ (let u : b (h y) ≡ true = sym now.0 ∙ t in rw (t, u) (now.1 t, rest))
      | inr t ↦ (let u : b (h y) ≡ false = sym now.0 ∙ t in rw (t, u) rest)
    ]

-- equal numbers of paired elements have equal sums
pub Paired-sum : {X Y : Type 0} (R : X → Y → Type 0) (f : X → ℕ) (g : Y → ℕ) (xs : List X) (ys : List Y) → Paired R xs ys → ((x : X) (y : Y) → R x y → f x ≡ g y) → sum_by f xs ≡ total g ys
Paired-sum R f g [] [] p same = refl
Paired-sum R f g [] (y ∷ ys) p same = absurd p
Paired-sum R f g (x ∷ xs) [] p same = absurd p
Paired-sum R f g (x ∷ xs) (y ∷ ys) p same = sum_by-cons f x xs ∙ ap₂ (λ n m. n + m) (same x y p.0) (Paired-sum R f g xs ys p.1 same)

-- equal results of paired elements make equal lists
pub Paired-flat_map : {X Y U V W : Type 0} (R : X → Y → Type 0) (f : X → List U) (g : Y → List V) (l : U → W) (r : V → Option W) (xs : List X) (ys : List Y) → Paired R xs ys →
    ((x : X) (y : Y) → R x y → map l (f x) ≡ filter_map r (g y)) → map l (flat_map f xs) ≡ filter_map r (flat_map g ys)
Paired-flat_map R f g l r [] [] p same = refl
Paired-flat_map R f g l r [] (y ∷ ys) p same = absurd p
Paired-flat_map R f g l r (x ∷ xs) [] p same = absurd p
Paired-flat_map R f g l r (x ∷ xs) (y ∷ ys) p same =
    map-append l (f x) (flat_map f xs) ∙ ap₂ (λ us vs. us ++ vs) (same x y p.0) (Paired-flat_map R f g l r xs ys p.1 same)
    ∙ sym (filter_map-append r (g y) (flat_map g ys))

-- the c-th of these elements, which passes the test, stands at the place p of the list
pub record IsAt {X : Type 0} (T : X → Bool) (kept all : List X) (c p : ℕ) : Type 0 where
  pub element : X
  pub chosen : slice_get kept c ≡ Some element
  pub there : slice_get all p ≡ Some element
  pub passes : T element ≡ true

-- the same, where both lists begin before xs
Paired-places_from : {X : Type 0} (T : X → Bool) (kept all xs : List X) (c p : ℕ) → ((k : ℕ) → slice_get all (p + k) ≡ slice_get xs k) →
    ((k : ℕ) → slice_get kept (c + k) ≡ slice_get (filter T xs) k) → Paired (IsAt T kept all) (range_with_len c (length (filter T xs))) (places T p xs)
Paired-places_from T kept all [] c p there chosen = tt
Paired-places_from T kept all (x ∷ xs) c p there chosen =
    let later : (k : ℕ) → slice_get all (suc p + k) ≡ slice_get xs k = λ k. let q : suc p + k ≡ p + suc k = omega arith in ap (slice_get all) q ∙ there (suc k) in
    elim (cases_Bool (T x)) [
      | inl t ↦ (
          let now : (k : ℕ) → slice_get kept (c + k) ≡ slice_get (x ∷ filter T xs) k = λ k. chosen k ∙ rw t in
          let rest : (k : ℕ) → slice_get kept ((c + 1) + k) ≡ slice_get (filter T xs) k = λ k. let q : (c + 1) + k ≡ c + suc k = omega arith in ap (slice_get kept) q ∙ now (suc k) in
          let first : slice_get all p ≡ Some x = let q : p ≡ p + 0 = omega arith in ap (slice_get all) q ∙ there 0 in
          let at : slice_get kept c ≡ Some x = let q : c ≡ c + 0 = omega arith in ap (slice_get kept) q ∙ now 0 in
          rw t (record { element = x; chosen = at; there = first; passes = t }, Paired-places_from T kept all xs (c + 1) (suc p) later rest)
          )
      | inr t ↦ (
          let now : (k : ℕ) → slice_get kept (c + k) ≡ slice_get (filter T xs) k = λ k. chosen k ∙ rw t in
          rw t (Paired-places_from T kept all xs c (suc p) later now)
          )
    ]

-- the elements that pass, by their numbers and by their places
pub Paired-places : {X : Type 0} (T : X → Bool) (K : List X) → Paired (IsAt T (filter T K) K) (range_with_len 0 (length (filter T K))) (places T 0 K)
Paired-places T K = Paired-places_from T (filter T K) K K 0 0
    (λ k. let q : 0 + k ≡ k = omega arith in ap (slice_get K) q) (λ k. let q : 0 + k ≡ k = omega arith in ap (slice_get (filter T K)) q)
