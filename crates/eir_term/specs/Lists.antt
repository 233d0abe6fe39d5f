-- Lists read as finite sets: membership, distinctness, first occurrences, places. This project's own.
--   x ∈ xs            == x is an element
--   IsDistinct xs     == no element stands twice
--   distinct eq xs    == each element once, by first occurrence
--   place_of eq x xs  == the place of the first element that is x
--   places p n xs     == the places of the elements that pass, counted on from n
use Rattle.std.specs.Prelude.{◌≡◌, ℕ, suc, ◌⊎◌, Bool, cond, List, [], ◌∷◌}

infix 4 ◌∈◌
-- x is an element of the list
abbrev pub ◌∈◌ : {X : Type 0} → X → List X → Type 0
x ∈ [] = ⊥
x ∈ (y ∷ ys) = (x ≡ y) ⊎ (x ∈ ys)

-- no element stands twice
abbrev pub IsDistinct : {X : Type 0} → List X → Type 0
IsDistinct [] = Unit {0}
IsDistinct (x ∷ xs) = (x ∈ xs → ⊥) × IsDistinct xs

-- the elements without x, by the test for equality
abbrev pub without : {X : Type 0} → (X → X → Bool) → X → List X → List X
without eq x [] = []
without eq x (y ∷ ys) = cond (eq x y) (without eq x ys) (y ∷ without eq x ys)

-- each element once, by first occurrence
abbrev pub distinct : {X : Type 0} → (X → X → Bool) → List X → List X
distinct eq [] = []
distinct eq (x ∷ xs) = x ∷ without eq x (distinct eq xs)

-- the place of the first element that is x, from 0, or the length where there is none
abbrev pub place_of : {X : Type 0} → (X → X → Bool) → X → List X → ℕ
place_of eq x [] = 0
place_of eq x (y ∷ ys) = cond (eq x y) 0 (suc (place_of eq x ys))

-- the places of the elements that pass, ascending, counted on from n
abbrev pub places : {X : Type 0} → (X → Bool) → ℕ → List X → List ℕ
places p n [] = []
places p n (x ∷ xs) = cond (p x) (n ∷ places p (suc n) xs) (places p (suc n) xs)
