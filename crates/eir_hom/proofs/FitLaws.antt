-- The answers for kinds of values, and for the values.
use Rattle.std.proofs.Common.{◌≡◌, ◌≤◌, ◌<◌, ℕ, zero, suc, ◌+◌, Bool, false, eqb, ◌&&◌, List, [], ◌∷◌, ◌++◌, map, drop, length, get_or, refl, sym, ap, ◌∙◌, subst, inl, inr, add-one, drop-cons, arith}
use Rattle.std.proofs.lemmas.List.{get_or-map}
use Rattle.std.proofs.lemmas.Bool.{cases_Bool}
use Rattle.std.proofs.lemmas.Bool.Decides.{Decides-eqb}
use Rattle.eir_term.specs.Lists.{◌∈◌}
use Rattle.eir_term.specs.Profiles.{Mark, is_within}
use Rattle.eir_hom.specs.FactRows.{AllUnder}
use Rattle.eir_hom.specs.Fits.{fits_row}

-- what holds below n holds of numbers below n
pub AllUnder-from : (n : ℕ) (ks : List ℕ) → ((k : ℕ) → k ∈ ks → k < n) → AllUnder n ks
AllUnder-from n [] all = tt
AllUnder-from n (k ∷ ks) all = (all k (inl refl), AllUnder-from n ks (λ j h. all j (inr h)))

pub AllUnder-∈ : (n : ℕ) (ks : List ℕ) (k : ℕ) → AllUnder n ks → k ∈ ks → k < n
AllUnder-∈ n [] k all h = elim h [ ]
AllUnder-∈ n (j ∷ ks) k all (inl e) = subst (λ i. i < n) (sym e) all.0
AllUnder-∈ n (j ∷ ks) k all (inr h) = AllUnder-∈ n ks k all.1 h

-- and the one at a place
pub AllUnder-at : (n : ℕ) (ks : List ℕ) (i d : ℕ) → AllUnder n ks → i < length ks → get_or ks i d < n
AllUnder-at n [] i d all h = absurd (omega arith)
AllUnder-at n (k ∷ ks) zero d all h = all.0
AllUnder-at n (k ∷ ks) (suc i) d all h = AllUnder-at n ks i d all.1 (omega arith)

pub AllUnder-more : (n m : ℕ) (ks : List ℕ) → n ≤ m → AllUnder n ks → AllUnder m ks
AllUnder-more n m [] h all = tt
AllUnder-more n m (k ∷ ks) h all = (omega (arith, all.0), AllUnder-more n m ks h all.1)

pub AllUnder-push : (n : ℕ) (ks : List ℕ) (k : ℕ) → AllUnder n ks → k < n → AllUnder n (ks ++ k ∷ [])
AllUnder-push n [] k all h = (h, tt)
AllUnder-push n (j ∷ ks) k all h = (all.0, AllUnder-push n ks k all.1 h)

pub map-map : {X Y Z : Type 0} (f : Y → Z) (g : X → Y) (xs : List X) → map f (map g xs) ≡ map (λ x. f (g x)) xs
map-map f g [] = refl
map-map f g (x ∷ xs) = ap (λ ys. f (g x) ∷ ys) (map-map f g xs)

-- the answer for two profiles
pub answer-within : (ps qs : List (List Mark)) (n m : ℕ) → n < length ps → m < length qs → get_or (get_or (map (λ p. map (is_within p) qs) ps) n []) m false ≡ is_within (get_or ps n []) (get_or qs m [])
answer-within ps qs n m h g =
    ap (λ r. get_or r m false) (get_or-map (λ p. map (is_within p) qs) ps n [] [] h) ∙ get_or-map (is_within (get_or ps n [])) qs m [] false g

-- a column more
pub fits-step : (t : List (List Bool)) (ns ms : List ℕ) (i : ℕ) → i < length ns → i < length ms → fits_row t (drop i ns) (drop i ms) ≡ get_or (get_or t (get_or ns i 0) []) (get_or ms i 0) false && fits_row t (drop (i + 1) ns) (drop (i + 1) ms)
fits-step t ns ms i h g = rw (add-one, drop-cons ns i 0 h, drop-cons ms i 0 g) refl

pub fits-none : (t : List (List Bool)) (ns ms : List ℕ) → (length ns ≡ length ms → ⊥) → fits_row t ns ms ≡ false
fits-none t [] [] n = absurd (n refl)
fits-none t [] (m ∷ ms) n = refl
fits-none t (k ∷ ns) [] n = refl
fits-none t (k ∷ ns) (m ∷ ms) n = elim (cases_Bool (get_or (get_or t k []) m false)) [ inl s ↦ rw s (fits-none t ns ms (λ e. n (ap suc e))) | inr s ↦ rw s refl ]

-- numbers that differ are told apart
pub eqb-apart : (m n : ℕ) → (m ≡ n → ⊥) → eqb m n ≡ false
eqb-apart m n d = elim (cases_Bool (eqb m n)) [ inl t ↦ absurd (d ((Decides-eqb m n).0 t)) | inr f ↦ f ]
