-- Partial matches one level after the other, and the same from one match down. The points are `partials-depth` and
-- `tries-depth`.
--   longest k ps      == the partial matches that have k more places than this one
--   tries_beyond k ps == the tries below this match, k levels deep
use Rattle.std.proofs.Common.{◌≡◌, ℕ, zero, suc, ◌+◌, List, [], ◌∷◌, ◌++◌, flat_map, length, refl, sym, ◌∙◌, ap, arith, append-nil}
use Rattle.std.proofs.lemmas.Grind.{flat_map-append}
use Rattle.eir_term.specs.declared.val.Val.{Val}
use Rattle.eir_term.specs.declared.fact.Fact.{Fact}
use Rattle.eir_term.specs.Search.{next_places, longer, partials, total, tries_below, need}

flat_map-flat_map : {X Y Z : Type 0} (f : X → List Y) (g : Y → List Z) (xs : List X) → flat_map g (flat_map f xs) ≡ flat_map (λ x. flat_map g (f x)) xs
flat_map-flat_map f g [] = refl
flat_map-flat_map f g (x ∷ xs) = flat_map-append g (f x) (flat_map f xs) ∙ ap (λ zs. flat_map g (f x) ++ zs) (flat_map-flat_map f g xs)

flat_map-itself : {X : Type 0} (xs : List X) → flat_map (λ x. x ∷ []) xs ≡ xs
flat_map-itself [] = refl
flat_map-itself (x ∷ xs) = ap (λ ys. x ∷ ys) (flat_map-itself xs)

total-append : {X : Type 0} (w : X → ℕ) (xs ys : List X) → total w (xs ++ ys) ≡ total w xs + total w ys
total-append w [] ys = omega arith
total-append w (x ∷ xs) ys = let r = total-append w xs ys in omega arith

total-zero : {X : Type 0} (xs : List X) → total (λ x. 0) xs ≡ 0
total-zero [] = refl
total-zero (x ∷ xs) = let r = total-zero xs in omega arith

total-flat_map : {X Y : Type 0} (w : X → ℕ) (u : Y → ℕ) (f : X → List Y) (xs : List X) → total (λ x. w x + total u (f x)) xs ≡ total w xs + total u (flat_map f xs)
total-flat_map w u f [] = refl
total-flat_map w u f (x ∷ xs) = let r = total-flat_map w u f xs in let s = total-append u (f x) (flat_map f xs) in omega arith

module _ (A B : List Fact) (start : List (Val × Val)) where
  -- the partial matches that have so many more places than this one
  abbrev pub longest : ℕ → List ℕ → List (List ℕ)
  longest zero ps = ps ∷ []
  longest (suc k) ps = flat_map (longest k) (longer A B start ps)

  -- the tries below this match, so many levels deep
  abbrev pub tries_beyond : ℕ → List ℕ → ℕ
  tries_beyond zero ps = 0
  tries_beyond (suc k) ps = length (next_places A B start ps) + total (tries_beyond k) (longer A B start ps)

  partials-beyond : (n k : ℕ) → flat_map (longest n) (partials A B start k) ≡ partials A B start (k + n)
  partials-beyond zero k = let q : k ≡ k + 0 = omega arith in flat_map-itself (partials A B start k) ∙ ap (partials A B start) q
  partials-beyond (suc n) k =
      let q : suc k + n ≡ k + suc n = omega arith in
      sym (flat_map-flat_map (longer A B start) (longest n) (partials A B start k)) ∙ partials-beyond n (suc k) ∙ ap (partials A B start) q

  pub partials-depth : (n : ℕ) → longest n [] ≡ partials A B start n
  partials-depth n = let q : 0 + n ≡ n = omega arith in sym (append-nil (longest n [])) ∙ partials-beyond n 0 ∙ ap (partials A B start) q

  tries-beyond : (n k : ℕ) → tries_below A B start k + total (tries_beyond n) (partials A B start k) ≡ tries_below A B start (k + n)
  tries-beyond zero k =
      let q : k ≡ k + 0 = omega arith in
      let z = total-zero (partials A B start k) in
      let e : tries_below A B start k + total (λ (ps : List ℕ). 0) (partials A B start k) ≡ tries_below A B start k = omega arith in
      e ∙ ap (tries_below A B start) q
  tries-beyond (suc n) k =
      let q : suc k + n ≡ k + suc n = omega arith in
      let split = total-flat_map (λ ps. length (next_places A B start ps)) (tries_beyond n) (longer A B start) (partials A B start k) in
      let rest = tries-beyond n (suc k) in
      let e : tries_below A B start k + total (tries_beyond (suc n)) (partials A B start k) ≡ tries_below A B start (suc k) + total (tries_beyond n) (partials A B start (suc k)) = omega arith in
      e ∙ rest ∙ ap (tries_below A B start) q

  pub tries-depth : tries_beyond (length A) [] ≡ need A B start
  tries-depth =
      let q : 0 + length A ≡ length A = omega arith in
      let e : tries_beyond (length A) [] ≡ tries_below A B start 0 + total (tries_beyond (length A)) (partials A B start 0) = omega arith in
      e ∙ tries-beyond (length A) 0 ∙ ap (tries_below A B start) q
