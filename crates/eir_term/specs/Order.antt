-- What it is for a list to be all homomorphisms that agree with a start map, in order (this project's own order).
--   AllLater R xs            == each element stands in the relation to every later one
--   IsBefore ps qs           == the first list is less where the two first differ
--   KeepsFixed m             == m moves no fixed constant
--   AgreesWith start A h     == h sends what start names where start sends it, on the values of A
--   AreAllHoms A B start hs  == hs has each homomorphism from A to B that agrees with start, once and in order
use Rattle.std.specs.Prelude.{◌≡◌, ℕ, ◌<◌, ◌⊎◌, List, [], ◌∷◌}
use Rattle.eir_term.specs.declared.val.Val.{Val}
use Rattle.eir_term.specs.declared.val.Val.TheVariants.{Fixed}
use Rattle.eir_term.specs.declared.fact.Fact.{Fact}
use Rattle.eir_term.specs.Lists.{◌∈◌}
use Rattle.eir_term.specs.Instances.{values}
use Rattle.eir_term.specs.Maps.{domain_of, image}
use Rattle.eir_term.specs.Homs.{Hom}
use Rattle.eir_term.specs.Search.{image_places}

-- each element stands in the relation to every later one
abbrev pub AllLater : {X : Type 0} → (X → X → Type 0) → List X → Type 0
AllLater R [] = Unit {0}
AllLater {X} R (x ∷ xs) = ((y : X) → y ∈ xs → R x y) × AllLater R xs

-- the first list is less where the two first differ
abbrev pub IsBefore : List ℕ → List ℕ → Type 0
IsBefore [] qs = ⊥
IsBefore (p ∷ ps) [] = ⊥
IsBefore (p ∷ ps) (q ∷ qs) = (p < q) ⊎ ((p ≡ q) × IsBefore ps qs)

-- m moves no fixed constant
abbrev pub KeepsFixed : List (Val × Val) → Type 0
KeepsFixed m = (n : ℕ) → image m (Fixed n) ≡ Fixed n

-- h sends each value of A that start names where start sends it
abbrev pub AgreesWith : List (Val × Val) → List Fact → List (Val × Val) → Type 0
AgreesWith start A h = (v : Val) → v ∈ values A → v ∈ domain_of start → image h v ≡ image start v

-- the list has, in the order of the places of images and each once, exactly the homomorphisms from A to B on the
-- values of A that agree with start
pub record AreAllHoms (A B : List Fact) (start : List (Val × Val)) (hs : List (List (Val × Val))) : Type 0 where
  pub sound : (h : List (Val × Val)) → h ∈ hs → Hom h A B × (domain_of h ≡ values A) × AgreesWith start A h
  pub complete : (h : List (Val × Val)) → Hom h A B → domain_of h ≡ values A → AgreesWith start A h → h ∈ hs
  pub ascending : AllLater (λ h k. IsBefore (image_places A B start h) (image_places A B start k)) hs
