-- Homomorphisms between instances (textbook; here they may move constants, and fix each fixed constant).
--   IsMorphism g K L  == the function g sends facts of K to facts of L and fixes the fixed constants
--   Hom h K L         == the map h names each value of K and is such a function
--   Fixes h K         == h sends each constant of K to itself
use Rattle.std.specs.Prelude.{◌≡◌, ℕ, List}
use Rattle.eir_term.specs.declared.val.Val.{Val}
use Rattle.eir_term.specs.declared.val.Val.TheVariants.{Fixed}
use Rattle.eir_term.specs.declared.fact.Fact.{Fact}
use Rattle.eir_term.specs.Lists.{◌∈◌, IsDistinct}
use Rattle.eir_term.specs.Instances.{values, consts}
use Rattle.eir_term.specs.Maps.{domain_of, image, fact_image}

-- g sends each fact of K to a fact of L, and each fixed constant to itself
pub record IsMorphism (g : Val → Val) (K L : List Fact) : Type 0 where
  pub sends : (f : Fact) → f ∈ K → fact_image g f ∈ L
  pub fixed : (n : ℕ) → g (Fixed n) ≡ Fixed n

-- a finite list of pairs that is a homomorphism from K to L
pub record Hom (h : List (Val × Val)) (K L : List Fact) : Type 0 where
  pub single : IsDistinct (domain_of h)
  pub total : (v : Val) → v ∈ values K → v ∈ domain_of h
  pub morphism : IsMorphism (image h) K L

-- h sends each constant of K to itself
abbrev pub Fixes : List (Val × Val) → List Fact → Type 0
Fixes h K = (v : Val) → v ∈ consts K → image h v ≡ v
