-- Extensions read over functions. The point is `Extends-from_by` with `by-from_Extends`: whether a homomorphism extends
-- may be asked of total functions on values, and the laws of pull-backs and of canonical mappings ask it so.
--   ExtendsBy g J J'  == some morphism from J to J' agrees with g on the constants of J
use Rattle.std.proofs.Common.{◌≡◌, inl, List, [], ◌∷◌, refl}
use Rattle.eir_term.specs.declared.val.Val.{Val}
use Rattle.eir_term.specs.declared.fact.Fact.{Fact}
use Rattle.eir_term.specs.Lists.{◌∈◌}
use Rattle.eir_term.specs.Instances.{consts}
use Rattle.eir_term.specs.Maps.{image}
use Rattle.eir_term.specs.Homs.{IsMorphism}
use Rattle.eir_term.specs.Extension.{Extends}
use Rattle.eir_term.proofs.HomLaws.{Extends-from}

-- some morphism from J to J' agrees with g on the constants of J
abbrev pub ExtendsBy : (Val → Val) → List Fact → List Fact → Type 0
ExtendsBy g J J' = (k : Val → Val) × IsMorphism k J J' × ((v : Val) → v ∈ consts J → k v ≡ g v)

pub by-from_Extends : (h : List (Val × Val)) (J J' : List Fact) → Extends h J J' → ExtendsBy (image h) J J'
by-from_Extends h J J' x = (image x.0, (x.1).morphism, x.2)

pub Extends-from_by : (h : List (Val × Val)) (J J' : List Fact) → ExtendsBy (image h) J J' → Extends h J J'
Extends-from_by h J J' x = Extends-from h x.0 J J' x.1 x.2

-- an extension asks nothing of an instance without facts
pub ExtendsBy-unless_empty : (g : Val → Val) (J J' : List Fact) → ((f : Fact) → f ∈ J → ExtendsBy g J J') → ExtendsBy g J J'
ExtendsBy-unless_empty g [] J' rest = (λ v. v, record { sends = λ f i. absurd i; fixed = λ n. refl }, λ v i. absurd i)
ExtendsBy-unless_empty g (f ∷ J) J' rest = rest f (inl refl)
