-- How a schema is kept in memory (this project's own).
--   Numbered                    == a relation with the number that is kept with it
--   declared es                 == the relations of a table from names to relations
--   separator follows           == ',' where something stands before
--   AddsStamp old new w n k     == a relation more of the name, with n columns, declared at the place k
--   AddsTo side old new w n k   == this on the side, and the other side stays
--   IsSame old new              == places and stamp stay
--   IsSummary side s y          == y has the places of the relations of the side, and its stamp
--   SumsUp s y                  == this for both sides
--   IsTable es y                == each name leads to the relation of that name with its number, and y sums them up
use Rattle.std.specs.Prelude.{◌≡◌, ℕ, Bool, true, false, List, [], ◌∷◌, ◌++◌, map, length, nat_lt, codes, decimal}
use Rattle.std.specs.Global.{Vec}
use Rattle.eir_term.specs.declared.val.Side.{Side}
use Rattle.eir_term.specs.declared.val.Side.TheVariants.{Source, Target}
use Rattle.eir_term.specs.Lists.{places}
use Rattle.eir_schema.specs.declared.summary.SideSummary.{SideSummary}
use Rattle.eir_schema.specs.declared.summary.Summary.{Summary}
use Rattle.eir_schema.specs.Schemas.{Relation, is_of, number_in, relation_names, IsSchema}
use Rattle.eir_schema.specs.Stamps.{comma, side_stamp}

-- a relation with the number that is kept with it
pub record Numbered : Type 0 where
  pub number : ℕ
  pub relation : Relation

-- the relations of a table from names to relations, in its order
abbrev pub declared : List (Vec ℕ × Numbered) → List Relation
declared es = map (λ e. e.1.relation) es

-- ',' where something stands before
abbrev pub separator : Bool → List ℕ
separator false = []
separator true = comma ∷ []

-- the places that are kept for a side
abbrev pub places_on : Side → Summary → List ℕ
places_on Source y = y.source.places.items
places_on Target y = y.target.places.items

-- a relation more of the name, with n columns, declared at the place k
pub record AddsStamp (old new : SideSummary) (name : List ℕ) (n k : ℕ) : Type 0 where
  pub placed : new.places.items ≡ old.places.items ++ k ∷ []
  pub stamped : new.stamp.items ≡ old.stamp.items ++ (separator (nat_lt 0 (length old.places.items)) ++ (name ++ codes "/" ++ decimal n))

-- this on the side, and the other side stays
abbrev pub AddsTo : Side → Summary → Summary → List ℕ → ℕ → ℕ → Type 0
AddsTo Source old new name n k = AddsStamp old.source new.source name n k × (new.target ≡ old.target)
AddsTo Target old new name n k = AddsStamp old.target new.target name n k × (new.source ≡ old.source)

-- places and stamp stay
abbrev pub IsSame : SideSummary → SideSummary → Type 0
IsSame old new = (new.places.items ≡ old.places.items) × (new.stamp.items ≡ old.stamp.items)

-- y has the places of the relations of the side, and its stamp
pub record IsSummary (side : Side) (s : List Relation) (y : SideSummary) : Type 0 where
  pub placed : y.places.items ≡ places (is_of side) 0 s
  pub stamped : y.stamp.items ≡ side_stamp side s

-- this for both sides
pub record SumsUp (s : List Relation) (y : Summary) : Type 0 where
  pub source : IsSummary Source s y.source
  pub target : IsSummary Target s y.target

-- each name leads to the relation of that name with its number, and y sums them up
pub record IsTable (es : List (Vec ℕ × Numbered)) (y : Summary) : Type 0 where
  pub keyed : map (λ e. e.0.items) es ≡ relation_names (declared es)
  pub numbered : map (λ e. e.1.number) es ≡ map (number_in (declared es)) (declared es)
  pub lawful : IsSchema (declared es)
  pub summed_up : SumsUp (declared es) y
