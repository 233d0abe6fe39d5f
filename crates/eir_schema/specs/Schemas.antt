-- Schemas: the relations of the source and of the target, in the order in which they were declared (textbook). The
-- number of a relation is twice its place, from 0, among the relations of its side, and one more on the target side
-- (this project's own). So it does not rest on how the two sides were interleaved.
--   Relation              == a side, a name and the names of the columns
--   is_of side r          == the relation is of the side
--   relations_of side s   == the relations of the side
--   relation_names s      == the names of all relations
--   next_number side s    == the number of the relation that is declared on the side next
--   number_in s r         == the number of a relation
--   relation_named s w    == the relation of the name, or nothing
--   find_relation s w     == the number, side and arity of the relation of the name, or nothing
--   relation_at s n       == the relation of the number, or nothing
--   name_at s n           == the name of the relation of the number, or nothing
--   column_at s n k       == the name of its k-th column, from 0, or nothing
--   number_at s k         == the number of the relation that was declared at the place, or nothing
--   IsSchema s            == no name stands twice, sides and relations are within their limits
use Rattle.std.specs.Prelude.{ℕ, suc, ◌+◌, ◌*◌, ◌/◌, ◌%◌, ◌==◌, ◌≤◌, Bool, true, false, cond, List, [], ◌∷◌, map, filter, find, length, Option, Some, None, slice_get, option_map, option_and_then}
use Rattle.std.specs.Str.{bytes_eq}
use Rattle.eir_term.specs.declared.val.Side.{Side}
use Rattle.eir_term.specs.declared.val.Side.TheVariants.{Source, Target}
use Rattle.eir_term.specs.Lists.{◌∈◌, IsDistinct, place_of}
use Rattle.eir_schema.specs.declared.relation.RelInfo.{RelInfo}

-- a side, a name and the names of the columns
pub record Relation : Type 0 where
  pub side : Side
  pub name : List ℕ
  pub columns : List (List ℕ)

-- the sides are the same
abbrev pub same_side : Side → Side → Bool
same_side Source Source = true
same_side Source Target = false
same_side Target Source = false
same_side Target Target = true

-- the relation is of the side
abbrev pub is_of : Side → Relation → Bool
is_of side r = same_side side r.side

-- the relations of the side
abbrev pub relations_of : Side → List Relation → List Relation
relations_of side s = filter (is_of side) s

-- the names of all relations
abbrev pub relation_names : List Relation → List (List ℕ)
relation_names s = map (λ r. r.name) s

-- 0 for the source, 1 for the target
abbrev pub side_number : Side → ℕ
side_number Source = 0
side_number Target = 1

-- the number of the relation that is declared on the side next, behind those of the schema
abbrev pub next_number : Side → List Relation → ℕ
next_number side s = 2 * length (relations_of side s) + side_number side

-- the number of a relation: twice its place, from 0, among those of its side, and one more on the target side
abbrev pub number_in : List Relation → Relation → ℕ
number_in s r = 2 * place_of bytes_eq r.name (relation_names (relations_of r.side s)) + side_number r.side

-- the number, side and arity of a relation of the schema
abbrev pub relation_info : List Relation → Relation → RelInfo
relation_info s r = record { number = number_in s r; side = r.side; arity = length r.columns }

-- the relation of the name, or nothing
abbrev pub relation_named : List Relation → List ℕ → Option Relation
relation_named s name = find (λ r. bytes_eq name r.name) s

-- the number, side and arity of the relation of the name, or nothing
abbrev pub find_relation : List Relation → List ℕ → Option RelInfo
find_relation s name = option_map (relation_info s) (relation_named s name)

-- the side whose relations have the number among theirs: even ones are of the source
abbrev pub side_with : ℕ → Side
side_with n = cond (n % 2 == 0) Source Target

-- the relation of the number, or nothing
abbrev pub relation_at : List Relation → ℕ → Option Relation
relation_at s n = slice_get (relations_of (side_with n) s) (n / 2)

-- the name of the relation of the number, or nothing
abbrev pub name_at : List Relation → ℕ → Option (List ℕ)
name_at s n = option_map (λ r. r.name) (relation_at s n)

-- the name of its k-th column, from 0, or nothing
abbrev pub column_at : List Relation → ℕ → ℕ → Option (List ℕ)
column_at s n k = option_and_then (λ r. slice_get r.columns k) (relation_at s n)

-- the number of the relation that was declared at the place, or nothing
abbrev pub number_at : List Relation → ℕ → Option ℕ
number_at s k = option_map (number_in s) (slice_get s k)

-- no name stands twice, and sides and relations are within their limits
pub record IsSchema (s : List Relation) : Type 0 where
  pub named_apart : IsDistinct (relation_names s)
  pub few_on_side : (side : Side) → length (relations_of side s) ≤ 64
  pub columns_apart : (r : Relation) → r ∈ s → IsDistinct r.columns
  pub columns_within : (r : Relation) → r ∈ s → (1 ≤ length r.columns) × (length r.columns ≤ 16)
