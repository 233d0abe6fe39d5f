-- The definitions computed on worked schemas.
use Rattle.std.specs.Prelude.{◌≡◌, [], ◌∷◌, codes, Some, None, replicate, refl}
use Rattle.std.specs.Fmt.{digits}
use Rattle.eir_term.specs.declared.val.Side.TheVariants.{Source, Target}
use Rattle.eir_schema.specs.declared.refused.DeclareRefused.TheVariants.{Taken, Full}
use Rattle.eir_schema.specs.Schemas.{Relation, find_relation, name_at, column_at, number_at}
use Rattle.eir_schema.specs.Declarations.{refusal}
use Rattle.eir_schema.specs.Stamps.{stamp}

-- source Emp(name,dept)
abbrev employees : Relation
employees = record { side = Source; name = codes "Emp"; columns = codes "name" ∷ codes "dept" ∷ [] }

-- target Works(name,room)
abbrev works : Relation
works = record { side = Target; name = codes "Works"; columns = codes "name" ∷ codes "room" ∷ [] }

-- target R(a)
abbrev unary : Relation
unary = record { side = Target; name = codes "R"; columns = codes "a" ∷ [] }

found : find_relation (employees ∷ works ∷ []) (codes "Works") ≡ Some (record { number = 1; side = Target; arity = 2 })
found = refl

not_found : find_relation (employees ∷ works ∷ []) (codes "Emq") ≡ None
not_found = refl

named : name_at (employees ∷ works ∷ []) 0 ≡ Some (codes "Emp")
named = refl

second_column : column_at (employees ∷ works ∷ []) 1 1 ≡ Some (codes "room")
second_column = refl

no_third_column : column_at (employees ∷ works ∷ []) 1 2 ≡ None
no_third_column = refl

-- a number rests on the declarations of its own side alone
second_declared : number_at (works ∷ unary ∷ employees ∷ []) 1 ≡ Some 3
second_declared = refl

source_declared_last : find_relation (works ∷ unary ∷ employees ∷ []) (codes "Emp") ≡ Some (record { number = 0; side = Source; arity = 2 })
source_declared_last = refl

second_of_target : name_at (works ∷ employees ∷ unary ∷ []) 3 ≡ Some (codes "R")
second_of_target = refl

no_second_of_source : name_at (works ∷ employees ∷ unary ∷ []) 2 ≡ None
no_second_of_source = refl

-- of an empty schema, and where the target was declared first
empty_stamp : stamp [] ≡ codes ";"
empty_stamp = refl

both_sides : stamp (works ∷ employees ∷ unary ∷ []) ≡ codes "Emp/2;Works/2,R/1"
unfolding digits
both_sides = refl

-- a name is taken on either side, also where there are too many columns
taken_on_other_side : refusal (employees ∷ []) (record employees { side = Target; columns = replicate 17 (codes "a") }) ≡ Some Taken
taken_on_other_side = refl

equal_columns : refusal [] (record unary { columns = codes "a" ∷ codes "b" ∷ codes "a" ∷ [] }) ≡ Some Taken
equal_columns = refl

-- the limits are of one relation and of one side
source_full : refusal (replicate 64 employees) (record unary { side = Source }) ≡ Some (Full 64)
source_full = refl

target_not_full : refusal (replicate 64 employees) unary ≡ None
target_not_full = refl
