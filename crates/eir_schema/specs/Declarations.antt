-- Which declarations are refused, and for what (this project's own).
--   has_repeat ws                == one of these names stands twice
--   declaration_tests s d        == the causes in the order in which they are tested, each with whether it holds
--   refusal s d                  == the first cause that holds, or nothing
--   told e                       == the cause that an error tells; want of memory tells none
use Rattle.std.specs.Prelude.{ℕ, Bool, false, ◌||◌, cond, List, [], ◌∷◌, length, nat_le, nat_lt, Option, Some, None, is_some}
use Rattle.std.specs.List.{list_any}
use Rattle.std.specs.Str.{bytes_eq}
use Rattle.eir_schema.specs.declared.refused.DeclareRefused.{DeclareRefused}
use Rattle.eir_schema.specs.declared.refused.DeclareRefused.TheVariants.{Taken, Full, Memory}
use Rattle.eir_schema.specs.Schemas.{Relation, find_relation, relations_of}

-- one of these names stands twice
abbrev pub has_repeat : List (List ℕ) → Bool
has_repeat [] = false
has_repeat (w ∷ ws) = list_any (bytes_eq w) ws || has_repeat ws

-- the name is declared on either side or two columns are equal; too many columns; the side has no room
abbrev pub declaration_tests : List Relation → Relation → List (Bool × DeclareRefused)
declaration_tests s d =
    (is_some (find_relation s d.name) || has_repeat d.columns, Taken)
    ∷ (nat_lt 16 (length d.columns), Full 16)
    ∷ (nat_le 64 (length (relations_of d.side s)), Full 64) ∷ []

-- the first cause that holds, or nothing
abbrev pub first_cause : List (Bool × DeclareRefused) → Option DeclareRefused
first_cause [] = None
first_cause (t ∷ ts) = cond t.0 (Some t.1) (first_cause ts)

-- why the declaration is refused, or nothing
abbrev pub refusal : List Relation → Relation → Option DeclareRefused
refusal s d = first_cause (declaration_tests s d)

-- the cause that an error tells; want of memory tells none
abbrev pub told : DeclareRefused → Option DeclareRefused
told Taken = Some Taken
told (Full n) = Some (Full n)
told Memory = None
