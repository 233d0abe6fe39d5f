-- The texts of names and kinds, and how texts are put together (this project's own).
--   name_text names n       == the name with this number
--   relation_text schema n  == the name of the relation with this number
--   kind_text kind          == the word of a kind
--   joined sep text xs      == the texts of the elements, with a separator between each two
--   text_at text xs i       == the text of the element at a place, or nothing
--   text_line t             == a text on a line
--   counted_line t n        == a text and a number on a line
--   pair_line t a b         == three texts on a line, the last two with a space between
use Rattle.std.specs.Prelude.{ℕ, List, [], ◌∷◌, ◌++◌, flat_map, slice_get, option_map, unwrap_or, codes, decimal}
use Rattle.eir_term.specs.declared.val.Kind.{Kind}
use Rattle.eir_term.specs.declared.val.Kind.TheVariants.{Glav, Gav}
use Rattle.eir_schema.specs.Schemas.{Relation, name_at}

-- the name with this number, or nothing
abbrev pub name_text : List (List ℕ) → ℕ → List ℕ
name_text names n = unwrap_or (slice_get names n) []

-- the name of the relation with this number, or nothing
abbrev pub relation_text : List Relation → ℕ → List ℕ
relation_text schema n = unwrap_or (name_at schema n) []

-- the word of a kind
abbrev pub kind_text : Kind → List ℕ
kind_text Glav = codes "glav"
kind_text Gav = codes "gav"

-- the texts of the elements, with a separator between each two
abbrev pub joined : {X : Type 0} → List ℕ → (X → List ℕ) → List X → List ℕ
joined sep text [] = []
joined sep text (x ∷ xs) = text x ++ flat_map (λ y. sep ++ text y) xs

-- the text of the element at a place, counted from 0, or nothing
abbrev pub text_at : {X : Type 0} → (X → List ℕ) → List X → ℕ → List ℕ
text_at text xs i = unwrap_or (option_map text (slice_get xs i)) []

-- a text on a line
abbrev pub text_line : List ℕ → List ℕ
text_line t = t ++ codes "\n"

-- a text and a number on a line
abbrev pub counted_line : List ℕ → ℕ → List ℕ
counted_line t n = t ++ codes " " ++ decimal n ++ codes "\n"

-- three texts on a line, the last two with a space between
abbrev pub pair_line : List ℕ → List ℕ → List ℕ → List ℕ
pair_line t a b = t ++ a ++ codes " " ++ b ++ codes "\n"
