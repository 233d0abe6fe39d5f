-- Stamps: a schema as a text, by which two schemas are compared (this project's own).
--   relation_stamp r   == its name, '/' and the number of its columns
--   side_stamp side s  == these texts for the relations of the side, joined by ','
--   stamp s            == the stamp of the source, ';' and that of the target
use Rattle.std.specs.Prelude.{ℕ, List, ◌∷◌, ◌++◌, map, length, codes, decimal}
use Rattle.std.specs.List.{join_with_byte}
use Rattle.eir_term.specs.declared.val.Side.{Side}
use Rattle.eir_term.specs.declared.val.Side.TheVariants.{Source, Target}
use Rattle.eir_schema.specs.Schemas.{Relation, relations_of}

-- a comma, and a semicolon
abbrev pub comma : ℕ
comma = 44

abbrev pub semicolon : ℕ
semicolon = 59

-- the name, '/' and the number of the columns
abbrev pub relation_stamp : Relation → List ℕ
relation_stamp r = r.name ++ codes "/" ++ decimal (length r.columns)

-- the texts of the relations of the side, joined by ','
abbrev pub side_stamp : Side → List Relation → List ℕ
side_stamp side s = join_with_byte comma (map relation_stamp (relations_of side s))

-- the stamp of the source, ';' and that of the target
abbrev pub stamp : List Relation → List ℕ
stamp s = side_stamp Source s ++ semicolon ∷ side_stamp Target s
