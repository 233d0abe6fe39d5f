-- The texts of facts (this project's own).
--   value_text nulls names v        == a constant by its name, a null with ? in front
--   fact_text nulls schema names f  == a relation with its values
--   chased_text schema names e fs   == the reply of a chase
use Rattle.std.specs.Prelude.{ℕ, List, ◌++◌, flat_map, length, codes, decimal}
use Rattle.eir_term.specs.declared.val.Val.{Val}
use Rattle.eir_term.specs.declared.val.Val.TheVariants.{Const, Fixed, Null}
use Rattle.eir_term.specs.declared.fact.Fact.{Fact}
use Rattle.eir_schema.specs.Schemas.{Relation}
use Rattle.eir_print.specs.declared.fact.Nulls.{Nulls}
use Rattle.eir_print.specs.declared.fact.Nulls.TheVariants.{Named, Numbered}
use Rattle.eir_print.specs.Words.{name_text, relation_text, joined, counted_line}

-- the name of a null, or its number where nulls have no names
abbrev pub null_text : Nulls → List (List ℕ) → ℕ → List ℕ
null_text Named names n = name_text names n
null_text Numbered names n = decimal n

-- a constant by its name, a null with ? in front
abbrev pub value_text : Nulls → List (List ℕ) → Val → List ℕ
value_text nulls names (Const n) = name_text names n
value_text nulls names (Fixed n) = name_text names n
value_text nulls names (Null n) = codes "?" ++ null_text nulls names n

-- a relation with its values, which have commas between them
abbrev pub fact_text : Nulls → List Relation → List (List ℕ) → Fact → List ℕ
fact_text nulls schema names f =
    relation_text schema f.rel ++ codes "(" ++ joined (codes ",") (value_text nulls names) f.args ++ codes ")"

-- a fact of a chase on a line
abbrev pub chased_line : List Relation → List (List ℕ) → Fact → List ℕ
chased_line schema names f = fact_text Numbered schema names f ++ codes "\n"

-- the example, the number of facts, and each fact on a line
abbrev pub chased_text : List Relation → List (List ℕ) → List ℕ → List Fact → List ℕ
chased_text schema names example facts =
    codes "chase " ++ counted_line example (length facts) ++ flat_map (chased_line schema names) facts
