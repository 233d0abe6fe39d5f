-- The texts of dependencies and mappings (this project's own).
--   premise_variables d         == the variables that are printed x1, x2 and so on
--   existential_variables d     == the variables that are printed y1, y2 and so on
--   variable_text d x           == a variable
--   atom_text schema d a        == a relation with its terms
--   dependency_text schema d    == a dependency: premise, arrow, existential variables, conclusion
--   mapping_text schema M       == each dependency on a line
--   BeginsAlike d e             == e has the premise of d, and the names of its variables
use Rattle.std.specs.Prelude.{◌≡◌, ℕ, suc, nat_eq, cond, List, [], ◌∷◌, ◌++◌, filter, flat_map, codes, decimal}
use Rattle.std.specs.List.{list_any}
use Rattle.eir_term.specs.declared.term.Term.{Term}
use Rattle.eir_term.specs.declared.term.Term.TheVariants.{Var, Fixed}
use Rattle.eir_term.specs.declared.term.Atom.{Atom}
use Rattle.eir_term.specs.Lists.{distinct, place_of}
use Rattle.eir_term.specs.Dependencies.{Dependency, vars}
use Rattle.eir_schema.specs.Schemas.{Relation}
use Rattle.eir_print.specs.Words.{relation_text, joined}

-- the variables of the premise, by first occurrence
abbrev pub premise_variables : Dependency → List ℕ
premise_variables d = distinct nat_eq (vars d.premise)

-- the existential variables, by first occurrence in the conclusion
abbrev pub existential_variables : Dependency → List ℕ
existential_variables d = distinct nat_eq (filter (λ x. list_any (nat_eq x) d.exists) (vars d.conclusion))

-- a letter and the number of a place, from 1
abbrev pub numbered_name : List ℕ → ℕ → List ℕ
numbered_name letter place = letter ++ decimal (suc place)

-- an existential variable is y1, y2 and so on by first occurrence in the conclusion, another x1, x2 and so on by
-- first occurrence in the premise
abbrev pub variable_text : Dependency → ℕ → List ℕ
variable_text d x = cond (list_any (nat_eq x) d.exists)
    (numbered_name (codes "y") (place_of nat_eq x (existential_variables d)))
    (numbered_name (codes "x") (place_of nat_eq x (premise_variables d)))

-- a variable by its name; before fixed constants are served none occurs, and its text is empty
abbrev pub term_text : Dependency → Term → List ℕ
term_text d (Var x) = variable_text d x
term_text d (Fixed n) = []

-- a relation with its terms, which have commas between them
abbrev pub atom_text : List Relation → Dependency → Atom → List ℕ
atom_text schema d a = relation_text schema a.rel ++ codes "(" ++ joined (codes ",") (term_text d) a.args ++ codes ")"

-- the atoms with & between them; an empty premise is true
abbrev pub premise_text : List Relation → Dependency → List Atom → List ℕ
premise_text schema d [] = codes "true"
premise_text schema d (a ∷ atoms) = joined (codes " & ") (atom_text schema d) (a ∷ atoms)

-- exists, these variables, and a dot
abbrev pub listed_text : Dependency → List ℕ → List ℕ
listed_text d xs = codes "exists" ++ flat_map (λ x. codes " " ++ variable_text d x) xs ++ codes " . "

-- the same where there are any
abbrev pub exists_text : Dependency → List ℕ → List ℕ
exists_text d [] = []
exists_text d (x ∷ xs) = listed_text d (x ∷ xs)

-- an arrow, existential variables, and these atoms as a conclusion, with the variables of d
abbrev pub implied_text : List Relation → Dependency → List Atom → List ℕ
implied_text schema d conclusion = codes " -> " ++ exists_text d (existential_variables d)
    ++ joined (codes " & ") (atom_text schema d) conclusion

-- these atoms as a premise, and these as a conclusion, with the variables of d
abbrev pub implication_text : List Relation → Dependency → List Atom → List Atom → List ℕ
implication_text schema d premise conclusion = premise_text schema d premise ++ implied_text schema d conclusion

-- the same of a dependency
abbrev pub dependency_text : List Relation → Dependency → List ℕ
dependency_text schema d = implication_text schema d d.premise d.conclusion

-- a dependency on a line
abbrev pub dependency_line : List Relation → Dependency → List ℕ
dependency_line schema d = dependency_text schema d ++ codes "\n"

-- each dependency on a line
abbrev pub mapping_text : List Relation → List Dependency → List ℕ
mapping_text schema M = flat_map (dependency_line schema) M

-- e has the premise of d, and the names of its variables
pub record BeginsAlike (d e : Dependency) : Type 0 where
  pub premise : d.premise ≡ e.premise
  pub names : (x : ℕ) → variable_text d x ≡ variable_text e x
  pub exists : existential_variables d ≡ existential_variables e
