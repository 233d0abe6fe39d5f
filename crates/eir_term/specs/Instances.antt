-- Instances: finite sets of facts, as lists without repeats in order of insertion (Fagin, Kolaitis, Miller, Popa
-- 2005). A definition that ranges over all instances ranges over all lists of facts: a repeat changes neither
-- what an instance satisfies nor its homomorphisms.
--   occurrences K  == the occurrences of values, fact by fact and column by column
--   values K       == the values, by first occurrence
--   consts K       == the constants, by first occurrence
--   nulls K        == the labelled nulls, by first occurrence
--   IsSource K     == no null occurs
--   ground_part J  == the facts without nulls, in order
use Rattle.std.specs.Prelude.{ℕ, Bool, not, List, [], ◌∷◌, ◌++◌, filter}
use Rattle.std.specs.List.{list_any}
use Rattle.eir_term.specs.declared.val.Val.{Val}
use Rattle.eir_term.specs.declared.val.Val.TheVariants.{Null}
use Rattle.eir_term.specs.declared.fact.Fact.{Fact}
use Rattle.eir_term.specs.Lists.{◌∈◌, distinct}
use Rattle.eir_term.specs.Values.{val_eq, is_const, is_null}

-- the occurrences of values, fact by fact and column by column
abbrev pub occurrences : List Fact → List Val
occurrences [] = []
occurrences (f ∷ fs) = f.args ++ occurrences fs

-- the values, by first occurrence
abbrev pub values : List Fact → List Val
values K = distinct val_eq (occurrences K)

-- the constants, by first occurrence; fixed constants are not among them
abbrev pub consts : List Fact → List Val
consts K = filter is_const (values K)

-- the labelled nulls, by first occurrence
abbrev pub nulls : List Fact → List Val
nulls K = filter is_null (values K)

-- no null occurs
abbrev pub IsSource : List Fact → Type 0
IsSource K = (n : ℕ) → Null n ∈ occurrences K → ⊥

-- whether the fact has no null
abbrev pub is_ground : Fact → Bool
is_ground f = not (list_any is_null f.args)

-- the facts without nulls, in order; it is no core
abbrev pub ground_part : List Fact → List Fact
ground_part J = filter is_ground J
