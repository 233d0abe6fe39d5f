-- How the first foreign constant is found (this project's own).
--   first_among I vs  == the first constant among the values that does not occur in the facts
--   args_at J n       == the values of the fact at a place
use Rattle.std.specs.Prelude.{ℕ, not, List, [], filter, find, slice_get, Option, option_map, unwrap_or}
use Rattle.std.specs.List.{list_any}
use Rattle.eir_term.specs.declared.val.Val.{Val}
use Rattle.eir_term.specs.declared.fact.Fact.{Fact}
use Rattle.eir_term.specs.Values.{val_eq, is_const}
use Rattle.eir_term.specs.Instances.{consts}

-- the first constant among the values that does not occur in the facts
abbrev pub first_among : List Fact → List Val → Option Val
first_among I vs = find (λ c. not (list_any (val_eq c) (consts I))) (filter is_const vs)

-- the values of the fact at a place, counted from 0, or none
abbrev pub args_at : List Fact → ℕ → List Val
args_at J n = unwrap_or (option_map (λ f. f.args) (slice_get J n)) []
