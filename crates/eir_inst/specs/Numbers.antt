-- The numbers of values: a value's number is its place among the values by first occurrence (this project's own).
--   numbers_of ws vs   == the place of each of vs in ws
use Rattle.std.specs.Prelude.{ℕ, List, map}
use Rattle.eir_term.specs.declared.val.Val.{Val}
use Rattle.eir_term.specs.Lists.{place_of}
use Rattle.eir_term.specs.Values.{val_eq}

-- the place of each of vs in ws
abbrev pub numbers_of : List Val → List Val → List ℕ
numbers_of ws vs = map (λ v. place_of val_eq v ws) vs
