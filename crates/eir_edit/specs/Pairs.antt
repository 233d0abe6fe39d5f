-- Examples without their names and versions, and examples that are lent.
--   paired I J      == the data example of these two instances
--   pair_of x       == the source instance and the target instance of an example
--   Shared          == an example that is shared
--   examples_of xs  == the examples that are shared
--   pairs_of xs     == the two instances of each of them
use Rattle.std.specs.Prelude.{List, map}
use Rattle.std.specs.declared.rc.Rc as rc
use Rattle.std.specs.Global.{Global}
use Rattle.eir_term.specs.declared.fact.Fact.{Fact}
use Rattle.eir_term.specs.Fitting.{DataExample}
use Rattle.eir_edit.specs.Histories.{Example}

-- the data example of these two instances
abbrev pub paired : List Fact → List Fact → DataExample
paired I J = record { source = I; target = J }

-- the source instance and the target instance of an example
abbrev pub pair_of : Example → DataExample
pair_of x = paired x.source x.target

-- an example that is shared
abbrev pub Shared : Type 0
Shared = rc.Rc Example Global

-- the examples that are shared
abbrev pub examples_of : List Shared → List Example
examples_of xs = map (λ x. x.value) xs

-- the two instances of each of them
abbrev pub pairs_of : List Shared → List DataExample
pairs_of xs = map pair_of (examples_of xs)
