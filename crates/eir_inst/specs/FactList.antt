-- What a contract sees of facts with their index (this project's own).
--   FactList   == facts, in order
use Rattle.std.specs.Prelude.{List}
use Rattle.eir_term.specs.declared.fact.Fact.{Fact}

-- facts, in order
pub record FactList : Type 0 where
  pub facts : List Fact
