-- What a contract sees of an instance in memory (this project's own).
--   BoundedFacts  == facts in order of insertion, with the most that there may be
use Rattle.std.specs.Prelude.{ℕ, List}
use Rattle.eir_term.specs.declared.fact.Fact.{Fact}

-- facts in order of insertion, with the most that there may be
pub record BoundedFacts : Type 0 where
  pub facts : List Fact
  pub limit : ℕ
