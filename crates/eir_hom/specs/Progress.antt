-- What a contract sees of a listing of homomorphisms (this project's own).
--   Progress  == from what to what they go, what they agree with, and how far the listing is
use Rattle.std.specs.Prelude.{ℕ, List, Option}
use Rattle.eir_term.specs.declared.val.Val.{Val}
use Rattle.eir_term.specs.declared.fact.Fact.{Fact}

-- where a listing of homomorphisms stands: what the last turn found, the homomorphisms still to be found, in order, and
-- the tries still to be made
pub record Progress : Type 0 where
  pub source : List Fact
  pub target : List Fact
  pub start : List (Val × Val)
  pub found : Option (List (Val × Val))
  pub to_come : List (List (Val × Val))
  pub tries : ℕ
