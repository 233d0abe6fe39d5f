-- What a contract sees of the test of a pair of examples (this project's own).
--   Trial           == the pair, what was found, and the tries that are still to come
--   begun_trial e f == the trial where no try was made yet
--   refuting_of v   == the refuting homomorphism of a verdict
use Rattle.std.specs.Prelude.{ℕ, List, [], Option, Some, None}
use Rattle.eir_term.specs.declared.val.Val.{Val}
use Rattle.eir_term.specs.Fitting.{DataExample}
use Rattle.eir_term.specs.Search.{need, pairneed}
use Rattle.eir_ext.specs.declared.verdict.PairVerdict.{PairVerdict}
use Rattle.eir_ext.specs.declared.verdict.PairVerdict.TheVariants.{Extends, Fails}

-- where the test of a pair stands: the two examples, the refuting homomorphism if one was found, the most tries that
-- the test may still make, and how many of these listing the homomorphisms between the sources still takes
pub record Trial : Type 0 where
  pub first : DataExample
  pub second : DataExample
  pub refuting : Option (List (Val × Val))
  pub tries : ℕ
  pub source_tries : ℕ

-- the trial where no try was made yet
abbrev pub begun_trial : DataExample → DataExample → Trial
begun_trial e f = record { first = e; second = f; refuting = None; tries = pairneed e f; source_tries = need e.source f.source [] }

-- the refuting homomorphism of a verdict, if it has one
abbrev pub refuting_of : PairVerdict → Option (List (Val × Val))
refuting_of Extends = None
refuting_of (Fails h) = Some h
