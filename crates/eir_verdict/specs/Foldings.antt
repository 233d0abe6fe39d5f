-- What a contract sees of a fold test (this project's own).
--   Folding         == the facts that are tested, and the tries that may still be made
--   tries_left a n  == the tries that may still be made where n are left to the search: none once the answer is known
--   IsFolding p a   == what is true of a fold test in memory
--   decision b      == how a turn ends that has the answer
use Rattle.std.specs.Prelude.{◌≡◌, ℕ, Bool, true, false, cond, List, Option, None, Some}
use Rattle.eir_term.specs.declared.fact.Fact.{Fact}
use Rattle.eir_term.specs.Instances.{ground_part}
use Rattle.eir_term.specs.Search.{homs, constants_fixed}
use Rattle.eir_term.specs.Verdicts.{has_fold}
use Rattle.eir_hom.specs.Progress.{Progress}
use Rattle.eir_verdict.specs.declared.fold_test.FoldTurn.{FoldTurn}
use Rattle.eir_verdict.specs.declared.fold_test.FoldTurn.TheVariants.{Folds, Fault}

-- the facts that are tested, and the tries that may still be made
pub record Folding : Type 0 where
  pub target : List Fact
  pub tries : ℕ

-- the tries that may still be made
abbrev pub tries_left : Option Bool → ℕ → ℕ
tries_left None n = n
tries_left (Some b) n = 0

-- while there is no answer all homomorphisms are to come; an answer is right
pub record IsFolding (p : Progress) (answer : Option Bool) : Type 0 where
  pub undecided : answer ≡ None → p.to_come ≡ homs p.source (ground_part p.source) (constants_fixed p.source)
  pub decided : (b : Bool) → answer ≡ Some b → b ≡ has_fold p.source

-- how a turn ends that has the answer
abbrev pub decision : Bool → FoldTurn
decision b = cond b Folds Fault
