-- What every act keeps (this project's own).
--   IsGoodExample m x       == distinct facts, at most m a side, and no null in the source
--   IsGoodList m xs         == distinct names, at most 64 examples, each of them good
--   IsGoodHistory m h       == each list is good, and there are at most 32 older ones
--   IsGoodLoan m w loan     == what is lent has the name, and is good
--   IsGoodDesk d            == the history is good, within the desk's limit on facts
--   IsGoodAct m a           == what an act borrows is good; the other acts ask for nothing
--   Holds h x               == the example stands in the present list or in an older one
--   AreNumbered n Held      == a version tells its example, and is below n
use Rattle.std.specs.Prelude.{◌≡◌, ℕ, ◌≤◌, ◌<◌, List, map, length, Option, Some, None}
use Rattle.eir_term.specs.declared.fact.Fact.{Fact}
use Rattle.eir_term.specs.Lists.{◌∈◌, IsDistinct}
use Rattle.eir_term.specs.Instances.{IsSource}
use Rattle.eir_edit.specs.Histories.{Example, History, lists_of}
use Rattle.eir_edit.specs.Edits.{Loan, example_limit}
use Rattle.eir_edit.specs.State.{Desk, Act, borrow}

-- distinct facts, at most m
abbrev pub IsGoodSide : ℕ → List Fact → Type 0
IsGoodSide m fs = IsDistinct fs × (length fs ≤ m)

-- distinct facts, at most m a side, and no null in the source
pub record IsGoodExample (m : ℕ) (x : Example) : Type 0 where
  pub source : IsGoodSide m x.source
  pub target : IsGoodSide m x.target
  pub ground : IsSource x.source

-- distinct names, at most 64 examples, each of them good
pub record IsGoodList (m : ℕ) (xs : List Example) : Type 0 where
  pub named_apart : IsDistinct (map (λ x. x.name) xs)
  pub few : length xs ≤ example_limit
  pub each : (x : Example) → x ∈ xs → IsGoodExample m x

-- each list is good, and there are at most 32 older ones
pub record IsGoodHistory (m : ℕ) (h : History) : Type 0 where
  pub lists : (xs : List Example) → xs ∈ lists_of h → IsGoodList m xs
  pub short : length h.undo ≤ 32

-- what is lent has the name, and is good
abbrev pub IsGoodLoan : ℕ → List ℕ → Option Loan → Type 0
IsGoodLoan m name None = Unit {0}
IsGoodLoan m name (Some loan) = (loan.example.name ≡ name) × IsGoodExample m loan.example

-- the history is good, within the desk's limit on facts
abbrev pub IsGoodDesk : Desk → Type 0
IsGoodDesk d = IsGoodHistory d.limit d.history

-- what an act borrows is good; the other acts ask for nothing
abbrev pub IsGoodAct : ℕ → Act → Type 0
IsGoodAct m (borrow e loan) = IsGoodLoan m e loan
IsGoodAct m a = Unit {0}

-- the example stands in the present list or in an older one
abbrev pub Holds : History → Example → Type 0
Holds h x = (xs : List Example) × (xs ∈ lists_of h) × (x ∈ xs)

-- a version tells its example, name and all, and is below the number of versions drawn
pub record AreNumbered (drawn : ℕ) (Held : Example → Type 0) : Type 0 where
  pub told : (x y : Example) → Held x → Held y → x.version ≡ y.version → x ≡ y
  pub below : (x : Example) → Held x → x.version < drawn
