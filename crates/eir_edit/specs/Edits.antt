-- What each edit of the examples refuses, in order, and what it does (this project's own).
--   X_tests   == the causes for which edit X is refused, in the order in which they are tested
--   X_done    == the history after edit X, where it is not refused; fresh is the version that the example gets
--   versioned fresh ts == the tests, and last that all versions are drawn
--   Loan      == what a lender held: the stamp of the lender's schema, and an example
use Rattle.std.specs.Prelude.{ℕ, Bool, false, not, ◌==◌, List, [], ◌∷◌, ◌++◌, length, nat_le, Option, Some, None, option_map, is_none, unwrap_or}
use Rattle.std.specs.List.{list_any}
use Rattle.std.specs.Str.{bytes_eq}
use Rattle.eir_term.specs.declared.val.Side.{Side}
use Rattle.eir_term.specs.declared.val.Side.TheVariants.{Source, Target}
use Rattle.eir_term.specs.declared.val.Val.{Val}
use Rattle.eir_term.specs.declared.fact.Fact.{Fact}
use Rattle.eir_term.specs.Lists.{without}
use Rattle.eir_term.specs.Values.{is_null}
use Rattle.eir_term.specs.Facts.{fact_eq}
use Rattle.eir_edit.specs.Causes.{Cause, taken, example, there, missing, full, nothing, foreign}
use Rattle.eir_edit.specs.Histories.{Example, History, is_present, find_example, facts_on, with_facts, facts_in, holds, changed, dropped, edited}

-- the most examples
abbrev pub example_limit : ℕ
example_limit = 64

-- the version that is never drawn
abbrev pub last_version : ℕ
last_version = 18446744073709551615

-- the tests, and last that all versions are drawn
abbrev pub versioned : ℕ → List (Bool × Cause) → List (Bool × Cause)
versioned fresh ts = ts ++ (fresh == last_version, full last_version) ∷ []

-- a null among the values of a fact of a source
abbrev pub is_null_in_source : Side → List Val → Bool
is_null_in_source Source vs = list_any is_null vs
is_null_in_source Target vs = false

-- ---- a new example

abbrev pub add_tests : List ℕ → History → List (Bool × Cause)
add_tests name h = (is_present name h.list, taken) ∷ (nat_le example_limit (length h.list), full example_limit) ∷ []

-- an example with no facts
abbrev pub new_example : ℕ → List ℕ → Example
new_example fresh name = record { name = name; version = fresh; source = []; target = [] }

abbrev pub add_done : ℕ → List ℕ → History → History
add_done fresh name h = edited (h.list ++ new_example fresh name ∷ []) h

-- ---- a fact is put in, or taken out; m is the most facts of an instance

-- of a fact for an instance with these facts
abbrev pub insert_tests : ℕ → Fact → List Fact → List (Bool × Cause)
insert_tests m f fs = (holds f fs, there) ∷ (nat_le m (length fs), full m) ∷ []

abbrev pub put_tests : ℕ → List ℕ → Side → Fact → History → List (Bool × Cause)
put_tests m name side f h = (not (is_present name h.list), example) ∷ insert_tests m f (facts_in name side h.list)

-- the example with these facts on a side, under another version
abbrev pub renewed : ℕ → Side → List Fact → Example → Example
renewed fresh side fs x = record (with_facts side fs x) { version = fresh }

abbrev pub put_on : ℕ → Side → Fact → Example → Example
put_on fresh side f x = renewed fresh side (facts_on side x ++ f ∷ []) x

abbrev pub put_done : ℕ → List ℕ → Side → Fact → History → History
put_done fresh name side f h = edited (changed name (put_on fresh side f) h.list) h

abbrev pub remove_tests : Fact → List Fact → List (Bool × Cause)
remove_tests f fs = (not (holds f fs), missing) ∷ []

abbrev pub cut_tests : List ℕ → Side → Fact → History → List (Bool × Cause)
cut_tests name side f h = (not (is_present name h.list), example) ∷ remove_tests f (facts_in name side h.list)

abbrev pub cut_from : ℕ → Side → Fact → Example → Example
cut_from fresh side f x = renewed fresh side (without fact_eq f (facts_on side x)) x

abbrev pub cut_done : ℕ → List ℕ → Side → Fact → History → History
cut_done fresh name side f h = edited (changed name (cut_from fresh side f) h.list) h

-- ---- an example is dropped

abbrev pub drop_tests : List ℕ → History → List (Bool × Cause)
drop_tests name h = (not (is_present name h.list), example) ∷ []

abbrev pub drop_done : List ℕ → History → History
drop_done name h = edited (dropped name h.list) h

-- ---- the last edit that is not yet undone is undone; Histories has what it does

abbrev pub undo_tests : History → List (Bool × Cause)
undo_tests h = (nat_le (length h.undo) 0, nothing) ∷ []

-- ---- an example is copied from another workspace, with its version

-- what a lender held: the stamp of the lender's schema, and an example
pub record Loan : Type 0 where
  pub stamp : List ℕ
  pub example : Example

-- the example of the name, of a lender with a schema of this stamp
abbrev pub loan_of : List ℕ → List ℕ → History → Option Loan
loan_of name stamp lender = option_map (λ x. record { stamp = stamp; example = x }) (find_example name lender.list)

-- the stamp of the lender's schema, or of the taker's where there is no loan
abbrev pub lent_stamp : List ℕ → Option Loan → List ℕ
lent_stamp mine loan = unwrap_or (option_map (λ l. l.stamp) loan) mine

-- the tests that come before the stamps are compared
abbrev pub loan_tests : List ℕ → Option Loan → History → List (Bool × Cause)
loan_tests name loan h =
    (is_present name h.list, taken)
    ∷ (is_none loan, example)
    ∷ (nat_le example_limit (length h.list), full example_limit) ∷ []

-- mine is the stamp of the taker's schema
abbrev pub borrow_tests : List ℕ → List ℕ → Option Loan → History → List (Bool × Cause)
borrow_tests mine name loan h = loan_tests name loan h ++ (not (bytes_eq mine (lent_stamp mine loan)), foreign mine (lent_stamp mine loan)) ∷ []

-- the example that is lent
abbrev pub lent : Option Loan → List Example
lent None = []
lent (Some loan) = loan.example ∷ []

abbrev pub borrow_done : Option Loan → History → History
borrow_done loan h = edited (h.list ++ lent loan) h
