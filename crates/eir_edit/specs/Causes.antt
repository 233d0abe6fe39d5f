-- Why a line is refused (this project's own).
--   Cause            == the causes that a line of a workspace may have
--   first_cause ts   == the first cause whose test holds, or nothing
--   told e           == the cause that a refused edit tells; want of memory tells none
--   declared_cause e == the cause of a refused declaration
use Rattle.std.specs.Prelude.{ℕ, Bool, cond, List, [], ◌∷◌, Option, Some, None}
use Rattle.eir_schema.specs.declared.refused.DeclareRefused.{DeclareRefused}
use Rattle.eir_schema.specs.declared.refused.DeclareRefused.TheVariants as declaring
use Rattle.eir_edit.specs.declared.refused.EditRefused.{EditRefused}
use Rattle.eir_edit.specs.declared.refused.EditRefused.TheVariants.{Taken, NoExample, There, Missing, Full, Nothing, Foreign, Memory}

pub data Cause : Type 0 where
  -- the name, or a column of a declaration, is there already
  taken : Cause
  -- the relation is not declared
  relation : Cause
  -- another number of arguments than columns
  arity : Cause
  -- a null in a fact of a source relation
  null : Cause
  -- no present example of the name
  example : Cause
  -- the fact stands in the instance
  there : Cause
  -- the fact does not stand in the instance
  missing : Cause
  -- there is room for so many alone
  full : ℕ → Cause
  -- there is nothing to undo
  nothing : Cause
  -- the stamps of the taker's and of the lender's schema differ
  foreign : List ℕ → List ℕ → Cause

-- the first cause whose test holds, or nothing
abbrev pub first_cause : List (Bool × Cause) → Option Cause
first_cause [] = None
first_cause (t ∷ ts) = cond t.0 (Some t.1) (first_cause ts)

-- the cause that a refused edit tells; want of memory tells none
abbrev pub told : EditRefused → Option Cause
told Taken = Some taken
told NoExample = Some example
told There = Some there
told Missing = Some missing
told (Full n) = Some (full n)
told Nothing = Some nothing
told (Foreign mine theirs) = Some (foreign mine theirs)
told Memory = None

-- the cause of a refused declaration; want of memory is no cause, and no test has it
abbrev pub declared_cause : DeclareRefused → Cause
declared_cause declaring.Taken = taken
declared_cause (declaring.Full n) = full n
declared_cause declaring.Memory = nothing
