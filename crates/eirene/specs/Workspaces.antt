-- The state of a run of `edit` (this project's own).
--   Workspace        == the table of names, the number of versions drawn, and the desk: schema, examples, undo list, kind
--   empty_workspace  == where a script begins
--   kind_of w        == the kind of mapping that a fit asks for: GLAV until a line sets it
--   present w        == the present examples
use Rattle.std.specs.Prelude.{ℕ, List, [], map}
use Rattle.eir_term.specs.declared.val.Kind.{Kind}
use Rattle.eir_term.specs.Fitting.{DataExample}
use Rattle.eir_edit.specs.Pairs.{pair_of}
use Rattle.eir_edit.specs.State.{Work, Desk, new_desk}

-- the budget where a script begins; no line that is served asks for it
abbrev pub first_budget : ℕ
first_budget = 10000000

-- the table of names, the number of versions drawn, and the desk
pub record Workspace : Type 0 where
  pub names : List (List ℕ)
  pub work : Work

-- where a script begins
abbrev pub empty_workspace : Workspace
empty_workspace = record { names = []; work = record { drawn = 0; desk = new_desk first_budget } }

-- the kind of mapping that a fit asks for
abbrev pub kind_of : Workspace → Kind
kind_of w = w.work.desk.kind

-- the present examples of a desk
abbrev pub examples_on : Desk → List DataExample
examples_on d = map pair_of d.history.list

-- the present examples
abbrev pub present : Workspace → List DataExample
present w = examples_on w.work.desk
