-- What a line is answered, as data (this project's own).
--   Request            == what `edit` serves: a declaration, an edit, an undo, a kind, or the question for a mapping
--   given f            == a fact as a line gives it
--   request_of c       == what a command asks, or nothing where `edit` does not serve it
--   Answer             == done, refused, or what the fit finds
--   reply_to line w    == the answer to a line; a blank line has none
--   next line w        == the workspace after a line
use Rattle.std.specs.Prelude.{ℕ, List, Option, Some, None}
use Rattle.eir_term.specs.Verdicts.{Finding, verdict}
use Rattle.eir_script.specs.declared.command.Command.{Command}
use Rattle.eir_script.specs.declared.command.Command.TheVariants as command
use Rattle.eir_script.specs.declared.command.RawFact.{RawFact}
use Rattle.eir_script.specs.Reading.{Reading, reading}
use Rattle.eir_script.specs.Naming.{named, names_read, command_read}
use Rattle.eir_edit.specs.Causes.{Cause}
use Rattle.eir_edit.specs.State.{Act, Given, declare, add, put, cut, drop, undo_last, set_kind, refusal, work_after}
use Rattle.eir_print.specs.declared.refusal.Refusal.{Refusal}
use Rattle.eir_print.specs.declared.refusal.Refusal.TheVariants.{Line}
use Rattle.eir_print.specs.Causes.{refusal_of}
use Rattle.eirene.specs.Workspaces.{Workspace, kind_of, present}

-- an act on the desk, or the question for a mapping
pub data Request : Type 0 where
  act : Act → Request
  fit : Request

-- a fact as a line gives it
abbrev pub given : RawFact → Given
given f = record { relation = f.relation; args = f.args }

-- what a command asks; every other command is not served
abbrev pub request_of : Command → Option Request
request_of (command.Declare side r columns) = Some (act (declare side r columns))
request_of (command.New e) = Some (act (add e))
request_of (command.Put e f) = Some (act (put e (given f)))
request_of (command.Cut e f) = Some (act (cut e (given f)))
request_of (command.Drop e) = Some (act (drop e))
request_of command.Undo = Some (act undo_last)
request_of (command.Kind k) = Some (act (set_kind k))
request_of command.Fit = Some fit
request_of other = None

-- done, refused, or what the fit finds
pub data Answer : Type 0 where
  done : Answer
  refused : Refusal → Answer
  found : Finding → Answer

-- refused for the cause, or done where there is none
abbrev pub refused_by : Option Cause → Answer
refused_by None = done
refused_by (Some c) = refused (refusal_of c)

-- the answer to a request: a line that is not served is refused as no line; a fit gets the verdict for the kind on the
-- present examples
abbrev pub answer : Option Request → Workspace → Answer
answer None w = refused Line
answer (Some (act a)) w = refused_by (refusal a w.work.desk)
answer (Some fit) w = found (verdict (kind_of w) (present w))

-- the workspace after a request; a refused one leaves it
abbrev pub after : Option Request → Workspace → Workspace
after None w = w
after (Some (act a)) w = record w { work = work_after w.work a }
after (Some fit) w = w

-- the workspace whose table has the names of a line that is read so
abbrev pub with_names : Reading → Workspace → Workspace
with_names r w = record w { names = named w.names (names_read r) }

-- the answer to a command: none to a blank line; a line that is not in the grammar is no command
abbrev pub reply_by : Option Command → Workspace → Option Answer
reply_by None w = Some (refused Line)
reply_by (Some command.Blank) w = None
reply_by (Some c) w = Some (answer (request_of c) w)

-- the workspace after a command
abbrev pub next_by : Option Command → Workspace → Workspace
next_by None w = w
next_by (Some c) w = after (request_of c) w

-- the answer to a line: its names get numbers, and its command is answered
abbrev pub reply_read : Reading → Workspace → Option Answer
reply_read r w = let named_so = with_names r w in reply_by (command_read named_so.names r) named_so

abbrev pub reply_to : List ℕ → Workspace → Option Answer
reply_to line w = reply_read (reading line) w

-- the workspace after a line; the names of a line that is refused are kept
abbrev pub next_read : Reading → Workspace → Workspace
next_read r w = let named_so = with_names r w in next_by (command_read named_so.names r) named_so

abbrev pub next : List ℕ → Workspace → Workspace
next line w = next_read (reading line) w
