-- Replies and refusals, seen as the answers that the definitions speak of.
--   IsReply x a kind     == the reply is that of the answer, where a fit is for the kind
--   IsRefused e asked w  == want of memory, or the answer to what is asked, which leaves the workspace
--   IsAnswer x a kind    == what is told of a line is its answer; want of memory tells none
--   IsFilledCommand c    == a declaration has a column
use Rattle.std.specs.Prelude.{◌≡◌, ◌⊎◌, ℕ, ◌≤◌, length, Option, Some, None, Result, Ok, Err}
use Rattle.eir_term.specs.declared.val.Kind.{Kind}
use Rattle.eir_script.specs.declared.command.Command.{Command}
use Rattle.eir_script.specs.declared.command.Command.TheVariants as command
use Rattle.eir_verdict.specs.Findings.{finding_of}
use Rattle.eir_print.specs.declared.reply.Reply.{Reply}
use Rattle.eir_print.specs.declared.reply.Reply.TheVariants as reply
use Rattle.eir_print.specs.declared.refusal.Refusal.{Refusal}
use Rattle.eir_print.specs.declared.refusal.Refusal.TheVariants.{Memory}
use Rattle.eirene.specs.Workspaces.{Workspace}
use Rattle.eirene.specs.Replies.{Request, Answer, done, refused, found, answer, after}

-- the reply is that of the answer, where a fit is for the kind; no other reply comes, since no other command is served
abbrev pub IsReply : Reply → Answer → Kind → Type 0
IsReply reply.Done a kind = a ≡ done
IsReply (reply.Verdict k v) a kind = (a ≡ found (finding_of v.value)) × (k ≡ kind)
IsReply other a kind = ⊥

-- want of memory, or the answer to what is asked, which leaves the workspace
abbrev pub IsRefused : Refusal → Option Request → Workspace → Type 0
IsRefused e asked w = (e ≡ Memory) ⊎ ((answer asked w ≡ refused e) × (after asked w ≡ w))

-- what is told of a line is its answer, where a fit is for the kind
abbrev pub IsAnswer : Result (Option Reply) Refusal → Option Answer → Kind → Type 0
IsAnswer (Ok None) a kind = a ≡ None
IsAnswer (Ok (Some x)) None kind = ⊥
IsAnswer (Ok (Some x)) (Some a) kind = IsReply x a kind
IsAnswer (Err e) a kind = (e ≡ Memory) ⊎ (a ≡ Some (refused e))

-- a declaration has a column
abbrev pub IsFilledCommand : Command → Type 0
IsFilledCommand (command.Declare side r columns) = 1 ≤ length columns
IsFilledCommand other = Unit {0}
