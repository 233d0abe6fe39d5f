-- The text of an answer, in the workspace that it speaks of (this project's own; the parts are those of `eir_print`).
--   fit_text w f     == the text of what a fit finds
--   reply_text w a   == the text of an answer, and nothing for a blank line
use Rattle.std.specs.Prelude.{ℕ, List, [], Option, Some, None, codes}
use Rattle.eir_term.specs.Verdicts.{Finding}
use Rattle.eir_print.specs.Verdicts.{finding_text}
use Rattle.eir_print.specs.Refusals.{refusal_text}
use Rattle.eirene.specs.Workspaces.{Workspace, kind_of}
use Rattle.eirene.specs.Replies.{Answer, done, refused, found}

-- the text of what a fit finds
abbrev pub fit_text : Workspace → Finding → List ℕ
fit_text w f = finding_text (kind_of w) w.work.desk.schema w.names w.work.desk.history.list f

-- the text of an answer; a blank line has none
abbrev pub reply_text : Workspace → Option Answer → List ℕ
reply_text w None = []
reply_text w (Some done) = codes "ok\n"
reply_text w (Some (refused e)) = refusal_text e
reply_text w (Some (found f)) = fit_text w f
