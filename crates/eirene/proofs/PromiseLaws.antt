-- Each `fit` line is answered as the headline says: `fits_are_right`, for every input.
use Rattle.std.proofs.Common.{◌≡◌, ◌∙◌, ◌++◌, ap, ℕ, List, ◌∷◌}
use Rattle.eir_term.specs.declared.val.Kind.{Kind}
use Rattle.eir_term.specs.Fitting.{DataExample}
use Rattle.eir_term.specs.Verdicts.{verdict}
use Rattle.eir_term.proofs.HeadlineLaws.{headline}
use Rattle.eir_script.specs.Lines.{lines_of}
use Rattle.eir_script.specs.Grammar.{Says, fit}
use Rattle.eir_script.proofs.GrammarLaws.{says-reading}
use Rattle.eirene.specs.Workspaces.{Workspace, empty_workspace, kind_of, present}
use Rattle.eirene.specs.Replies.{reply_read, next}
use Rattle.eirene.specs.Texts.{reply_text, fit_text}
use Rattle.eirene.specs.Scripts.{workspace_after, replies, line_reply, output_of}
use Rattle.eirene.specs.Promise.{FitsAreRight}
use Rattle.eirene.proofs.KeptLaws.{AllSources-lines}
use Rattle.eirene.proofs.ScriptLaws.{replies-append}

-- a line that says `fit` is answered by the verdict on the present examples
line_reply-fit : (w : Workspace) (line : List ℕ) → Says line fit → line_reply w line ≡ fit_text w (verdict (kind_of w) (present w))
line_reply-fit w line says = ap (λ r. reply_text w (reply_read r w)) (says-reading line fit says)

-- for every input, each line that says `fit` is answered by the text of a finding that is right
pub fits_are_right : (bytes : List ℕ) → FitsAreRight bytes
fits_are_right bytes before later line e says =
    let w : Workspace = workspace_after empty_workspace before in
    let E : List DataExample = present w in
    let kind : Kind = kind_of w in
    let rest : List ℕ = replies (next line w) later in
    let known = headline kind E (AllSources-lines before) in record {
      finding = verdict kind E;
      rest = rest;
      printed = ap (replies empty_workspace) e ∙ replies-append empty_workspace before (line ∷ later) ∙ ap (λ (s : List ℕ). replies empty_workspace before ++ (s ++ rest)) (line_reply-fit w line says);
      right = known.0;
      exactly = known.1;
    }
