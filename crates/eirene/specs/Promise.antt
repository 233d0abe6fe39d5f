-- What a user is promised: all lines are answered, and each `fit` line, after any list of lines, is answered as the
-- headline of `eir_term` says (this project's own words for it, over bytes).
--   left_by lines            == the workspace that these lines leave: the kind, and the examples
--   FitIsRight bytes before  == the output has, after the replies to the lines before it, the text of a finding that is right
--   FitsAreRight bytes       == this holds of each line that says `fit`
--   AnswersAll               == the input was read to its end, is within the limit, all its replies were written, and each
--                               `fit` is answered as the headline says
use Rattle.std.specs.Prelude.{◌≡◌, ◌↔◌, ℕ, ◌≤◌, List, ◌∷◌, ◌++◌, length, Option}
use Rattle.std.specs.Io.KnownBytes.{Appends, Consumes, IsAtEnd}
use Rattle.eir_term.specs.Dependencies.{Dependency}
use Rattle.eir_term.specs.Headline.{Says as IsRight, SomeFits}
use Rattle.eir_term.specs.Verdicts.{Finding, fits}
use Rattle.eir_script.specs.Lines.{lines_of}
use Rattle.eir_script.specs.Grammar.{Says, fit}
use Rattle.eirene.specs.Workspaces.{Workspace, empty_workspace, kind_of, present}
use Rattle.eirene.specs.Scripts.{workspace_after, replies, output_of}
use Rattle.eirene.specs.Texts.{fit_text}

-- the workspace that these lines leave
abbrev pub left_by : List (List ℕ) → Workspace
left_by lines = workspace_after empty_workspace lines

-- after the replies to the lines before it, the output has the text of a finding; the finding is right for the kind and
-- the examples that these lines left, and it is a mapping exactly where some mapping of the kind fits them
pub record FitIsRight (bytes : List ℕ) (before : List (List ℕ)) : Type 0 where
  pub finding : Finding
  pub rest : List ℕ
  pub printed : output_of bytes ≡ replies empty_workspace before ++ (fit_text (left_by before) finding ++ rest)
  pub right : IsRight (kind_of (left_by before)) (present (left_by before)) finding
  pub exactly : SomeFits (kind_of (left_by before)) (present (left_by before)) ↔ ((M : List Dependency) × (finding ≡ fits M))

-- each line of the input that says `fit`, whatever lines stand before it, is answered so
abbrev pub FitsAreRight : List ℕ → Type 0
FitsAreRight bytes = (before later : List (List ℕ)) (line : List ℕ) → lines_of bytes ≡ before ++ line ∷ later → Says line fit → FitIsRight bytes before

-- the input was read to its end, is within the limit, all its replies were written, and each `fit` is answered as the
-- headline says
pub record AnswersAll (left_old left_new written_old written_new : Option (List ℕ)) (limit : ℕ) : Type 0 where
  pub bytes : List ℕ
  pub consumed : Consumes left_old left_new bytes
  pub at_end : IsAtEnd left_new
  pub within : length bytes ≤ limit
  pub answered : Appends written_old written_new (output_of bytes)
  pub right : FitsAreRight bytes
