-- What a script is answered (this project's own).
--   replies w lines    == the texts of the replies to these lines, in order
--   workspace_after    == the workspace after these lines
--   output_of bytes    == all that is written for an input
--   whole_output bytes == the replies to its whole lines alone, which are those that a line feed ends
use Rattle.std.specs.Prelude.{ℕ, List, [], ◌∷◌, ◌++◌}
use Rattle.eir_script.specs.Lines.{cut, lines_of}
use Rattle.eirene.specs.Workspaces.{Workspace, empty_workspace}
use Rattle.eirene.specs.Replies.{reply_to, next}
use Rattle.eirene.specs.Texts.{reply_text}

-- the text of the reply to a line
abbrev pub line_reply : Workspace → List ℕ → List ℕ
line_reply w line = reply_text w (reply_to line w)

-- the texts of the replies to these lines, in order
abbrev pub replies : Workspace → List (List ℕ) → List ℕ
replies w [] = []
replies w (line ∷ lines) = line_reply w line ++ replies (next line w) lines

-- the workspace after these lines
abbrev pub workspace_after : Workspace → List (List ℕ) → Workspace
workspace_after w [] = w
workspace_after w (line ∷ lines) = workspace_after (next line w) lines

-- what is written for these lines from the start of a script
abbrev pub output_for : List (List ℕ) → List ℕ
output_for lines = replies empty_workspace lines

-- all that is written for an input
abbrev pub output_of : List ℕ → List ℕ
output_of bytes = output_for (lines_of bytes)

-- the replies to its whole lines alone, which are those that a line feed ends
abbrev pub whole_output : List ℕ → List ℕ
whole_output bytes = output_for (cut bytes).whole
