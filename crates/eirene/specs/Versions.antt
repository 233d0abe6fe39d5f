-- Versions that can still be drawn (this project's own).
--   HasVersions w n  == so many versions can still be drawn
use Rattle.std.specs.Prelude.{ℕ, ◌+◌, ◌≤◌}
use Rattle.eir_edit.specs.Edits.{last_version}
use Rattle.eirene.specs.Workspaces.{Workspace}

-- so many versions can still be drawn
abbrev pub HasVersions : Workspace → ℕ → Type 0
HasVersions w n = w.work.drawn + n ≤ last_version
