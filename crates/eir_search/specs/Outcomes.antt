-- What a step, and a turn of several steps, take off what is still to come (this project's own).
--   tries_to_tell s                    == the tries of a step that tells a list
--   tries_of step s                    == the tries of a step
--   TakesFirst step old new choices    == the step takes the first event off, and says what it was
--   TakesRun turn s n old new choices  == the turn takes n tries off, of which the last one alone may tell a list
use Rattle.std.specs.Prelude.{◌≡◌, ◌≢◌, ℕ, ◌-◌, ◌≤◌, List, [], ◌∷◌, ◌++◌, None, Some, min, replicate}
use Rattle.eir_search.specs.Spaces.{Space}
use Rattle.eir_search.specs.Tries.{Event}
use Rattle.eir_search.specs.declared.search.Step.{Step}
use Rattle.eir_search.specs.declared.search.Step.TheVariants.{Tried, Found, Done, Spent}
use Rattle.eir_search.specs.declared.search.Turn.{Turn}
use Rattle.eir_search.specs.declared.search.Turn.TheVariants as turn

-- the tries of a step that tells a list: one, or none where there are no levels
abbrev pub tries_to_tell : Space → ℕ
tries_to_tell s = min 1 s.levels

-- the tries of a step
abbrev pub tries_of : Step → Space → ℕ
tries_of Tried s = 1
tries_of Found s = tries_to_tell s
tries_of Done s = 0
tries_of Spent s = 0

-- the step takes the first event off, and says what it was: nothing is left, or the same, where it took none
abbrev pub TakesFirst : Step → List Event → List Event → List ℕ → Type 0
TakesFirst Tried old new choices = old ≡ None ∷ new
TakesFirst Found old new choices = old ≡ Some choices ∷ new
TakesFirst Done old new choices = (old ≡ []) × (new ≡ [])
TakesFirst Spent old new choices = (old ≢ []) × (new ≡ old)

-- the turn takes n tries off that tell nothing, or of which the last one tells a list
abbrev pub TakesRun : Turn → Space → ℕ → List Event → List Event → List ℕ → Type 0
TakesRun turn.Going s n old new choices = old ≡ replicate n None ++ new
TakesRun turn.Found s n old new choices =
    (tries_to_tell s ≤ n) × (old ≡ replicate (n - tries_to_tell s) None ++ Some choices ∷ new)
TakesRun turn.Done s n old new choices = (old ≡ replicate n None ++ new) × (new ≡ [])
TakesRun turn.Spent s n old new choices = old ≡ replicate n None ++ new
