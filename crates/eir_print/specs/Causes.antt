-- Refusals of the crates below, and causes, as what a line is refused with (this project's own).
--   refusal_of c              == the refusal of a line for a cause
--   refusal_of_declaration e  == the refusal of a line that declares
--   refusal_of_edit e         == the refusal of a line that edits
--   IsCaused e cause          == want of memory, or the refusal for the cause that there is
use Rattle.std.specs.Prelude.{◌≡◌, ◌⊎◌, Option, Some, option_map}
use Rattle.eir_schema.specs.declared.refused.DeclareRefused.{DeclareRefused}
use Rattle.eir_schema.specs.declared.refused.DeclareRefused.TheVariants as declaring
use Rattle.eir_edit.specs.declared.refused.EditRefused.{EditRefused}
use Rattle.eir_edit.specs.declared.refused.EditRefused.TheVariants as editing
use Rattle.eir_edit.specs.Causes.{Cause}
use Rattle.eir_edit.specs.Causes as cause
use Rattle.eir_print.specs.declared.refusal.Refusal.{Refusal}
use Rattle.eir_print.specs.declared.refusal.Refusal.TheVariants.{Taken, Relation, Arity, Null, Example, There, Missing, Full, Nothing, Foreign, Memory}

-- the refusal of a line for a cause
abbrev pub refusal_of : Cause → Refusal
refusal_of cause.taken = Taken
refusal_of cause.relation = Relation
refusal_of cause.arity = Arity
refusal_of cause.null = Null
refusal_of cause.example = Example
refusal_of cause.there = There
refusal_of cause.missing = Missing
refusal_of (cause.full n) = Full n
refusal_of cause.nothing = Nothing
refusal_of (cause.foreign mine theirs) = Foreign mine theirs

-- the refusal of a line that declares
abbrev pub refusal_of_declaration : DeclareRefused → Refusal
refusal_of_declaration declaring.Taken = Taken
refusal_of_declaration (declaring.Full n) = Full n
refusal_of_declaration declaring.Memory = Memory

-- the refusal of a line that edits
abbrev pub refusal_of_edit : EditRefused → Refusal
refusal_of_edit editing.Taken = Taken
refusal_of_edit editing.NoExample = Example
refusal_of_edit editing.There = There
refusal_of_edit editing.Missing = Missing
refusal_of_edit (editing.Full n) = Full n
refusal_of_edit editing.Nothing = Nothing
refusal_of_edit (editing.Foreign mine theirs) = Foreign mine theirs
refusal_of_edit editing.Memory = Memory

-- want of memory, or the refusal for the cause that there is
abbrev pub IsCaused : Refusal → Option Cause → Type 0
IsCaused e c = (e ≡ Memory) ⊎ (option_map refusal_of c ≡ Some e)
