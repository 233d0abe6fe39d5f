-- The names of a line, and what the line asks by their numbers (this project's own). A value's number is the place of
-- its name after all names of the line were put into the table.
--   names_in s            == the names of the constants and nulls that are written, in order
--   named names ws        == each of these put last where it is new, in turn
--   value_of names a      == a constant or a null by the number of its name
--   numbered names s      == the command for what is said
--   names_read r          == the names of a line that is read so
--   command_read names r  == the command of a line that is read so, where it is not bad
use Rattle.std.specs.Prelude.{ℕ, List, [], map, fold, Option, Some, None}
use Rattle.eir_term.specs.declared.val.Val.{Val}
use Rattle.eir_term.specs.declared.val.Val.TheVariants.{Const, Null}
use Rattle.eir_schema.specs.Names.{with_name, number_of}
use Rattle.eir_script.specs.declared.command.Command.{Command}
use Rattle.eir_script.specs.declared.command.Command.TheVariants as command
use Rattle.eir_script.specs.declared.command.RawFact.{RawFact}
use Rattle.eir_script.specs.Grammar as said
use Rattle.eir_script.specs.Grammar.{Argument, constant, labelled, WrittenFact, Said}
use Rattle.eir_script.specs.Reading.{argument_name, Reading, bad, blank, says}

-- the names of the constants and nulls that are written, in order; relations, columns and examples have no numbers
abbrev pub names_in : Said → List (List ℕ)
names_in (said.put e f) = map argument_name f.arguments
names_in (said.cut e f) = map argument_name f.arguments
names_in s = []

-- each of these put last where it is new, in turn
abbrev pub named : List (List ℕ) → List (List ℕ) → List (List ℕ)
named names ws = fold with_name names ws

-- a constant or a null by the number of its name
abbrev pub value_of : List (List ℕ) → Argument → Val
value_of names (constant w) = Const (number_of names w)
value_of names (labelled w) = Null (number_of names w)

-- a fact by the numbers of the names of its arguments
abbrev pub raw_fact : List (List ℕ) → WrittenFact → RawFact
raw_fact names f = record { relation = f.relation; args = map (value_of names) f.arguments }

-- the command for what is said
abbrev pub numbered : List (List ℕ) → Said → Command
numbered names (said.declare side r columns) = command.Declare side r columns
numbered names (said.new e) = command.New e
numbered names (said.put e f) = command.Put e (raw_fact names f)
numbered names (said.cut e f) = command.Cut e (raw_fact names f)
numbered names (said.drop e) = command.Drop e
numbered names said.undo = command.Undo
numbered names (said.take d e) = command.Take d e
numbered names (said.kind k) = command.Kind k
numbered names (said.budget n) = command.Budget n
numbered names said.fit = command.Fit
numbered names said.tries = command.Tries
numbered names said.reduce = command.Reduce
numbered names (said.chase e) = command.Chase e
numbered names (said.cert file) = command.Cert file
numbered names (said.table r file) = command.Table r file
numbered names said.exchange = command.Exchange

-- the names of a line that is read so
abbrev pub names_read : Reading → List (List ℕ)
names_read bad = []
names_read blank = []
names_read (says s) = names_in s

-- the command of a line that is read so, where it is not bad
abbrev pub command_read : List (List ℕ) → Reading → Option Command
command_read names bad = None
command_read names blank = Some command.Blank
command_read names (says s) = Some (numbered names s)
