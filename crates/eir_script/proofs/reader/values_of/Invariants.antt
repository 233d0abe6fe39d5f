use Rattle.std.proofs.Common.{◌≡◌, List, map}
use Rattle.eir_script.specs.Forms.{bytes_left}
use Rattle.eir_script.specs.Grammar.{Argument}
use Rattle.eir_script.specs.Naming.{named, value_of}
use Rattle.eir_script.specs.Reading.{argument_name}
use Rattle.eir_script.proofs.ArgumentLaws.{IsReadTo}
use Rattle.eir_script.proofs.reader.values_of.Given as goal

abbrev pub invariant-left : goal.invariant-left
invariant-left l = (done : List Argument) × IsReadTo l.fn.atom.arguments.now l.left done × (l.names ≡ named l.fn.names (map argument_name done)) × (l.values.items ≡ map (value_of l.names) done)

abbrev pub decreases-left : goal.decreases-left
decreases-left l = bytes_left l.left
