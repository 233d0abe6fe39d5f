use Rattle.std.proofs.Common.{◌≡◌, ◌+◌, ◌≤◌, List, length}
use Rattle.std.specs.List.{list_any}
use Rattle.eir_script.specs.Forms.{bytes_left}
use Rattle.eir_script.specs.Grammar.{Argument}
use Rattle.eir_script.specs.Reading.{is_labelled}
use Rattle.eir_script.proofs.ArgumentLaws.{IsReadTo}
use Rattle.eir_script.proofs.arguments.list_shape.Given as goal

abbrev pub invariant-left : goal.invariant-left
invariant-left l = (done : List Argument) × IsReadTo l.bytes l.left done × (l.shape.has_null ≡ list_any is_labelled done) × (l.shape.count + bytes_left l.left ≤ length l.bytes)

abbrev pub decreases-left : goal.decreases-left
decreases-left l = bytes_left l.left
