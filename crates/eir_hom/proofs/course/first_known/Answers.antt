use Rattle.std.proofs.Common.{length}
use Rattle.eir_hom.proofs.FitLaws.{AllUnder-at}
use Rattle.eir_hom.proofs.course.first_known.Goals as goal

pub bounds-known-numbers : goal.bounds-known-numbers
bounds-known-numbers c = AllUnder-at (length c.args.known.now) c.args.numbers.now c.loop-column.column 0 c.requires c.loop-column-test.true
