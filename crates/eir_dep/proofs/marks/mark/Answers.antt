use Rattle.eir_dep.proofs.MarkLaws.{AreMarks-set, AreMarks-past}
use Rattle.eir_dep.proofs.marks.mark.Goals as goal

pub returns-then-place-marks : goal.returns-then-place-marks
returns-then-place-marks c xs m = AreMarks-set c.args.marks.now xs c.args.v c.if-place-marks.true m

pub returns-else-place-marks : goal.returns-else-place-marks
returns-else-place-marks c xs m = AreMarks-past c.args.marks.now xs c.args.v c.if-place-marks.false m
