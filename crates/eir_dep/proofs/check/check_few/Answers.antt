use Rattle.eir_dep.proofs.MarkLaws.{AreMarks-cleared}
use Rattle.eir_dep.proofs.check.check_few.Goals as goal

pub check_marked-requires-clause-none_bound : goal.check_marked-requires-clause-none_bound
check_marked-requires-clause-none_bound c = AreMarks-cleared 64

pub check_marked-requires-clause-none_concluded : goal.check_marked-requires-clause-none_concluded
check_marked-requires-clause-none_concluded c = AreMarks-cleared 64
