use Rattle.std.proofs.Common.{length}
use Rattle.eir_inst.proofs.postings.Postings.+drop_columns.Given as goal

abbrev pub decreases-drop_columns : goal.decreases-drop_columns
decreases-drop_columns l = length l.vals.now
