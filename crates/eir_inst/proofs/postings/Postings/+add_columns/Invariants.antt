use Rattle.std.proofs.Common.{length}
use Rattle.eir_inst.proofs.postings.Postings.+add_columns.Given as goal

abbrev pub decreases-add_columns : goal.decreases-add_columns
decreases-add_columns l = length l.vals.now
