use Rattle.std.proofs.Common.{Err, ap, sym, ◌∙◌}
use Rattle.eirene.proofs.StatusLaws.{stop-too_long}
use Rattle.eirene.proofs.top.run.Goals as goal

pub returns-in-Err-clause-too_long : goal.returns-in-Err-clause-too_long
returns-in-Err-clause-too_long g c e = c.in-Err.ensures.too_long (ap Err (stop-too_long c.in-Err.stop (sym c.stop_status.ensures ∙ e)))
