use Rattle.eir_script.proofs.ScanLaws.{is_blank-empty, is_blank-first}
use Rattle.eir_script.proofs.blank.is_blank.Goals as goal

pub returns-in-empty : goal.returns-in-empty
returns-in-empty c = is_blank-empty c.args.line.now c.after_gaps.result.now c.after_gaps.ensures c.in-empty.len_below

pub returns-in-len1-up : goal.returns-in-len1-up
returns-in-len1-up c = is_blank-first c.args.line.now c.after_gaps.result.now c.after_gaps.ensures c.in-len1-up.len_at_least
