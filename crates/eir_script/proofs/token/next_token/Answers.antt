use Rattle.eir_script.proofs.ScanLaws.{IsNext-gaps, IsShorter-gaps}
use Rattle.eir_script.proofs.token.next_token.Goals as goal

pub returns-clause-next : goal.returns-clause-next
returns-clause-next c = IsNext-gaps c.args.bytes.now c.after_gaps.result.now c.first_token.result c.after_gaps.ensures c.first_token.ensures.next

pub returns-clause-shorter : goal.returns-clause-shorter
returns-clause-shorter c = IsShorter-gaps c.args.bytes.now c.after_gaps.result.now c.first_token.result c.after_gaps.ensures c.first_token.ensures.shorter
