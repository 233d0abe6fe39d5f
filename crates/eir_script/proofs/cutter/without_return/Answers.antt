use Rattle.eir_script.proofs.CutterLaws.{trimmed-return, trimmed-other}
use Rattle.eir_script.proofs.cutter.without_return.Goals as goal

pub returns-then-last-eq13 : goal.returns-then-last-eq13
returns-then-last-eq13 c = trimmed-return c.args.bytes.now c.in-len1-up.len_at_least c.if-last-eq13.true

pub returns-else-last-eq13 : goal.returns-else-last-eq13
returns-else-last-eq13 c = trimmed-other c.args.bytes.now c.in-len1-up.len_at_least c.if-last-eq13.false
