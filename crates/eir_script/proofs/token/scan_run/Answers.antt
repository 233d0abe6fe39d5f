use Rattle.eir_script.proofs.ScanLaws.{run-first, run-too_long, run-shorter}
use Rattle.eir_script.proofs.token.scan_run.Goals as goal

pub returns-in-Some-clause-next : goal.returns-in-Some-clause-next
returns-in-Some-clause-next c = run-first c.args.bytes.now c.requires c.in-Some.word.now c.in-Some.rest.now c.in-Some.ensures

pub returns-in-None-clause-next : goal.returns-in-None-clause-next
returns-in-None-clause-next c = run-too_long c.args.bytes.now c.requires c.in-None.ensures

pub returns-in-Some-clause-shorter : goal.returns-in-Some-clause-shorter
returns-in-Some-clause-shorter c = run-shorter c.args.bytes.now c.requires c.in-Some.word.now c.in-Some.rest.now c.in-Some.ensures
