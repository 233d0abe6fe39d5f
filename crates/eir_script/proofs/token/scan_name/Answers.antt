use Rattle.eir_script.proofs.ScanLaws.{label-first, label-too_long}
use Rattle.eir_script.proofs.token.scan_name.Goals as goal

pub returns-in-Some-clause-next : goal.returns-in-Some-clause-next
returns-in-Some-clause-next c = label-first c.args.bytes.now c.requires c.in-Some.name.now c.in-Some.rest.now c.in-Some.ensures

pub returns-in-None-clause-next : goal.returns-in-None-clause-next
returns-in-None-clause-next c = label-too_long c.args.bytes.now c.requires c.in-None.ensures
