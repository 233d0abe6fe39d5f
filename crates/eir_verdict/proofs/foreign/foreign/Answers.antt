use Rattle.eir_verdict.proofs.ForeignLaws.{foreign-found, foreign-occurs}
use Rattle.eir_verdict.proofs.foreign.foreign.Goals as goal

pub returns-in-Const : goal.returns-in-Const
returns-in-Const c = foreign-found c.args.source.now.facts c.args.value c.in-Const.number c.has_value.result c.in-Const.is c.has_value.ensures c.if-not-has_value.true

pub returns-in_default : goal.returns-in_default
returns-in_default c = foreign-occurs c.args.source.now.facts c.args.value c.in-Const.number c.has_value.result c.in-Const.is c.has_value.ensures c.if-not-has_value.false
