use Rattle.eir_dep.proofs.GavLaws.{gav-iff}
use Rattle.eir_dep.proofs.mapping.is_gav.Goals as goal

pub returns-then-conclusion-eq1-clause-gav : goal.returns-then-conclusion-eq1-clause-gav
returns-then-conclusion-eq1-clause-gav c =
    gav-iff c.is_empty.result c.args.dep.now c.conclusion-conclusion.result.now c.exists-exists.result.now c.conclusion-conclusion.ensures.atoms c.exists-exists.ensures c.if-conclusion-eq1.true c.is_empty.ensures
