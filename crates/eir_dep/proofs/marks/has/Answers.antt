use Rattle.eir_term.specs.Dependencies.{vars}
use Rattle.eir_term.proofs.ListLaws.{∈-append_left}
use Rattle.eir_dep.proofs.MarkLaws.{second-iff, no-from}
use Rattle.eir_dep.proofs.marks.has.Goals as goal

pub returns-then-occurs : goal.returns-then-occurs
returns-then-occurs c = (λ t. ∈-append_left c.args.v (vars c.args.atoms.now) c.args.listed.now (c.occurs.ensures.0 c.if-occurs.true), λ h. c.if-occurs.true)

pub returns-else-occurs : goal.returns-else-occurs
returns-else-occurs c = second-iff _ c.args.v (vars c.args.atoms.now) c.args.listed.now c.contains.ensures.value (no-from c.occurs.result c.occurs.ensures c.if-occurs.false)
