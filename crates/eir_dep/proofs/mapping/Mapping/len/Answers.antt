use Rattle.std.proofs.Common.{subst}
use Rattle.eir_term.specs.declared.val.Kind.TheVariants.{Glav}
use Rattle.eir_term.specs.Dependencies.{IsMapping}
use Rattle.eir_dep.proofs.mapping.Mapping.len.Goals as goal

pub returns-clause-well_formed : goal.returns-clause-well_formed
returns-clause-well_formed c = subst (λ M. IsMapping Glav M) c.self.view_is c.self.invariant
