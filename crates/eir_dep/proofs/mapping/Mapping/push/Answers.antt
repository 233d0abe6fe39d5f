use Rattle.eir_term.specs.declared.val.Kind.TheVariants.{Glav}
use Rattle.eir_dep.proofs.GavLaws.{IsMapping-pushed}
use Rattle.eir_dep.proofs.mapping.Mapping.push.Goals as goal

pub invariant_of-self : goal.invariant_of-self
invariant_of-self c = IsMapping-pushed Glav _ c.self.inside.deps.items _ c.args.dep c.push.ensures.items c.self.invariant (c.conclusion-well_formed.ensures.well_formed, tt)

pub invariant_of-self-2 : goal.invariant_of-self-2
invariant_of-self-2 c = IsMapping-pushed Glav _ c.self.inside.deps.items _ c.args.dep c.push.ensures.items c.self.invariant (c.conclusion-well_formed.ensures.well_formed, tt)
