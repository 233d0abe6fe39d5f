use Rattle.std.proofs.Common.{◌∙◌}
use Rattle.eir_hom.proofs.matching.Matcher.shape.Goals as goal

pub invariant_of-self : goal.invariant_of-self
invariant_of-self c = rw (c.shape.ensures.same ∙ c.deref_mut.ensures.value) c.self.invariant
