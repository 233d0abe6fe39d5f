use Rattle.std.proofs.Common.{◌∙◌, sym, subst}
use Rattle.eir_term.specs.Lists.{IsDistinct}
use Rattle.eir_term.proofs.HomLaws.{IsDistinct-values}
use Rattle.eir_inst.proofs.indexed.Indexed.values.Goals as goal

pub returns-clause-distinct : goal.returns-clause-distinct
returns-clause-distinct c = subst (λ vs. IsDistinct vs) (sym (c.as_slice.ensures.keys ∙ (c.self.invariant.1).values)) (IsDistinct-values c.self.inside.facts.keys)
