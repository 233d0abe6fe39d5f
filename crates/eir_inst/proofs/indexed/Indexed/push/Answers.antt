use Rattle.std.proofs.Common.{ap, subst}
use Rattle.eir_term.specs.Lists.{◌∈◌}
use Rattle.eir_term.proofs.InstanceLaws.{appended-distinct}
use Rattle.eir_inst.proofs.indexed.Indexed.push.Goals as goal

pub append-requires : goal.append-requires
append-requires c = λ h. c.requires (subst (λ fs. c.args.fact ∈ fs) (ap (λ b. b.facts) c.self.view_is) h)

pub invariant_of-self : goal.invariant_of-self
invariant_of-self c = (
  appended-distinct c.append.result c.self.inside.facts.keys c.append.new.facts.keys c.args.fact c.self.invariant.0 (λ h. c.requires (subst (λ fs. c.args.fact ∈ fs) (ap (λ b. b.facts) c.self.view_is) h)) c.append.ensures.ok c.append.ensures.err,
  c.append.ensures.index c.self.invariant.1,
)
