use Rattle.std.proofs.Common.{◌∙◌, ap, sym, subst}
use Rattle.std.proofs.lemmas.Bool.{false≢true}
use Rattle.eir_term.specs.Lists.{◌∈◌}
use Rattle.eir_inst.proofs.LayerLaws.{IsLayered-more}
use Rattle.eir_inst.proofs.instance.Instance.insert.Goals as goal

pub invariant_of-self : goal.invariant_of-self
invariant_of-self c =
    IsLayered-more c.self.inside.base c.append.new.base c.self.inside.gone.items c.append.new.gone.items c.self.inside.added.items c.append.new.added.items c.self.inside.count c.self.inside.limit c.args.fact c.self.invariant c.append.ensures.marked c.in-Ok.ensures.ok
    (λ h. false≢true (sym c.if-contains.false ∙ c.contains.ensures.1 (subst (λ fs. c.args.fact ∈ fs) (ap (λ b. b.facts) c.self.view_is) h))) c.if-self.false
