use Rattle.std.proofs.Common.{◌≡◌, ◌∙◌, ◌++◌, ap, sym, subst}
use Rattle.std.proofs.lemmas.Bool.{false≢true}
use Rattle.eir_term.specs.Lists.{◌∈◌, without}
use Rattle.eir_term.specs.Facts.{fact_eq}
use Rattle.eir_inst.specs.BoundedFacts.{BoundedFacts}
use Rattle.eir_inst.specs.Layers.{staying, layered}
use Rattle.eir_inst.proofs.WithoutLaws.{without-absent}
use Rattle.eir_inst.proofs.LayerLaws.{IsLayered-taken, IsLayered-same}
use Rattle.eir_inst.proofs.instance.Instance.remove.Goals as goal

pub invariant_of-self : goal.invariant_of-self
invariant_of-self c =
    IsLayered-taken c.self.inside.base c.self.inside.gone.items c.take_out.new.gone.items c.self.inside.added.items c.take_out.new.added.items c.self.inside.count c.self.inside.limit c.args.fact.now c.self.invariant c.take_out.ensures.marked
    (subst (λ fs. staying fs c.take_out.new.gone.items ++ c.take_out.new.added.items ≡ without fact_eq c.args.fact.now (staying fs c.self.inside.gone.items ++ c.self.inside.added.items)) c.indexed.ensures c.take_out.ensures.facts)
    (subst (λ fs. c.args.fact.now ∈ (staying fs c.self.inside.gone.items ++ c.self.inside.added.items)) c.indexed.ensures (c.take_out.ensures.there.0 c.if-take_out.true))

same : (c : goal.Else-take_out) → layered c.self.inside.base c.take_out.new.gone.items c.take_out.new.added.items ≡ layered c.self.inside.base c.self.inside.gone.items c.self.inside.added.items
same c =
    subst (λ fs. staying fs c.take_out.new.gone.items ++ c.take_out.new.added.items ≡ staying fs c.self.inside.gone.items ++ c.self.inside.added.items) c.indexed.ensures
    (c.take_out.ensures.facts ∙ without-absent c.args.fact.now (staying c.indexed.result.now.facts c.self.inside.gone.items ++ c.self.inside.added.items) (λ h. false≢true (sym c.if-take_out.false ∙ c.take_out.ensures.there.1 h)))

pub invariant_of-self-else-take_out : goal.invariant_of-self-else-take_out
invariant_of-self-else-take_out c =
    IsLayered-same c.self.inside.base c.self.inside.base c.self.inside.gone.items c.take_out.new.gone.items c.self.inside.added.items c.take_out.new.added.items c.self.inside.count c.self.inside.limit c.self.invariant
    (c.take_out.ensures.marked ∙ c.self.invariant.marked) (same c)

pub returns-else-take_out-clause-err : goal.returns-else-take_out-clause-err
returns-else-take_out-clause-err c = ap (λ fs. let b : BoundedFacts = record { facts = fs; limit = c.self.inside.limit } in b) (same c) ∙ c.self.view_is
