use Rattle.std.proofs.Common.{◌≡◌, ◌∙◌, false, length, ap, sym}
use Rattle.std.proofs.lemmas.List.{length-replicate}
use Rattle.eir_inst.specs.declared.instance.Base.TheVariants.{Shared}
use Rattle.eir_inst.specs.BoundedFacts.{BoundedFacts}
use Rattle.eir_inst.specs.Layers.{layered}
use Rattle.eir_inst.proofs.LayerLaws.{settled-layers, IsLayered-same}
use Rattle.eir_inst.proofs.instance.Instance.settled.Goals as goal

same : (c : goal.After-new) → layered (Shared c.in_ok-base.base) c.in_ok-gone.gone.items c.new.result.items ≡ layered c.self.inside.base c.self.inside.gone.items c.self.inside.added.items
same c =
    settled-layers c.self.inside.base (Shared c.in_ok-base.base) c.self.inside.gone.items c.in_ok-gone.gone.items c.self.inside.added.items c.new.result.items c.len.result (c.in_ok-base.ensures ∙ sym (ap (λ b. b.facts) c.self.view_is)) c.in_ok-gone.ensures c.new.ensures.items

pub invariant_of-result : goal.invariant_of-result
invariant_of-result c =
    IsLayered-same c.self.inside.base (Shared c.in_ok-base.base) c.self.inside.gone.items c.in_ok-gone.gone.items c.self.inside.added.items c.new.result.items c.self.inside.count c.self.inside.limit c.self.invariant
    (ap length c.in_ok-gone.ensures ∙ length-replicate c.len.result false ∙ c.len.ensures ∙ ap (λ x. length x.facts) c.deref.ensures) (same c)

pub returns : goal.returns
returns c = ap (λ fs. let b : BoundedFacts = record { facts = fs; limit = c.self.inside.limit } in b) (same c) ∙ c.self.view_is
