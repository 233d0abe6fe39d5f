use Rattle.std.proofs.Common.{◌∙◌, ◌++◌, filter, length, slice_get, ap, ap₂, sym}
use Rattle.eir_inst.specs.Keys.{has_key}
use Rattle.eir_inst.specs.Layers.{stays, staying, base_facts}
use Rattle.eir_inst.proofs.LayerLaws.{got, nth-staying, nth-added}
use Rattle.eir_inst.proofs.instance.Instance.nth.Goals as goal

pub returns-in-Some : goal.returns-in-Some
returns-in-Some c =
    let seen = ap₂ (λ fs g. staying fs g ++ c.self.inside.added.items) c.indexed-base.ensures c.deref.ensures.value ∙ ap (λ b. b.facts) c.self.view_is in
    got c.get.result c.as_slice.result.now c.in-Some.place c.get.ensures.lookup.0 c.get.ensures.lookup.1 ∙ ap (λ fs. slice_get fs c.in-Some.place) c.as_slice.ensures.facts
    ∙ nth-staying (has_key c.args.key) c.indexed-base.result.now.facts c.self.inside.added.items c.args.self.now.facts c.deref.result.now c.list-places.result.now seen c.list-places.ensures c.args.k c.in-Some.place (sym c.nth_staying.ensures ∙ c.in-Some.is)

pub returns-in-None : goal.returns-in-None
returns-in-None c =
    let seen = ap₂ (λ fs g. staying fs g ++ c.deref-in-None.result.now) c.indexed-base.ensures c.deref.ensures.value ∙ ap (λ fs. staying (base_facts c.self.inside.base) c.self.inside.gone.items ++ fs) c.deref-in-None.ensures.value ∙ ap (λ b. b.facts) c.self.view_is in
    c.nth_under.ensures
    ∙ nth-added (has_key c.args.key) c.indexed-base.result.now.facts c.deref-in-None.result.now c.args.self.now.facts c.deref.result.now c.list-places.result.now seen c.list-places.ensures c.args.k c.count_staying.result (sym c.nth_staying.ensures ∙ c.in-None.is)
    (c.count_staying.ensures ∙ ap (λ g. length (filter (stays g) c.list-places.result.now)) (c.deref-in-None-2.ensures.value ∙ sym c.deref.ensures.value))
