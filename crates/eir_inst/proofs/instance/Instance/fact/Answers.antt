use Rattle.std.proofs.Common.{◌≡◌, ◌∙◌, ◌<◌, ◌-◌, length, slice_get, ap, ap₂, sym, arith}
use Rattle.eir_inst.specs.Layers.{staying, base_facts}
use Rattle.eir_inst.proofs.LayerLaws.{got, read-base, read-staying}
use Rattle.eir_inst.proofs.instance.Instance.fact.Goals as goal

pub returns-then-staying-facts : goal.returns-then-staying-facts
returns-then-staying-facts c =
    let own : c.as_slice-facts.result.now ≡ base_facts c.self.inside.base = c.as_slice-facts.ensures.facts ∙ c.indexed.ensures in
    let n = c.len.ensures in
    let m = c.self.inside.added.ok.0 in
    let below = c.if-place-staying.false in
    let full = c.if-staying-facts.true in
    let size : length c.as_slice-facts.result.now ≡ length (base_facts c.self.inside.base) = ap length own in
    let l : c.args.place < c.self.inside.count - length c.self.inside.added.items = omega arith in
    let f : c.self.inside.count - length c.self.inside.added.items ≡ length (base_facts c.self.inside.base) = omega arith in
    got c.get-then-staying-facts.result c.as_slice-facts.result.now c.args.place c.get-then-staying-facts.ensures.lookup.0 c.get-then-staying-facts.ensures.lookup.1 ∙ ap (λ fs. slice_get fs c.args.place) own
    ∙ sym (read-base c.self.inside.base c.self.inside.gone.items c.self.inside.added.items c.self.inside.count c.self.inside.limit c.args.place c.self.invariant l f) ∙ ap (λ b. slice_get b.facts c.args.place) c.self.view_is

pub returns-else-staying-facts : goal.returns-else-staying-facts
returns-else-staying-facts c =
    let own : c.as_slice-facts.result.now ≡ base_facts c.self.inside.base = c.as_slice-facts.ensures.facts ∙ c.indexed.ensures in
    let n = c.len.ensures in
    let m = c.self.inside.added.ok.0 in
    let below = c.if-place-staying.false in
    let l : c.args.place < c.self.inside.count - length c.self.inside.added.items = omega arith in
    c.nth_fact.ensures ∙ ap₂ (λ fs g. slice_get (staying fs g) c.args.place) own c.deref-else-staying-facts.ensures.value
    ∙ sym (read-staying c.self.inside.base c.self.inside.gone.items c.self.inside.added.items c.self.inside.count c.self.inside.limit c.args.place c.self.invariant l) ∙ ap (λ b. slice_get b.facts c.args.place) c.self.view_is
