use Rattle.std.proofs.Common.{◌≡◌, ◌∙◌, ◌++◌, length, ap, ap₂, arith}
use Rattle.eir_inst.specs.Keys.{has_key}
use Rattle.eir_inst.specs.Layers.{staying, base_facts}
use Rattle.eir_inst.proofs.LayerLaws.{count-layered, under-below}
use Rattle.eir_inst.proofs.instance.Instance.count.Goals as goal

pub overflow_add-result : goal.overflow_add-result
overflow_add-result c =
    let seen = ap₂ (λ fs g. staying fs g ++ c.deref-2.result.now) c.indexed.ensures c.deref.ensures.value ∙ ap (λ fs. staying (base_facts c.self.inside.base) c.self.inside.gone.items ++ fs) c.deref-2.ensures.value ∙ ap (λ b. b.facts) c.self.view_is in
    let below = under-below (has_key c.args.key) c.indexed.result.now.facts c.deref-2.result.now c.args.self.now.facts c.deref.result.now c.list-places.result.now seen c.list-places.ensures c.count_staying.result c.count_under.result c.count_staying.ensures c.count_under.ensures in
    let a = below.0 in
    let b = below.1 in
    let base : length c.indexed.result.now.facts ≡ length (base_facts c.self.inside.base) = ap length c.indexed.ensures in
    let marked = c.self.invariant.marked in
    let marks = c.self.inside.gone.ok.0 in
    let room = c.self.inside.gone.ok.1 in
    let small = c.self.inside.gone.small in
    let added = c.deref-2.ensures.len in
    let room-2 = c.self.inside.added.ok.1 in
    let small-2 = c.self.inside.added.small in
    omega arith

pub returns : goal.returns
returns c =
    let seen = ap₂ (λ fs g. staying fs g ++ c.deref-2.result.now) c.indexed.ensures c.deref.ensures.value ∙ ap (λ fs. staying (base_facts c.self.inside.base) c.self.inside.gone.items ++ fs) c.deref-2.ensures.value ∙ ap (λ b. b.facts) c.self.view_is in
    count-layered (has_key c.args.key) c.indexed.result.now.facts c.deref-2.result.now c.args.self.now.facts c.deref.result.now c.list-places.result.now seen c.list-places.ensures c.count_staying.result c.count_under.result c.count_staying.ensures c.count_under.ensures
