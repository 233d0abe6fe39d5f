use Rattle.std.proofs.Common.{◌≡◌, ◌∙◌, ◌++◌, length, ap, ap₂, sym, arith}
use Rattle.eir_inst.specs.declared.instance.Base.TheVariants.{Shared}
use Rattle.eir_inst.specs.BoundedFacts.{BoundedFacts}
use Rattle.eir_inst.specs.Layers.{base_facts, layered, staying}
use Rattle.eir_inst.proofs.WalkLaws.{length-filter}
use Rattle.eir_inst.proofs.LayerLaws.{IsLayered-same, copied-marks}
use Rattle.eir_inst.proofs.instance.Instance.copy.Goals as goal

pub overflow_add-gone_count : goal.overflow_add-gone_count
overflow_add-gone_count c =
    let n = c.gone_count.ensures in
    let below = length-filter (λ g. g) c.deref.result.now in
    let marks = c.deref.ensures.len in
    let room = c.self.inside.gone.ok.1 in
    let small = c.self.inside.gone.small in
    let added = c.len.ensures in
    let room-2 = c.self.inside.added.ok.1 in
    let small-2 = c.self.inside.added.small in
    omega arith

same : (c : goal.In_ok-copies-in-Shared) → layered (Shared c.in_ok-clone-in-Shared.field-0) c.in_ok-clone-in-Shared-2.field-0.items c.in_ok-copies-in-Shared.field-0.items ≡ layered c.self.inside.base c.self.inside.gone.items c.self.inside.added.items
same c =
    let own = ap (λ x. x.facts) c.in_ok-clone-in-Shared.ensures.cases ∙ sym (ap base_facts c.in-Shared.is) in
    let marks = copied-marks c.self.inside.gone.items c.in_ok-clone-in-Shared-2.field-0.items c.in_ok-clone-in-Shared-2.ensures.cases.0 in
    ap₂ (λ fs gs. fs ++ gs) (ap₂ staying own marks) (c.in_ok-copies-in-Shared.ensures ∙ c.deref-in-Shared.ensures.value)

pub invariant_of-result : goal.invariant_of-result
invariant_of-result c =
    let own = ap (λ x. x.facts) c.in_ok-clone-in-Shared.ensures.cases ∙ sym (ap base_facts c.in-Shared.is) in
    let marks = copied-marks c.self.inside.gone.items c.in_ok-clone-in-Shared-2.field-0.items c.in_ok-clone-in-Shared-2.ensures.cases.0 in
    IsLayered-same c.self.inside.base (Shared c.in_ok-clone-in-Shared.field-0) c.self.inside.gone.items c.in_ok-clone-in-Shared-2.field-0.items c.self.inside.added.items c.in_ok-copies-in-Shared.field-0.items c.self.inside.count c.self.inside.limit c.self.invariant
    (ap length marks ∙ c.self.invariant.marked ∙ ap length (sym own)) (same c)

pub returns-in_ok-copies-in-Shared : goal.returns-in_ok-copies-in-Shared
returns-in_ok-copies-in-Shared c = ap (λ fs. let b : BoundedFacts = record { facts = fs; limit = c.self.inside.limit } in b) (same c) ∙ c.self.view_is
