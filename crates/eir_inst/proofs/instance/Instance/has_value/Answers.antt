use Rattle.std.proofs.Common.{◌∙◌, ◌++◌, ◌||◌, ap, ap₂, sym}
use Rattle.std.specs.List.{list_any}
use Rattle.eir_term.specs.Values.{val_eq}
use Rattle.eir_term.specs.Instances.{occurrences}
use Rattle.eir_inst.specs.Layers.{staying}
use Rattle.eir_inst.proofs.OccurLaws.{occurs-both}
use Rattle.eir_inst.proofs.StayingLaws.{staying-none}
use Rattle.eir_inst.proofs.instance.Instance.has_value.Goals as goal

pub returns-then-value_stays : goal.returns-then-value_stays
returns-then-value_stays c =
    let seen = ap₂ (λ fs g. staying fs g ++ c.self.inside.added.items) c.indexed.ensures c.deref.ensures.value ∙ ap (λ b. b.facts) c.self.view_is in
    let both = occurs-both (val_eq c.args.val) (staying c.indexed.result.now.facts c.deref.result.now) c.self.inside.added.items in
    c.if-value_stays.true
    ∙ sym (ap (λ fs. list_any (val_eq c.args.val) (occurrences fs)) (sym seen) ∙ both ∙ ap (λ b. b || list_any (val_eq c.args.val) (occurrences c.self.inside.added.items)) (sym c.value_stays.ensures ∙ c.if-value_stays.true))

pub returns-else-value_stays : goal.returns-else-value_stays
returns-else-value_stays c =
    let seen = ap₂ (λ fs g. staying fs g ++ c.self.inside.added.items) c.indexed.ensures c.deref.ensures.value ∙ ap (λ b. b.facts) c.self.view_is in
    let both = occurs-both (val_eq c.args.val) (staying c.indexed.result.now.facts c.deref.result.now) c.self.inside.added.items in
    let added = staying-none c.deref-else-value_stays.result.now ∙ c.deref-else-value_stays.ensures.value in
    c.has_value_among.ensures ∙ ap (λ fs. list_any (val_eq c.args.val) (occurrences fs)) added
    ∙ sym (ap (λ fs. list_any (val_eq c.args.val) (occurrences fs)) (sym seen) ∙ both ∙ ap (λ b. b || list_any (val_eq c.args.val) (occurrences c.self.inside.added.items)) (sym c.value_stays.ensures ∙ c.if-value_stays.false))
