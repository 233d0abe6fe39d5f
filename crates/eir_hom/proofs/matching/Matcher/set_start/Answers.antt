use Rattle.std.proofs.Common.{length, slice_get, arith, ap, sym, refl, ◌∙◌}
use Rattle.std.proofs.lemmas.List.{with_items_is, length-set}
use Rattle.eir_hom.proofs.ScanLaws.{compiled-at}
use Rattle.eir_hom.proofs.LevelLaws.{slot-below, renumbered, room-kept, unmoved}
use Rattle.eir_hom.proofs.GrownLaws.{IsGrown, view-on, matcher-on}
use Rattle.eir_hom.proofs.matching.Matcher.set_start.Goals as goal

pub index_mut-requires : goal.index_mut-requires
index_mut-requires c =
    let below = slot-below _ _ _ _ _ _ _ _ _ _ c.args.slot c.self.view_is c.self.invariant.0 c.requires.bound in
    omega (arith, below)

pub renew_range-requires-clause-parts : goal.renew_range-requires-clause-parts
renew_range-requires-clause-parts c = λ l at.
    let k = compiled-at _ _ _ _ _ _ l c.self.invariant.0.compiled (ap (λ x. slice_get x 0) (sym c.deref.ensures.value) ∙ at) in
    (rw c.deref_mut.ensures.value k.1.table, rw (c.deref-2.ensures.value, length-set c.self.inside.images.items c.args.slot c.args.number) k.1.key_below)

pub renew_range-requires-clause-others : goal.renew_range-requires-clause-others
renew_range-requires-clause-others c = λ l r a b apart.
    rw (c.deref_mut.ensures.value, c.deref-2.ensures.value) (unmoved _ _ _ _ _ _ _ _ _ c.args.slot c.args.number l r c.self.invariant.0 (ap (λ x. slice_get x 0) (sym c.deref.ensures.value) ∙ a) (ap (λ x. slice_get x 0) (sym c.deref_mut-2.ensures.value) ∙ b) apart)

pub invariant_of-self : goal.invariant_of-self
invariant_of-self c =
    let below = slot-below _ _ _ _ _ _ _ _ _ _ c.args.slot c.self.view_is c.self.invariant.0 c.requires.bound in
    let ranges = with_items_is c.self.inside.ranges c.renew_range.new.ranges (c.renew_range.ensures.length ∙ c.deref_mut-2.ensures.len) in
    let g : IsGrown c.self.inside.stock.value c.renew_range.new.stock = record { tables = c.renew_range.ensures.tables ∙ ap (λ s. s.tables) c.deref_mut.ensures.value; shapes = c.renew_range.ensures.shapes ∙ ap (λ s. s.shapes) c.deref_mut.ensures.value; cells = rw c.deref_mut.ensures.value at c.renew_range.ensures.cells } in
    let w = renumbered _ _ _ _ _ _ _ c.renew_range.new.ranges _ _ _ c.args.slot c.args.number (view-on _ _ g _ _ _ _ _ _ _ c.self.view_is) (matcher-on _ _ g _ _ _ _ _ _ _ _ c.self.invariant.0) c.requires.placed below (c.renew_range.ensures.length ∙ ap length c.deref_mut-2.ensures.value)
    (λ l r a b. rw c.deref-2.ensures.value at (c.renew_range.ensures.range l r (ap (λ x. slice_get x 0) c.deref.ensures.value ∙ a) b)) in
    rw ranges (w.0, room-kept _ _ _ _ _ _ _ _ _ _ (c.renew_range.ensures.tables ∙ ap (λ s. s.tables) c.deref_mut.ensures.value) (c.renew_range.ensures.length ∙ ap length c.deref_mut-2.ensures.value) refl c.self.invariant.1)

pub returns : goal.returns
returns c =
    let below = slot-below _ _ _ _ _ _ _ _ _ _ c.args.slot c.self.view_is c.self.invariant.0 c.requires.bound in
    let g : IsGrown c.self.inside.stock.value c.renew_range.new.stock = record { tables = c.renew_range.ensures.tables ∙ ap (λ s. s.tables) c.deref_mut.ensures.value; shapes = c.renew_range.ensures.shapes ∙ ap (λ s. s.shapes) c.deref_mut.ensures.value; cells = rw c.deref_mut.ensures.value at c.renew_range.ensures.cells } in
    let w = renumbered _ _ _ _ _ _ _ c.renew_range.new.ranges _ _ _ c.args.slot c.args.number (view-on _ _ g _ _ _ _ _ _ _ c.self.view_is) (matcher-on _ _ g _ _ _ _ _ _ _ _ c.self.invariant.0) c.requires.placed below (c.renew_range.ensures.length ∙ ap length c.deref_mut-2.ensures.value)
    (λ l r a b. rw c.deref-2.ensures.value at (c.renew_range.ensures.range l r (ap (λ x. slice_get x 0) c.deref.ensures.value ∙ a) b)) in
    w.1
