use Rattle.std.proofs.Common.{rules, ◌≡◌, ◌+◌, ◌≤◌, ◌++◌, ◌∷◌, [], is_some, slice_get, length, ap, sym, ◌∙◌, arith}
use Rattle.std.proofs.lemmas.List.{with_items_is, length-set}
use Rattle.eir_hom.specs.Matching.{matched}
use Rattle.eir_hom.proofs.MatcherLaws.{stayed}
use Rattle.eir_hom.proofs.ScanLaws.{stage, fit, compiled-at, space-kept, base-kept, part-is, scan-now, went-now}
use Rattle.eir_hom.proofs.LevelLaws.{room-kept}
use Rattle.eir_hom.proofs.GrownLaws.{IsGrown, view-on, matcher-on, gone-on}
use Rattle.eir_hom.proofs.matching.MatcherProblem.scan.Goals as goal

pub overflow_add-columns : goal.overflow_add-columns
overflow_add-columns c =
    let s = stage _ _ _ _ _ _ _ _ _ _ _ _ _ _ c.self.view_is c.self.invariant.0 c.requires.below c.requires.level c.requires.to c.index.ensures c.index-2.ensures in
    let f = fit _ _ _ _ _ _ _ _ _ _ _ _ _ c.self.invariant.0 s in
    let long : length c.deref.result.now ≡ length c.self.inside.columns.items = ap length c.deref.ensures.value in
    let within : c.index.result.now.first_column + c.index.result.now.stride ≤ length c.deref.result.now = omega (arith, f.columns) in
    search rules

pub offset_bounds-deref-first_column : goal.offset_bounds-deref-first_column
offset_bounds-deref-first_column c =
    let s = stage _ _ _ _ _ _ _ _ _ _ _ _ _ _ c.self.view_is c.self.invariant.0 c.requires.below c.requires.level c.requires.to c.index.ensures c.index-2.ensures in
    let f = fit _ _ _ _ _ _ _ _ _ _ _ _ _ c.self.invariant.0 s in
    let long : length c.deref.result.now ≡ length c.self.inside.columns.items = ap length c.deref.ensures.value in
    let within : c.index.result.now.first_column ≤ length c.deref.result.now = omega (arith, f.columns) in
    search rules

pub slice_bounds-columns-end : goal.slice_bounds-columns-end
slice_bounds-columns-end c =
    let s = stage _ _ _ _ _ _ _ _ _ _ _ _ _ _ c.self.view_is c.self.invariant.0 c.requires.below c.requires.level c.requires.to c.index.ensures c.index-2.ensures in
    let f = fit _ _ _ _ _ _ _ _ _ _ _ _ _ c.self.invariant.0 s in
    let long : length c.deref.result.now ≡ length c.self.inside.columns.items = ap length c.deref.ensures.value in
    let within : c.index.result.now.first_column + c.index.result.now.stride ≤ length c.deref.result.now = omega (arith, f.columns) in
    search rules

pub scan_rows-found-requires-clause-cells : goal.scan_rows-found-requires-clause-cells
scan_rows-found-requires-clause-cells c =
    let s = stage _ _ _ _ _ _ _ _ _ _ _ _ _ _ c.self.view_is c.self.invariant.0 c.requires.below c.requires.level c.requires.to c.index.ensures c.index-2.ensures in
    let f = fit _ _ _ _ _ _ _ _ _ _ _ _ _ c.self.invariant.0 s in
    let part = part-is _ _ c.index.result.now c.deref.ensures.value in
    rw (part, c.cells.ensures, c.deref-2.ensures) f.cells

pub scan_rows-found-requires-clause-slots : goal.scan_rows-found-requires-clause-slots
scan_rows-found-requires-clause-slots c =
    let s = stage _ _ _ _ _ _ _ _ _ _ _ _ _ _ c.self.view_is c.self.invariant.0 c.requires.below c.requires.level c.requires.to c.index.ensures c.index-2.ensures in
    let f = fit _ _ _ _ _ _ _ _ _ _ _ _ _ c.self.invariant.0 s in
    let part = part-is _ _ c.index.result.now c.deref.ensures.value in
    rw (part, c.deref_mut.ensures.value) f.slots

pub set_range-requires-clause-parts : goal.set_range-requires-clause-parts
set_range-requires-clause-parts c =
    let long : length c.scan_rows-found.new.images ≡ length c.self.inside.images.items = c.scan_rows-found.ensures.length ∙ ap length c.deref_mut.ensures.value in
    let images = with_items_is c.self.inside.images c.scan_rows-found.new.images (c.scan_rows-found.ensures.length ∙ c.deref_mut.ensures.len) in
    λ l at.
    (let k = compiled-at _ _ _ _ _ _ l c.self.invariant.0.compiled (ap (λ x. slice_get x (c.args.level + 1)) (sym c.deref-then-found-to.ensures.value) ∙ at) in
    (rw c.deref_mut-then-found-to.ensures.value k.1.table, rw (c.deref-then-found-to-2.ensures.value, images, long) k.1.key_below))

pub invariant_of-self : goal.invariant_of-self
invariant_of-self c =
    let s = stage _ _ _ _ _ _ _ _ _ _ _ _ _ _ c.self.view_is c.self.invariant.0 c.requires.below c.requires.level c.requires.to c.index.ensures c.index-2.ensures in
    let long : length c.scan_rows-found.new.images ≡ length c.self.inside.images.items = c.scan_rows-found.ensures.length ∙ ap length c.deref_mut.ensures.value in
    let images = with_items_is c.self.inside.images c.scan_rows-found.new.images (c.scan_rows-found.ensures.length ∙ c.deref_mut.ensures.len) in
    let q = scan-now _ _ _ _ _ _ _ _ _ _ _ _ _ _ _ _ _ _ _ c.self.invariant.0 s c.deref.ensures.value (c.cells.ensures ∙ ap (λ s. s.cells) c.deref-2.ensures) c.deref_mut.ensures.value c.scan_rows-found.ensures.to c.scan_rows-found.ensures.scanned in
    let ranges = with_items_is c.self.inside.ranges c.set_range.new.ranges (c.set_range.ensures.length ∙ c.deref_mut-then-found-to-2.ensures.len) in
    let g : IsGrown c.self.inside.stock.value c.set_range.new.stock = record { tables = c.set_range.ensures.tables ∙ ap (λ s. s.tables) c.deref_mut-then-found-to.ensures.value; shapes = c.set_range.ensures.shapes ∙ ap (λ s. s.shapes) c.deref_mut-then-found-to.ensures.value; cells = rw c.deref_mut-then-found-to.ensures.value at c.set_range.ensures.cells } in
    let p = matcher-on _ _ g _ _ _ _ _ _ _ _ c.self.invariant.0 in
    let w = went-now _ _ _ _ _ _ _ _ _ _ _ _ _ _ _ c.set_range.new.ranges p s (gone-on _ _ g _ _ _ _ _ _ _ _ (q.good c.if-found-to.true)) long (c.set_range.ensures.length ∙ ap length c.deref_mut-then-found-to-2.ensures.value)
    (λ j ne. c.set_range.ensures.others j ne ∙ ap (λ x. slice_get x j) c.deref_mut-then-found-to-2.ensures.value)
    (λ l' r' a b. rw (c.deref-then-found-to-2.ensures.value, images) at (c.set_range.ensures.range l' r' (ap (λ x. slice_get x (c.args.level + 1)) c.deref-then-found-to.ensures.value ∙ a) b)) in
    rw (images, ranges) (w.1, room-kept _ _ _ _ _ _ _ _ _ _ (c.set_range.ensures.tables ∙ ap (λ s. s.tables) c.deref_mut-then-found-to.ensures.value) (c.set_range.ensures.length ∙ ap length c.deref_mut-then-found-to-2.ensures.value) (length-set c.self.inside.placed.items c.args.level c.scan_rows-found.result) c.self.invariant.1)

pub invariant_of-self-else-found-to : goal.invariant_of-self-else-found-to
invariant_of-self-else-found-to c =
    let s = stage _ _ _ _ _ _ _ _ _ _ _ _ _ _ c.self.view_is c.self.invariant.0 c.requires.below c.requires.level c.requires.to c.index.ensures c.index-2.ensures in
    let long : length c.scan_rows-found.new.images ≡ length c.self.inside.images.items = c.scan_rows-found.ensures.length ∙ ap length c.deref_mut.ensures.value in
    let images = with_items_is c.self.inside.images c.scan_rows-found.new.images (c.scan_rows-found.ensures.length ∙ c.deref_mut.ensures.len) in
    let q = scan-now _ _ _ _ _ _ _ _ _ _ _ _ _ _ _ _ _ _ _ c.self.invariant.0 s c.deref.ensures.value (c.cells.ensures ∙ ap (λ s. s.cells) c.deref-2.ensures) c.deref_mut.ensures.value c.scan_rows-found.ensures.to c.scan_rows-found.ensures.scanned in
    let none : c.scan_rows-found.result ≡ c.args.to = omega (arith, c.scan_rows-found.ensures.to, c.if-found-to.false) in
    let w = stayed _ _ _ _ _ _ _ _ _ _ long c.self.invariant.0 (q.none none) in
    rw images (w.1, c.self.invariant.1)

pub returns-then-found-to-clause-space : goal.returns-then-found-to-clause-space
returns-then-found-to-clause-space c =
    let s = stage _ _ _ _ _ _ _ _ _ _ _ _ _ _ c.self.view_is c.self.invariant.0 c.requires.below c.requires.level c.requires.to c.index.ensures c.index-2.ensures in
    let long : length c.scan_rows-found.new.images ≡ length c.self.inside.images.items = c.scan_rows-found.ensures.length ∙ ap length c.deref_mut.ensures.value in
    let images = with_items_is c.self.inside.images c.scan_rows-found.new.images (c.scan_rows-found.ensures.length ∙ c.deref_mut.ensures.len) in
    let q = scan-now _ _ _ _ _ _ _ _ _ _ _ _ _ _ _ _ _ _ _ c.self.invariant.0 s c.deref.ensures.value (c.cells.ensures ∙ ap (λ s. s.cells) c.deref-2.ensures) c.deref_mut.ensures.value c.scan_rows-found.ensures.to c.scan_rows-found.ensures.scanned in
    let ranges = with_items_is c.self.inside.ranges c.set_range.new.ranges (c.set_range.ensures.length ∙ c.deref_mut-then-found-to-2.ensures.len) in
    let g : IsGrown c.self.inside.stock.value c.set_range.new.stock = record { tables = c.set_range.ensures.tables ∙ ap (λ s. s.tables) c.deref_mut-then-found-to.ensures.value; shapes = c.set_range.ensures.shapes ∙ ap (λ s. s.shapes) c.deref_mut-then-found-to.ensures.value; cells = rw c.deref_mut-then-found-to.ensures.value at c.set_range.ensures.cells } in
    let p = matcher-on _ _ g _ _ _ _ _ _ _ _ c.self.invariant.0 in
    let w = went-now _ _ _ _ _ _ _ _ _ _ _ _ _ _ _ c.set_range.new.ranges p s (gone-on _ _ g _ _ _ _ _ _ _ _ (q.good c.if-found-to.true)) long (c.set_range.ensures.length ∙ ap length c.deref_mut-then-found-to-2.ensures.value)
    (λ j ne. c.set_range.ensures.others j ne ∙ ap (λ x. slice_get x j) c.deref_mut-then-found-to-2.ensures.value)
    (λ l' r' a b. rw (c.deref-then-found-to-2.ensures.value, images) at (c.set_range.ensures.range l' r' (ap (λ x. slice_get x (c.args.level + 1)) c.deref-then-found-to.ensures.value ∙ a) b)) in
    rw images (space-kept c.set_range.new.stock _ _ _ _ _ _ _ _ (view-on _ _ g _ _ _ _ _ _ _ c.self.view_is) w.0)

pub returns-then-found-to-clause-base : goal.returns-then-found-to-clause-base
returns-then-found-to-clause-base c =
    let s = stage _ _ _ _ _ _ _ _ _ _ _ _ _ _ c.self.view_is c.self.invariant.0 c.requires.below c.requires.level c.requires.to c.index.ensures c.index-2.ensures in
    let long : length c.scan_rows-found.new.images ≡ length c.self.inside.images.items = c.scan_rows-found.ensures.length ∙ ap length c.deref_mut.ensures.value in
    let images = with_items_is c.self.inside.images c.scan_rows-found.new.images (c.scan_rows-found.ensures.length ∙ c.deref_mut.ensures.len) in
    let q = scan-now _ _ _ _ _ _ _ _ _ _ _ _ _ _ _ _ _ _ _ c.self.invariant.0 s c.deref.ensures.value (c.cells.ensures ∙ ap (λ s. s.cells) c.deref-2.ensures) c.deref_mut.ensures.value c.scan_rows-found.ensures.to c.scan_rows-found.ensures.scanned in
    let ranges = with_items_is c.self.inside.ranges c.set_range.new.ranges (c.set_range.ensures.length ∙ c.deref_mut-then-found-to-2.ensures.len) in
    let g : IsGrown c.self.inside.stock.value c.set_range.new.stock = record { tables = c.set_range.ensures.tables ∙ ap (λ s. s.tables) c.deref_mut-then-found-to.ensures.value; shapes = c.set_range.ensures.shapes ∙ ap (λ s. s.shapes) c.deref_mut-then-found-to.ensures.value; cells = rw c.deref_mut-then-found-to.ensures.value at c.set_range.ensures.cells } in
    let p = matcher-on _ _ g _ _ _ _ _ _ _ _ c.self.invariant.0 in
    let w = went-now _ _ _ _ _ _ _ _ _ _ _ _ _ _ _ c.set_range.new.ranges p s (gone-on _ _ g _ _ _ _ _ _ _ _ (q.good c.if-found-to.true)) long (c.set_range.ensures.length ∙ ap length c.deref_mut-then-found-to-2.ensures.value)
    (λ j ne. c.set_range.ensures.others j ne ∙ ap (λ x. slice_get x j) c.deref_mut-then-found-to-2.ensures.value)
    (λ l' r' a b. rw (c.deref-then-found-to-2.ensures.value, images) at (c.set_range.ensures.range l' r' (ap (λ x. slice_get x (c.args.level + 1)) c.deref-then-found-to.ensures.value ∙ a) b)) in
    rw images (base-kept c.set_range.new.stock _ _ _ _ _ _ _ _ (view-on _ _ g _ _ _ _ _ _ _ c.self.view_is) long w.0)

pub returns-then-found-to-clause-bad : goal.returns-then-found-to-clause-bad
returns-then-found-to-clause-bad c =
    let s = stage _ _ _ _ _ _ _ _ _ _ _ _ _ _ c.self.view_is c.self.invariant.0 c.requires.below c.requires.level c.requires.to c.index.ensures c.index-2.ensures in
    let q = scan-now _ _ _ _ _ _ _ _ _ _ _ _ _ _ _ _ _ _ _ c.self.invariant.0 s c.deref.ensures.value (c.cells.ensures ∙ ap (λ s. s.cells) c.deref-2.ensures) c.deref_mut.ensures.value c.scan_rows-found.ensures.to c.scan_rows-found.ensures.scanned in
    λ k f lt. ap (λ m. is_some (matched m.levels m.start (m.placed ++ k ∷ []))) (sym c.self.view_is) ∙ q.bad k f lt

pub returns-else-found-to-clause-space : goal.returns-else-found-to-clause-space
returns-else-found-to-clause-space c =
    let s = stage _ _ _ _ _ _ _ _ _ _ _ _ _ _ c.self.view_is c.self.invariant.0 c.requires.below c.requires.level c.requires.to c.index.ensures c.index-2.ensures in
    let long : length c.scan_rows-found.new.images ≡ length c.self.inside.images.items = c.scan_rows-found.ensures.length ∙ ap length c.deref_mut.ensures.value in
    let images = with_items_is c.self.inside.images c.scan_rows-found.new.images (c.scan_rows-found.ensures.length ∙ c.deref_mut.ensures.len) in
    let q = scan-now _ _ _ _ _ _ _ _ _ _ _ _ _ _ _ _ _ _ _ c.self.invariant.0 s c.deref.ensures.value (c.cells.ensures ∙ ap (λ s. s.cells) c.deref-2.ensures) c.deref_mut.ensures.value c.scan_rows-found.ensures.to c.scan_rows-found.ensures.scanned in
    let none : c.scan_rows-found.result ≡ c.args.to = omega (arith, c.scan_rows-found.ensures.to, c.if-found-to.false) in
    let w = stayed _ _ _ _ _ _ _ _ _ _ long c.self.invariant.0 (q.none none) in
    rw images (space-kept c.self.inside.stock.value _ _ _ _ _ _ _ _ c.self.view_is w.0)

pub returns-else-found-to-clause-base : goal.returns-else-found-to-clause-base
returns-else-found-to-clause-base c =
    let s = stage _ _ _ _ _ _ _ _ _ _ _ _ _ _ c.self.view_is c.self.invariant.0 c.requires.below c.requires.level c.requires.to c.index.ensures c.index-2.ensures in
    let long : length c.scan_rows-found.new.images ≡ length c.self.inside.images.items = c.scan_rows-found.ensures.length ∙ ap length c.deref_mut.ensures.value in
    let images = with_items_is c.self.inside.images c.scan_rows-found.new.images (c.scan_rows-found.ensures.length ∙ c.deref_mut.ensures.len) in
    let q = scan-now _ _ _ _ _ _ _ _ _ _ _ _ _ _ _ _ _ _ _ c.self.invariant.0 s c.deref.ensures.value (c.cells.ensures ∙ ap (λ s. s.cells) c.deref-2.ensures) c.deref_mut.ensures.value c.scan_rows-found.ensures.to c.scan_rows-found.ensures.scanned in
    let none : c.scan_rows-found.result ≡ c.args.to = omega (arith, c.scan_rows-found.ensures.to, c.if-found-to.false) in
    let w = stayed _ _ _ _ _ _ _ _ _ _ long c.self.invariant.0 (q.none none) in
    rw images (base-kept c.self.inside.stock.value _ _ _ _ _ _ _ _ c.self.view_is long w.0)

pub returns-else-found-to-clause-bad : goal.returns-else-found-to-clause-bad
returns-else-found-to-clause-bad c =
    let s = stage _ _ _ _ _ _ _ _ _ _ _ _ _ _ c.self.view_is c.self.invariant.0 c.requires.below c.requires.level c.requires.to c.index.ensures c.index-2.ensures in
    let q = scan-now _ _ _ _ _ _ _ _ _ _ _ _ _ _ _ _ _ _ _ c.self.invariant.0 s c.deref.ensures.value (c.cells.ensures ∙ ap (λ s. s.cells) c.deref-2.ensures) c.deref_mut.ensures.value c.scan_rows-found.ensures.to c.scan_rows-found.ensures.scanned in
    λ k f lt. ap (λ m. is_some (matched m.levels m.start (m.placed ++ k ∷ []))) (sym c.self.view_is) ∙ q.bad k f lt

pub returns-then-found-to-clause-good : goal.returns-then-found-to-clause-good
returns-then-found-to-clause-good c =
    let s = stage _ _ _ _ _ _ _ _ _ _ _ _ _ _ c.self.view_is c.self.invariant.0 c.requires.below c.requires.level c.requires.to c.index.ensures c.index-2.ensures in
    let q = scan-now _ _ _ _ _ _ _ _ _ _ _ _ _ _ _ _ _ _ _ c.self.invariant.0 s c.deref.ensures.value (c.cells.ensures ∙ ap (λ s. s.cells) c.deref-2.ensures) c.deref_mut.ensures.value c.scan_rows-found.ensures.to c.scan_rows-found.ensures.scanned in
    let g = q.good c.if-found-to.true in
    λ lt. ap (λ m. is_some (matched m.levels m.start (m.placed ++ c.scan_rows-found.result ∷ []))) (sym c.self.view_is) ∙ ap is_some g.matches
