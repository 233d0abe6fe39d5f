use Rattle.std.proofs.Common.{◌≡◌, ◌<◌, ℕ, ◌+◌, ◌++◌, ◌∷◌, [], List, false, map, get_or, slice_get, ◌-◌, take, length, arith, ap, ap₂, ◌∙◌, sym, length-append}
use Rattle.std.proofs.lemmas.Bool.{false≢true}
use Rattle.std.proofs.lemmas.List.{with_items_is, length-map, length_push}
use borrow.Rule.Slice.PartMut.{post_of}
use Rattle.eir_hom.specs.declared.matching.CompiledLevel.{CompiledLevel}
use Rattle.eir_hom.specs.Levels.{but_at}
use Rattle.eir_hom.specs.Matching.{Match}
use Rattle.eir_hom.specs.Tables.{table_at}
use Rattle.eir_hom.specs.Columns.{unmarked, slots_of, is_among, AreColumns}
use Rattle.eir_hom.proofs.LevelLaws.{appended-part, slots-unmarked, pushing, pushed, marked-length, marked-part, columns-fit, room-next}
use Rattle.eir_hom.proofs.ScanLaws.{compiled-at}
use Rattle.eir_hom.proofs.GrownLaws.{IsGrown, view-on, matcher-on}
use Rattle.eir_hom.proofs.matching.Matcher.push_level.Goals as goal

pub unreachable-requires : goal.unreachable-requires
unreachable-requires c =
    let ss = but_at c.args.column c.args.numbers.now in
    let n = c.len-level.result in
    let room = c.self.invariant.1 in
    let tables : c.self.inside.stock.value.tables ≡ c.args.self.now.tables = ap (λ (m : Match). m.tables) c.self.view_is in
    let count : length c.args.self.now.levels ≡ length c.self.inside.levels.items = sym (ap (λ (m : Match). length m.levels) c.self.view_is) ∙ length-map c.self.inside.levels.items _ in
    false≢true (c.in_default.ensures.room (columns-fit _ _ _ _ _ _ _ _ _ _ c.self.invariant.1 tables count c.requires.table c.requires.stride))

pub unreachable-requires-in_default-push : goal.unreachable-requires-in_default-push
unreachable-requires-in_default-push c =
    let ss = but_at c.args.column c.args.numbers.now in
    let n = c.len-level.result in
    let room = c.self.invariant.1 in
    let tables : c.self.inside.stock.value.tables ≡ c.args.self.now.tables = ap (λ (m : Match). m.tables) c.self.view_is in
    let count : length c.args.self.now.levels ≡ length c.self.inside.levels.items = sym (ap (λ (m : Match). length m.levels) c.self.view_is) ∙ length-map c.self.inside.levels.items _ in
    omega (arith, room.levels_room, ap length tables, count, c.requires.table, c.in_default-push.ensures.full, c.self.inside.levels.ok.0)

pub mark_new-requires : goal.mark_new-requires
mark_new-requires c =
    let columns : c.append_row.new.columns.items ≡ c.self.inside.columns.items ++ map unmarked (but_at c.args.column c.args.numbers.now) = c.in-Ok.ensures.items in
    let first : c.len-first_column.result ≡ length c.self.inside.columns.items = omega arith in
    let part = appended-part _ _ (but_at c.args.column c.args.numbers.now) c.len-first_column.result (c.deref_mut.ensures.value ∙ columns) first in
    let long : length c.self.inside.is_bound.items ≡ c.args.self.now.slots = c.self.invariant.0.flags_room ∙ ap (λ (m : Match). m.slots) c.self.view_is in
    rw (part, slots-unmarked (but_at c.args.column c.args.numbers.now), c.deref_mut-2.ensures.value, long) c.requires.slots

pub set_range-requires-clause-room : goal.set_range-requires-clause-room
set_range-requires-clause-room c =
    let ss = but_at c.args.column c.args.numbers.now in
    let n = c.len-level.result in
    let room = c.self.invariant.1 in
    let tables : c.self.inside.stock.value.tables ≡ c.args.self.now.tables = ap (λ (m : Match). m.tables) c.self.view_is in
    let count : length c.args.self.now.levels ≡ length c.self.inside.levels.items = sym (ap (λ (m : Match). length m.levels) c.self.view_is) ∙ length-map c.self.inside.levels.items _ in
    let columns : c.append_row.new.columns.items ≡ c.self.inside.columns.items ++ map unmarked (but_at c.args.column c.args.numbers.now) = c.in-Ok.ensures.items in
    let first : c.len-first_column.result ≡ length c.self.inside.columns.items = omega arith in
    let part = appended-part _ _ (but_at c.args.column c.args.numbers.now) c.len-first_column.result (c.deref_mut.ensures.value ∙ columns) first in
    let level : c.len-level.result ≡ length c.self.inside.levels.items = omega arith in
    let slots = c.mark_new.ensures.slots ∙ ap slots_of part ∙ slots-unmarked (but_at c.args.column c.args.numbers.now) in
    let flags : (seen : List ℕ) → ((s : ℕ) → get_or c.self.inside.is_bound.items s false ≡ is_among s seen) → AreColumns seen c.mark_new.new.columns = rw c.deref_mut-2.ensures.value at c.mark_new.ensures.columns in
    let levels : c.push.new.self.items ≡ c.self.inside.levels.items ++ (record { key = c.args.key; table = c.len-level.result; first_column = c.len-first_column.result; stride = length (but_at c.args.column c.args.numbers.now) }) ∷ [] =
    c.in-Ok-push.ensures.items ∙ ap (λ (k : ℕ). let l : CompiledLevel = record { key = c.args.key; table = c.len-level.result; first_column = c.len-first_column.result; stride = k } in c.self.inside.levels.items ++ l ∷ []) c.stride_of-stride.ensures in
    let table : c.len-level.result < length c.args.self.now.tables = omega (arith, level, count, c.requires.table) in
    let stride : (table_at c.args.self.now.tables c.len-level.result).stride ≡ length (but_at c.args.column c.args.numbers.now) = ap (λ k. (table_at c.args.self.now.tables k).stride) (level ∙ sym count) ∙ c.requires.stride in
    omega (arith, ap length (c.deref.ensures.value ∙ levels), length_push c.self.inside.levels.items (record { key = c.args.key; table = c.len-level.result; first_column = c.len-first_column.result; stride = length (but_at c.args.column c.args.numbers.now) }), room.ranges_room, ap length tables, count, c.requires.table, ap length c.deref_mut-4.ensures.value)

pub set_range-requires-clause-parts : goal.set_range-requires-clause-parts
set_range-requires-clause-parts c =
    let ss = but_at c.args.column c.args.numbers.now in
    let n = c.len-level.result in
    let room = c.self.invariant.1 in
    let tables : c.self.inside.stock.value.tables ≡ c.args.self.now.tables = ap (λ (m : Match). m.tables) c.self.view_is in
    let count : length c.args.self.now.levels ≡ length c.self.inside.levels.items = sym (ap (λ (m : Match). length m.levels) c.self.view_is) ∙ length-map c.self.inside.levels.items _ in
    let columns : c.append_row.new.columns.items ≡ c.self.inside.columns.items ++ map unmarked (but_at c.args.column c.args.numbers.now) = c.in-Ok.ensures.items in
    let first : c.len-first_column.result ≡ length c.self.inside.columns.items = omega arith in
    let part = appended-part _ _ (but_at c.args.column c.args.numbers.now) c.len-first_column.result (c.deref_mut.ensures.value ∙ columns) first in
    let level : c.len-level.result ≡ length c.self.inside.levels.items = omega arith in
    let slots = c.mark_new.ensures.slots ∙ ap slots_of part ∙ slots-unmarked (but_at c.args.column c.args.numbers.now) in
    let flags : (seen : List ℕ) → ((s : ℕ) → get_or c.self.inside.is_bound.items s false ≡ is_among s seen) → AreColumns seen c.mark_new.new.columns = rw c.deref_mut-2.ensures.value at c.mark_new.ensures.columns in
    let levels : c.push.new.self.items ≡ c.self.inside.levels.items ++ (record { key = c.args.key; table = c.len-level.result; first_column = c.len-first_column.result; stride = length (but_at c.args.column c.args.numbers.now) }) ∷ [] =
    c.in-Ok-push.ensures.items ∙ ap (λ (k : ℕ). let l : CompiledLevel = record { key = c.args.key; table = c.len-level.result; first_column = c.len-first_column.result; stride = k } in c.self.inside.levels.items ++ l ∷ []) c.stride_of-stride.ensures in
    let table : c.len-level.result < length c.args.self.now.tables = omega (arith, level, count, c.requires.table) in
    let stride : (table_at c.args.self.now.tables c.len-level.result).stride ≡ length (but_at c.args.column c.args.numbers.now) = ap (λ k. (table_at c.args.self.now.tables k).stride) (level ∙ sym count) ∙ c.requires.stride in
    let q = pushing _ _ c.mark_new.new.columns _ _ _ _ _ _ _ _ c.args.key c.len-level.result c.len-first_column.result (but_at c.args.column c.args.numbers.now) c.self.view_is c.self.invariant.0 c.requires.placed c.requires.key c.requires.slots table stride first slots flags in
    λ l at.
    (let k = compiled-at _ _ _ _ _ _ l q.compiled (ap (λ x. slice_get x c.len-level.result) (sym (c.deref.ensures.value ∙ levels)) ∙ at) in
    (rw c.deref_mut-3.ensures.value k.1.table, rw c.deref-2.ensures.value k.1.key_below))

pub invariant_of-self : goal.invariant_of-self
invariant_of-self c =
    let ss = but_at c.args.column c.args.numbers.now in
    let n = c.len-level.result in
    let room = c.self.invariant.1 in
    let tables : c.self.inside.stock.value.tables ≡ c.args.self.now.tables = ap (λ (m : Match). m.tables) c.self.view_is in
    let count : length c.args.self.now.levels ≡ length c.self.inside.levels.items = sym (ap (λ (m : Match). length m.levels) c.self.view_is) ∙ length-map c.self.inside.levels.items _ in
    let columns : c.append_row.new.columns.items ≡ c.self.inside.columns.items ++ map unmarked (but_at c.args.column c.args.numbers.now) = c.in-Ok.ensures.items in
    let first : c.len-first_column.result ≡ length c.self.inside.columns.items = omega arith in
    let part = appended-part _ _ (but_at c.args.column c.args.numbers.now) c.len-first_column.result (c.deref_mut.ensures.value ∙ columns) first in
    let level : c.len-level.result ≡ length c.self.inside.levels.items = omega arith in
    let slots = c.mark_new.ensures.slots ∙ ap slots_of part ∙ slots-unmarked (but_at c.args.column c.args.numbers.now) in
    let flags : (seen : List ℕ) → ((s : ℕ) → get_or c.self.inside.is_bound.items s false ≡ is_among s seen) → AreColumns seen c.mark_new.new.columns = rw c.deref_mut-2.ensures.value at c.mark_new.ensures.columns in
    let levels : c.push.new.self.items ≡ c.self.inside.levels.items ++ (record { key = c.args.key; table = c.len-level.result; first_column = c.len-first_column.result; stride = length (but_at c.args.column c.args.numbers.now) }) ∷ [] =
    c.in-Ok-push.ensures.items ∙ ap (λ (k : ℕ). let l : CompiledLevel = record { key = c.args.key; table = c.len-level.result; first_column = c.len-first_column.result; stride = k } in c.self.inside.levels.items ++ l ∷ []) c.stride_of-stride.ensures in
    let table : c.len-level.result < length c.args.self.now.tables = omega (arith, level, count, c.requires.table) in
    let stride : (table_at c.args.self.now.tables c.len-level.result).stride ≡ length (but_at c.args.column c.args.numbers.now) = ap (λ k. (table_at c.args.self.now.tables k).stride) (level ∙ sym count) ∙ c.requires.stride in
    let g : IsGrown c.self.inside.stock.value c.set_range.new.stock = record { tables = c.set_range.ensures.tables ∙ ap (λ s. s.tables) c.deref_mut-3.ensures.value; shapes = c.set_range.ensures.shapes ∙ ap (λ s. s.shapes) c.deref_mut-3.ensures.value; cells = rw c.deref_mut-3.ensures.value at c.set_range.ensures.cells } in
    let v = view-on _ _ g _ _ _ _ _ _ _ c.self.view_is in
    let p = matcher-on _ _ g _ _ _ _ _ _ _ _ c.self.invariant.0 in
    let q = pushing _ _ c.mark_new.new.columns _ _ _ _ _ _ _ _ c.args.key c.len-level.result c.len-first_column.result (but_at c.args.column c.args.numbers.now) v p c.requires.placed c.requires.key c.requires.slots table stride first slots flags in
    let bound = rw (part, slots-unmarked (but_at c.args.column c.args.numbers.now), c.deref_mut-2.ensures.value) at c.mark_new.ensures.bound in
    let w = pushed _ _ c.mark_new.new.columns _ _ _ _ c.mark_new.new.is_bound c.self.inside.ranges.items c.set_range.new.ranges _ _ _ c.args.key c.len-level.result c.len-first_column.result (but_at c.args.column c.args.numbers.now) v p q
    (c.mark_new.ensures.length ∙ ap length c.deref_mut-2.ensures.value) bound (omega (arith, room.ranges_room, table, level, ap length tables, c.set_range.ensures.length, ap length c.deref_mut-4.ensures.value)) (omega (arith, room.placed_room, table, level, ap length tables))
    (λ k ne. c.set_range.ensures.others k (λ e. ne (e ∙ level)) ∙ ap (λ x. slice_get x k) c.deref_mut-4.ensures.value)
    (λ l r a b. rw c.deref-2.ensures.value at (c.set_range.ensures.range l r (ap₂ slice_get (c.deref.ensures.value ∙ levels) level ∙ a) (ap (slice_get c.set_range.new.ranges) level ∙ b))) in
    let all = with_items_is c.append_row.new.columns
    (take c.len-first_column.result c.deref_mut.result.now ++ (c.mark_new.new.columns ++ post_of c.len-first_column.result (length c.deref_mut.result.now - c.len-first_column.result) c.deref_mut.result.now))
    (marked-length _ _ c.mark_new.new.columns (but_at c.args.column c.args.numbers.now) c.len-first_column.result (c.deref_mut.ensures.value ∙ columns) first slots ∙ c.deref_mut.ensures.len)
    ∙ marked-part _ _ c.mark_new.new.columns (but_at c.args.column c.args.numbers.now) c.len-first_column.result (c.deref_mut.ensures.value ∙ columns) first in
    let is_bound = with_items_is c.self.inside.is_bound c.mark_new.new.is_bound (c.mark_new.ensures.length ∙ c.deref_mut-2.ensures.len) in
    let ranges = with_items_is c.self.inside.ranges c.set_range.new.ranges (c.set_range.ensures.length ∙ c.deref_mut-4.ensures.len) in
    let more : length (c.self.inside.columns.items ++ c.mark_new.new.columns) ≡ length c.self.inside.columns.items + length (but_at c.args.column c.args.numbers.now) =
    length-append c.self.inside.columns.items c.mark_new.new.columns ∙ ap (λ k. length c.self.inside.columns.items + k) (sym (length-map c.mark_new.new.columns _) ∙ ap length slots) in
    rw (all, levels, is_bound, ranges)
    (w.holds, room-next _ _ _ _ _ _ _ _ _ _ _ _ _ _ _ c.self.invariant.1 g.tables tables count c.requires.table c.requires.stride (length_push c.self.inside.levels.items (record { key = c.args.key; table = c.len-level.result; first_column = c.len-first_column.result; stride = length (but_at c.args.column c.args.numbers.now) })) more c.append_row.ensures.capacity (c.set_range.ensures.length ∙ ap length c.deref_mut-4.ensures.value) _ c.push.ensures.capacity)

pub returns : goal.returns
returns c =
    let ss = but_at c.args.column c.args.numbers.now in
    let n = c.len-level.result in
    let room = c.self.invariant.1 in
    let tables : c.self.inside.stock.value.tables ≡ c.args.self.now.tables = ap (λ (m : Match). m.tables) c.self.view_is in
    let count : length c.args.self.now.levels ≡ length c.self.inside.levels.items = sym (ap (λ (m : Match). length m.levels) c.self.view_is) ∙ length-map c.self.inside.levels.items _ in
    let columns : c.append_row.new.columns.items ≡ c.self.inside.columns.items ++ map unmarked (but_at c.args.column c.args.numbers.now) = c.in-Ok.ensures.items in
    let first : c.len-first_column.result ≡ length c.self.inside.columns.items = omega arith in
    let part = appended-part _ _ (but_at c.args.column c.args.numbers.now) c.len-first_column.result (c.deref_mut.ensures.value ∙ columns) first in
    let level : c.len-level.result ≡ length c.self.inside.levels.items = omega arith in
    let slots = c.mark_new.ensures.slots ∙ ap slots_of part ∙ slots-unmarked (but_at c.args.column c.args.numbers.now) in
    let flags : (seen : List ℕ) → ((s : ℕ) → get_or c.self.inside.is_bound.items s false ≡ is_among s seen) → AreColumns seen c.mark_new.new.columns = rw c.deref_mut-2.ensures.value at c.mark_new.ensures.columns in
    let levels : c.push.new.self.items ≡ c.self.inside.levels.items ++ (record { key = c.args.key; table = c.len-level.result; first_column = c.len-first_column.result; stride = length (but_at c.args.column c.args.numbers.now) }) ∷ [] =
    c.in-Ok-push.ensures.items ∙ ap (λ (k : ℕ). let l : CompiledLevel = record { key = c.args.key; table = c.len-level.result; first_column = c.len-first_column.result; stride = k } in c.self.inside.levels.items ++ l ∷ []) c.stride_of-stride.ensures in
    let table : c.len-level.result < length c.args.self.now.tables = omega (arith, level, count, c.requires.table) in
    let stride : (table_at c.args.self.now.tables c.len-level.result).stride ≡ length (but_at c.args.column c.args.numbers.now) = ap (λ k. (table_at c.args.self.now.tables k).stride) (level ∙ sym count) ∙ c.requires.stride in
    let g : IsGrown c.self.inside.stock.value c.set_range.new.stock = record { tables = c.set_range.ensures.tables ∙ ap (λ s. s.tables) c.deref_mut-3.ensures.value; shapes = c.set_range.ensures.shapes ∙ ap (λ s. s.shapes) c.deref_mut-3.ensures.value; cells = rw c.deref_mut-3.ensures.value at c.set_range.ensures.cells } in
    let v = view-on _ _ g _ _ _ _ _ _ _ c.self.view_is in
    let p = matcher-on _ _ g _ _ _ _ _ _ _ _ c.self.invariant.0 in
    let q = pushing _ _ c.mark_new.new.columns _ _ _ _ _ _ _ _ c.args.key c.len-level.result c.len-first_column.result (but_at c.args.column c.args.numbers.now) v p c.requires.placed c.requires.key c.requires.slots table stride first slots flags in
    let bound = rw (part, slots-unmarked (but_at c.args.column c.args.numbers.now), c.deref_mut-2.ensures.value) at c.mark_new.ensures.bound in
    let w = pushed _ _ c.mark_new.new.columns _ _ _ _ c.mark_new.new.is_bound c.self.inside.ranges.items c.set_range.new.ranges _ _ _ c.args.key c.len-level.result c.len-first_column.result (but_at c.args.column c.args.numbers.now) v p q
    (c.mark_new.ensures.length ∙ ap length c.deref_mut-2.ensures.value) bound (omega (arith, room.ranges_room, table, level, ap length tables, c.set_range.ensures.length, ap length c.deref_mut-4.ensures.value)) (omega (arith, room.placed_room, table, level, ap length tables))
    (λ k ne. c.set_range.ensures.others k (λ e. ne (e ∙ level)) ∙ ap (λ x. slice_get x k) c.deref_mut-4.ensures.value)
    (λ l r a b. rw c.deref-2.ensures.value at (c.set_range.ensures.range l r (ap₂ slice_get (c.deref.ensures.value ∙ levels) level ∙ a) (ap (slice_get c.set_range.new.ranges) level ∙ b))) in
    let all = with_items_is c.append_row.new.columns
    (take c.len-first_column.result c.deref_mut.result.now ++ (c.mark_new.new.columns ++ post_of c.len-first_column.result (length c.deref_mut.result.now - c.len-first_column.result) c.deref_mut.result.now))
    (marked-length _ _ c.mark_new.new.columns (but_at c.args.column c.args.numbers.now) c.len-first_column.result (c.deref_mut.ensures.value ∙ columns) first slots ∙ c.deref_mut.ensures.len)
    ∙ marked-part _ _ c.mark_new.new.columns (but_at c.args.column c.args.numbers.now) c.len-first_column.result (c.deref_mut.ensures.value ∙ columns) first in
    rw (all, levels) (w.view ∙ ap (λ k. let m : Match = record c.args.self.now { levels = c.args.self.now.levels ++ (record { key = c.args.key; slots = but_at c.args.column c.args.numbers.now; rows = (table_at c.args.self.now.tables k).rows }) ∷ [] } in m) (level ∙ sym count))
