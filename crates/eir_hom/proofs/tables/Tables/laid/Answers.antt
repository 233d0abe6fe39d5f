use Rattle.std.proofs.Common.{rules, ◌≡◌, ◌+◌, ◌<◌, ◌^◌, Option, Some, None, IfSome, length, option_map, ap, arith}
use Rattle.std.proofs.lemmas.List.{length-map}
use Rattle.eir_hom.specs.Layouts.{table_of}
use Rattle.eir_hom.proofs.TableLaws.{fits, rows-at, within-at}
use Rattle.eir_hom.proofs.tables.Tables.laid.Goals as goal

-- what is read through an option holds of what is there
if-there : {X Y : Type 0} (f : X → Y) (o : Option X) (e : Option Y) → option_map f o ≡ e → IfSome o (λ x. Some (f x) ≡ e)
if-there f None e h = tt
if-there f (Some x) e h = h

pub overflow_add-layout : goal.overflow_add-layout
overflow_add-layout c =
    let i = c.self.inside in
    let seen = ap (λ x. x.tables) c.self.view_is in
    let below : c.args.table < length c.args.self.now.tables = omega (arith, ap length seen, length-map i.layouts.items (table_of i.cells.items i.ranges.items), c.len.ensures, c.if-table-len.true) in
    let f = fits i.cells.items i.ranges.items i.layouts.items c.args.self.now (ap (λ x. x.cells) c.self.view_is) seen c.self.invariant c.args.table c.index-layout.result.now below c.index-layout.ensures in
    let n : c.index-layout.result.now.first + c.args.key < 2 ^ 64 = omega (arith, i.ranges.ok.0) in
    search rules

pub index-requires : goal.index-requires
index-requires c =
    let i = c.self.inside in
    let seen = ap (λ x. x.tables) c.self.view_is in
    let below : c.args.table < length c.args.self.now.tables = omega (arith, ap length seen, length-map i.layouts.items (table_of i.cells.items i.ranges.items), c.len.ensures, c.if-table-len.true) in
    let f = fits i.cells.items i.ranges.items i.layouts.items c.args.self.now (ap (λ x. x.cells) c.self.view_is) seen c.self.invariant c.args.table c.index-layout.result.now below c.index-layout.ensures in
    omega (arith, i.ranges.ok.0)

pub returns-then-key-layout-clause-rows : goal.returns-then-key-layout-clause-rows
returns-then-key-layout-clause-rows c =
    let i = c.self.inside in
    let seen = ap (λ x. x.tables) c.self.view_is in
    let below : c.args.table < length c.args.self.now.tables = omega (arith, ap length seen, length-map i.layouts.items (table_of i.cells.items i.ranges.items), c.len.ensures, c.if-table-len.true) in
    if-there _ c.index.result.now _ (rows-at i.cells.items i.ranges.items i.layouts.items c.args.self.now (ap (λ x. x.cells) c.self.view_is) seen c.self.invariant c.args.table c.index-layout.result.now below c.index-layout.ensures c.args.key c.index.result.now c.if-key-layout.true c.index.ensures)

pub returns-then-key-layout-clause-within : goal.returns-then-key-layout-clause-within
returns-then-key-layout-clause-within c =
    let i = c.self.inside in
    let seen = ap (λ x. x.tables) c.self.view_is in
    let below : c.args.table < length c.args.self.now.tables = omega (arith, ap length seen, length-map i.layouts.items (table_of i.cells.items i.ranges.items), c.len.ensures, c.if-table-len.true) in
    within-at i.cells.items i.ranges.items i.layouts.items c.args.self.now (ap (λ x. x.cells) c.self.view_is) seen c.self.invariant c.args.table c.index-layout.result.now below c.index-layout.ensures c.args.key c.index.result.now c.if-key-layout.true c.index.ensures
