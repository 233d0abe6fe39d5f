use Rattle.std.proofs.Common.{rules, ◌+◌, ◌<◌, ◌^◌, ap, arith}
use Rattle.eir_hom.proofs.TableLaws.{fits, rows-at, within-at}
use Rattle.eir_hom.proofs.tables.Tables.range.Goals as goal

pub overflow_add-layout : goal.overflow_add-layout
overflow_add-layout c =
    let i = c.self.inside in
    let f = fits i.cells.items i.ranges.items i.layouts.items c.args.self.now (ap (λ x. x.cells) c.self.view_is) (ap (λ x. x.tables) c.self.view_is) c.self.invariant c.args.table c.index-layout.result.now c.requires c.index-layout.ensures in
    let n : c.index-layout.result.now.first + c.args.key < 2 ^ 64 = omega (arith, i.ranges.ok.0) in
    search rules

pub index-requires : goal.index-requires
index-requires c =
    let i = c.self.inside in
    let f = fits i.cells.items i.ranges.items i.layouts.items c.args.self.now (ap (λ x. x.cells) c.self.view_is) (ap (λ x. x.tables) c.self.view_is) c.self.invariant c.args.table c.index-layout.result.now c.requires c.index-layout.ensures in
    omega (arith, i.ranges.ok.0)

pub returns-then-key-layout-clause-rows : goal.returns-then-key-layout-clause-rows
returns-then-key-layout-clause-rows c =
    let i = c.self.inside in
    rows-at i.cells.items i.ranges.items i.layouts.items c.args.self.now (ap (λ x. x.cells) c.self.view_is) (ap (λ x. x.tables) c.self.view_is) c.self.invariant c.args.table c.index-layout.result.now c.requires c.index-layout.ensures c.args.key c.index.result.now c.if-key-layout.true c.index.ensures

pub returns-then-key-layout-clause-within : goal.returns-then-key-layout-clause-within
returns-then-key-layout-clause-within c =
    let i = c.self.inside in
    within-at i.cells.items i.ranges.items i.layouts.items c.args.self.now (ap (λ x. x.cells) c.self.view_is) (ap (λ x. x.tables) c.self.view_is) c.self.invariant c.args.table c.index-layout.result.now c.requires c.index-layout.ensures c.args.key c.index.result.now c.if-key-layout.true c.index.ensures
