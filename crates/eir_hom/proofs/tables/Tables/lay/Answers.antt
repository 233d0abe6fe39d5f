use Rattle.std.proofs.Common.{◌≡◌, length, refl, ap, arith}
use Rattle.std.proofs.lemmas.Bool.{false≢true}
use Rattle.eir_hom.specs.FactRows.{row_at}
use Rattle.eir_hom.proofs.TableLaws.{length-rows, key-laid, key-view, rows-laid, within-laid}
use Rattle.eir_hom.proofs.tables.Tables.lay.Goals as goal

pub push_rows-requires : goal.push_rows-requires
push_rows-requires c = λ p h. (c.requires.rows p h).0

pub unreachable-requires : goal.unreachable-requires
unreachable-requires c =
    let i = c.self.inside in
    let long = length-rows (row_at c.args.b.now.facts c.args.column) _ c.args.places.now (λ p h. (c.requires.rows p h).1) in
    false≢true (c.in_default.ensures.room (omega (arith, c.requires.cells_room, long, ap (λ v. v.cells_room) c.self.view_is, ap (λ v. length v.cells) c.self.view_is)))

pub invariant_of-self : goal.invariant_of-self
invariant_of-self c =
    let i = c.self.inside in
    let first : c.len.result ≡ length i.cells.items = omega (arith, i.cells.ok.0) in
    key-laid i.cells.items i.ranges.items i.layouts.items c.args.self.now (ap (λ x. x.cells) c.self.view_is) (ap (λ x. x.tables) c.self.view_is) c.self.invariant c.args.table c.index.result.now c.requires.table c.index.ensures c.args.key c.requires.key (row_at c.args.b.now.facts c.args.column) c.args.places.now (λ p h. (c.requires.rows p h).1) c.push_rows.new.cells.items c.in-Ok.ensures.cells (record { first = c.len.result; count = length c.args.places.now }) first refl

pub returns-clause-tables : goal.returns-clause-tables
returns-clause-tables c =
    let i = c.self.inside in
    let first : c.len.result ≡ length i.cells.items = omega (arith, i.cells.ok.0) in
    key-view i.cells.items i.ranges.items i.layouts.items c.args.self.now (ap (λ x. x.cells) c.self.view_is) (ap (λ x. x.tables) c.self.view_is) c.self.invariant c.args.table c.index.result.now c.requires.table c.index.ensures c.args.key c.requires.key (row_at c.args.b.now.facts c.args.column) c.args.places.now (λ p h. (c.requires.rows p h).1) c.push_rows.new.cells.items c.in-Ok.ensures.cells (record { first = c.len.result; count = length c.args.places.now }) first refl

pub returns-clause-rows : goal.returns-clause-rows
returns-clause-rows c =
    let i = c.self.inside in
    let first : c.len.result ≡ length i.cells.items = omega (arith, i.cells.ok.0) in
    rows-laid i.cells.items i.ranges.items i.layouts.items c.args.self.now (ap (λ x. x.cells) c.self.view_is) (ap (λ x. x.tables) c.self.view_is) c.self.invariant c.args.table c.index.result.now c.requires.table c.index.ensures c.args.key c.requires.key (row_at c.args.b.now.facts c.args.column) c.args.places.now (λ p h. (c.requires.rows p h).1) c.push_rows.new.cells.items c.in-Ok.ensures.cells (record { first = c.len.result; count = length c.args.places.now }) first refl

pub returns-clause-within : goal.returns-clause-within
returns-clause-within c =
    let i = c.self.inside in
    let first : c.len.result ≡ length i.cells.items = omega (arith, i.cells.ok.0) in
    within-laid i.cells.items i.ranges.items i.layouts.items c.args.self.now (ap (λ x. x.cells) c.self.view_is) (ap (λ x. x.tables) c.self.view_is) c.self.invariant c.args.table c.index.result.now c.requires.table c.index.ensures c.args.key c.requires.key (row_at c.args.b.now.facts c.args.column) c.args.places.now (λ p h. (c.requires.rows p h).1) c.push_rows.new.cells.items c.in-Ok.ensures.cells (record { first = c.len.result; count = length c.args.places.now }) first refl
