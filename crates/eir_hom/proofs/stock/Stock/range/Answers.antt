use Rattle.std.proofs.Common.{ap, refl}
use Rattle.eir_hom.proofs.LaidLaws.{asked, its_rows}
use Rattle.eir_hom.proofs.stock.Stock.range.Goals as goal

pub returns-in-Some-clause-rows : goal.returns-in-Some-clause-rows
returns-in-Some-clause-rows c =
    let i = c.self.inside in
    let so = c.self.invariant.3 in
    let seen = ap (λ v. v.tables) c.self.view_is in
    let cells = ap (λ v. v.cells) c.self.view_is in
    rw (← cells) ((asked _ _ _ _ so c.args.table c.in-Some.ensures.table c.args.self.now.tables i.tables.cells c.args.key c.in-Some.range _ seen refl (its_rows _ _ _ _ so c.args.table c.in-Some.ensures.table c.args.key _ c.in-Some.ensures.rows) c.in-Some.ensures.within).0)

pub returns-in-Some-clause-within : goal.returns-in-Some-clause-within
returns-in-Some-clause-within c =
    let i = c.self.inside in
    let so = c.self.invariant.3 in
    let seen = ap (λ v. v.tables) c.self.view_is in
    let cells = ap (λ v. v.cells) c.self.view_is in
    rw (← cells) ((asked _ _ _ _ so c.args.table c.in-Some.ensures.table c.args.self.now.tables i.tables.cells c.args.key c.in-Some.range _ seen refl (its_rows _ _ _ _ so c.args.table c.in-Some.ensures.table c.args.key _ c.in-Some.ensures.rows) c.in-Some.ensures.within).1)
