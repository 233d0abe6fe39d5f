use Rattle.std.proofs.Common.{◌≡◌, ◌∙◌, length, ap, arith}
use Rattle.eir_hom.proofs.TableLaws.{resized, added-laid, added-view}
use Rattle.eir_hom.proofs.tables.Tables.add.Goals as goal

pub invariant_of-self : goal.invariant_of-self
invariant_of-self c =
    let i = c.self.inside in
    let first : c.len-first.result ≡ length i.ranges.items = omega (arith, i.ranges.ok.0) in
    let ranges = c.in-Ok.ensures.items ∙ resized _ _ c.args.keys i.ranges.items i.ranges.ok.0 (omega (arith, c.len-first.ensures)) in
    added-laid i.cells.items i.ranges.items i.layouts.items c.self.invariant c.len-first.result c.args.keys c.args.stride c.resize.new.self.items c.push.new.self.items first ranges c.in-Ok-push.ensures.items

pub returns-clause-tables : goal.returns-clause-tables
returns-clause-tables c =
    let i = c.self.inside in
    let first : c.len-first.result ≡ length i.ranges.items = omega (arith, i.ranges.ok.0) in
    let ranges = c.in-Ok.ensures.items ∙ resized _ _ c.args.keys i.ranges.items i.ranges.ok.0 (omega (arith, c.len-first.ensures)) in
    added-view i.cells.items i.ranges.items i.layouts.items c.self.invariant c.len-first.result c.args.keys c.args.stride c.resize.new.self.items c.push.new.self.items first ranges c.in-Ok-push.ensures.items c.args.self.now.tables (ap (λ v. v.tables) c.self.view_is)
