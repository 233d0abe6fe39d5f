use Rattle.std.proofs.Common.{◌<◌, length, map, arith}
use Rattle.eir_edit.specs.Histories.{Example}
use Rattle.eir_edit.proofs.GoodLaws.{IsGoodHistory-taken}
use Rattle.eir_edit.proofs.examples.Examples.undo.Goals as goal

pub invariant_of-self : goal.invariant_of-self
invariant_of-self c =
    let n = c.remove.ensures.len in
    let some : 0 < length c.self.inside.undo.items = omega arith in
    IsGoodHistory-taken 512 (λ l. map {B = Example} (λ x. x.value) l.items) (map {B = Example} (λ x. x.value) c.self.inside.list.items) c.self.inside.undo.items c.remove.new.self.items c.remove.result some c.remove.ensures.value c.remove.ensures.items c.self.invariant
