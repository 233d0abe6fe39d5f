use Rattle.std.proofs.Common.{arith}
use Rattle.eir_inst.proofs.WalkLaws.{counted-below}
use Rattle.eir_inst.proofs.staying.gone_count.Goals as goal

pub overflow_add-count : goal.overflow_add-count
overflow_add-count c =
    let n = counted-below (λ g. g) c.args.gone.now c.loop-gone.gone-index c.loop-gone.count c.loop-gone.invariant in
    let l = c.loop-gone-test.true in
    let m = c.loop-gone.auto.gone-index-end in
    omega arith
