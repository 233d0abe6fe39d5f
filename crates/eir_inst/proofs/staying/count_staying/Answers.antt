use Rattle.std.proofs.Common.{arith}
use Rattle.eir_inst.specs.Layers.{stays}
use Rattle.eir_inst.proofs.WalkLaws.{counted-below}
use Rattle.eir_inst.proofs.staying.count_staying.Goals as goal

pub overflow_add-count : goal.overflow_add-count
overflow_add-count c =
    let n = counted-below (stays c.args.gone.now) c.args.places.now c.loop-place.place-index c.loop-place.count c.loop-place.invariant in
    let l = c.loop-place-test.true in
    let m = c.loop-place.auto.place-index-end in
    omega arith
