use Rattle.std.proofs.Common.{arith}
use Rattle.eir_inst.specs.Keys.{has_key}
use Rattle.eir_inst.proofs.WalkLaws.{counted-below}
use Rattle.eir_inst.proofs.added.count_under.Goals as goal

pub overflow_add-count : goal.overflow_add-count
overflow_add-count c =
    let n = counted-below (has_key c.args.key) c.args.facts.now c.loop-fact.fact-index c.loop-fact.count c.loop-fact.invariant in
    let l = c.loop-fact-test.true in
    let m = c.loop-fact.auto.fact-index-end in
    omega arith
