use Rattle.std.proofs.Common.{◌+◌, sym, ◌∙◌, ap, drop, slice_get, arith}
use Rattle.eir_inst.specs.Layers.{staying}
use Rattle.eir_inst.proofs.StayingLaws.{staying-drop}
use Rattle.eir_inst.proofs.WalkLaws.{sought-on, sought-skip}
use Rattle.eir_inst.proofs.staying.nth_fact.Goals as goal
use Rattle.eir_inst.proofs.staying.nth_fact.Goals.{then-stays+else-left-eq0, else-stays}

pub loop-place-preserved : goal.loop-place-preserved
loop-place-preserved c =
    let rest = staying-drop c.args.facts.now c.args.gone.now c.loop-place.place c.index-facts-place.result c.stays.result c.loop-place-test.true c.index-facts-place.is c.stays.ensures in
    elim c.if-stays.branch [
      | then-stays+else-left-eq0 w ↦
          (let n = w.left-is in let z = w.if-left-eq0.false in
          sought-on _ c.loop-place.left _ _ _ _ c.loop-place.invariant rest c.if-stays.left w.if-stays.true (omega arith))
      | else-stays w ↦ sought-skip _ c.loop-place.left _ _ _ _ c.loop-place.invariant rest w.if-stays.false ∙ ap (slice_get (staying (drop (c.loop-place.place + 1) c.args.facts.now) (drop (c.loop-place.place + 1) c.args.gone.now))) (sym w.left-is)
    ]
