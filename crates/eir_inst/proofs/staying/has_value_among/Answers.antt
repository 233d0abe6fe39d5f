use Rattle.std.proofs.Common.{sym, ◌∙◌}
use Rattle.eir_term.specs.Values.{val_eq}
use Rattle.eir_inst.proofs.OccurLaws.{occurs-later, occurs-gone}
use Rattle.eir_inst.proofs.staying.has_value_among.Goals as goal
use Rattle.eir_inst.proofs.staying.has_value_among.Goals.{else-stays-via-then-stays+else-fact_has, else-stays-via-else-stays}

pub loop-place-preserved : goal.loop-place-preserved
loop-place-preserved c = elim c.else-stays.branch [
  | else-stays-via-then-stays+else-fact_has w ↦
      occurs-later (val_eq c.args.val) c.args.facts.now c.args.gone.now c.loop-place.place c.index-facts-place.result c.stays.result c.loop-place-test.true c.index-facts-place.is c.stays.ensures _ c.loop-place.invariant
      w.if-stays.true (sym w.fact_has.ensures ∙ w.if-fact_has.false)
  | else-stays-via-else-stays w ↦
      occurs-gone (val_eq c.args.val) c.args.facts.now c.args.gone.now c.loop-place.place c.index-facts-place.result c.stays.result c.loop-place-test.true c.index-facts-place.is c.stays.ensures _ c.loop-place.invariant w.if-stays.false
]
