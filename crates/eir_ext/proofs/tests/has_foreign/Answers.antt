use Rattle.std.proofs.Common.{refl, sym, ◌∙◌}
use Rattle.std.proofs.lemmas.Bool.{false≢true}
use Rattle.eir_term.specs.declared.val.Val.TheVariants.{Const}
use Rattle.eir_edit.specs.Pairs.{paired}
use Rattle.eir_ext.proofs.ForeignLaws.{known-more, none-foreign}
use Rattle.eir_ext.proofs.tests.has_foreign.Goals as goal
use Rattle.eir_ext.proofs.tests.has_foreign.Goals.{else-is_const-via-then-is_const+else-not-has_value, else-is_const-via-else-is_const}

pub loop-value-preserved : goal.loop-value-preserved
loop-value-preserved c = known-more c.args.source.now.facts c.values-value-items.result.now c.loop-value.value-index (Const 0) c.loop-value-test.true c.loop-value.invariant (λ t. elim c.else-is_const.branch [
  | else-is_const-via-then-is_const+else-not-has_value w ↦ sym w.has_value.ensures ∙ w.if-not-has_value.false
  | else-is_const-via-else-is_const w ↦ absurd (false≢true (sym w.if-is_const.false ∙ c.is_const.ensures ∙ t))
])

pub returns : goal.returns
returns c _ = none-foreign (paired c.args.source.now.facts c.args.target.now.facts) c.values-value-items.result.now c.loop-value.value-index c.values-value-items.ensures.values c.loop-value-test.false c.loop-value.invariant
