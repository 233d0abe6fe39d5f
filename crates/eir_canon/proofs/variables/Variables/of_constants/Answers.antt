use Rattle.std.proofs.Common.{[], refl}
use Rattle.eir_term.specs.declared.val.Val.TheVariants.{Const}
use Rattle.eir_term.specs.Values.{is_const}
use Rattle.eir_canon.proofs.VariableLaws.{without-variable}
use Rattle.eir_canon.proofs.variables.Variables.of_constants.Goals as goal

pub add-requires : goal.add-requires
add-requires c =
    without-variable is_const [] c.values-value-items.result.now c.loop-value.value-index (Const 0) _
    c.loop-value.variables c.values-value-items.ensures.distinct c.loop-value-test.true refl (λ h. h)
    c.loop-value.invariant
