use Rattle.std.proofs.Common.{◌++◌, codes, refl}
use Rattle.eir_term.specs.declared.val.Val.TheVariants.{Const}
use Rattle.eir_print.specs.Facts.{value_text}
use Rattle.eir_print.proofs.PrefixLaws.{stops-inside}
use Rattle.eir_print.proofs.fact.print_further_values.Goals as goal

pub returns-in_err-print_further_value-clause-err : goal.returns-in_err-print_further_value-clause-err
returns-in_err-print_further_value-clause-err c =
    stops-inside (λ v. codes "," ++ value_text c.args.nulls c.args.names.now v) _ _ _ _ c.args.values.now c.loop-value.value-index (Const 0) _ c.loop-value-test.true refl c.loop-value.invariant c.in_err-print_further_value.ensures.err
