use Rattle.std.proofs.Common.{◌++◌, codes, refl}
use Rattle.eir_print.specs.Dependencies.{variable_text}
use Rattle.eir_print.proofs.PrefixLaws.{stops-inside}
use Rattle.eir_print.proofs.numbered.Numbered.print_variables.Goals as goal

pub returns-in_err-print_further_variable-clause-err : goal.returns-in_err-print_further_variable-clause-err
returns-in_err-print_further_variable-clause-err c =
    stops-inside (λ x. codes " " ++ variable_text c.args.self.now x) _ _ _ _ c.args.variables.now c.loop-variable.variable-index 0 _ c.loop-variable-test.true refl c.loop-variable.invariant c.in_err-print_further_variable.ensures.err
