use Rattle.eir_print.proofs.PrefixLaws.{if_err, then, first}
use Rattle.eir_print.proofs.numbered.Numbered.print_listed.Goals as goal

pub returns-in_err-print_variables-clause-err : goal.returns-in_err-print_variables-clause-err
returns-in_err-print_variables-clause-err c =
    if_err _ _ (first _ _ _ _ (then _ _ _ _ _ c.in_ok-push_all.ensures.ok c.in_err-print_variables.ensures.err))
