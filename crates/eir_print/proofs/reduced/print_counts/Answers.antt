use Rattle.eir_print.proofs.PrefixLaws.{if_err, then, done, first}
use Rattle.eir_print.proofs.reduced.print_counts.Goals as goal

pub returns-in_err-print_number-2-clause-err : goal.returns-in_err-print_number-2-clause-err
returns-in_err-print_number-2-clause-err c =
    if_err _ _ (first _ _ _ _ (then _ _ _ _ _ (done _ _ _ _ _ c.in_ok-print_number.ensures.ok c.in_ok-push_all.ensures.ok) c.in_err-print_number-2.ensures.err))
