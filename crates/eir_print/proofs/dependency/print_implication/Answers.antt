use Rattle.eir_print.proofs.PrefixLaws.{if_err, on_err, then, first}
use Rattle.eir_print.proofs.dependency.print_implication.Goals as goal

pub returns-in_err-print_premise-clause-err : goal.returns-in_err-print_premise-clause-err
returns-in_err-print_premise-clause-err c = if_err _ _ (first _ _ _ _ c.in_err-print_premise.ensures.err)

pub returns-clause-err : goal.returns-clause-err
returns-clause-err c =
    on_err _ _ c.print_implied.result (λ p. then _ _ _ _ _ c.in_ok-print_premise.ensures.ok p)
    c.print_implied.ensures.err
