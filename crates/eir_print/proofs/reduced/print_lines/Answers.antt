use Rattle.eir_print.specs.Words.{text_line}
use Rattle.eir_print.proofs.PrefixLaws.{stops-inside}
use Rattle.eir_print.proofs.reduced.print_lines.Goals as goal

pub returns-in_err-print_line-clause-err : goal.returns-in_err-print_line-clause-err
returns-in_err-print_line-clause-err c =
    stops-inside text_line _ _ _ _ c.args.texts.now c.loop-text.text-index _ c.text-item.result c.loop-text-test.true c.text-item.is c.loop-text.invariant c.in_err-print_line.ensures.err
