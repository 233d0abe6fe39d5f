use Rattle.eir_print.specs.Replies.{stored_line}
use Rattle.eir_print.proofs.PrefixLaws.{stops-inside}
use Rattle.eir_print.proofs.exchange.print_files.Goals as goal

pub returns-in_err-print_file-clause-err : goal.returns-in_err-print_file-clause-err
returns-in_err-print_file-clause-err c =
    stops-inside stored_line _ _ _ _ c.args.files.now c.loop-file.file-index _ c.file-item.result c.loop-file-test.true c.file-item.is c.loop-file.invariant c.in_err-print_file.ensures.err
