use Rattle.std.proofs.Common.{flat_map, length, codes}
use Rattle.eir_print.specs.Words.{counted_line}
use Rattle.eir_print.specs.Replies.{stored_line}
use Rattle.eir_print.proofs.PrefixLaws.{if_err, first}
use Rattle.eir_print.proofs.exchange.print_exchange.Goals as goal

pub returns-in_err-print_counted-clause-err : goal.returns-in_err-print_counted-clause-err
returns-in_err-print_counted-clause-err c =
    if_err _ _ (first _ _ (counted_line (codes "exchange") (length c.args.files.now)) (flat_map stored_line c.args.files.now) c.in_err-print_counted.ensures.err)
