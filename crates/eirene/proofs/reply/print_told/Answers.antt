use Rattle.eirene.proofs.KnownLaws.{if_err, prefix-nothing}
use Rattle.eirene.proofs.reply.print_told.Goals as goal

pub returns-in_err-print_refusal-clause-err : goal.returns-in_err-print_refusal-clause-err
returns-in_err-print_refusal-clause-err g c = if_err _ c.from_residual.result (prefix-nothing _ _)
