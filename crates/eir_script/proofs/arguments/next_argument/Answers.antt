use Rattle.std.proofs.Common.{sym, ◌∙◌, ap}
use Rattle.std.specs.Prelude.{option_and_then}
use Rattle.eir_script.specs.Forms.{arguments_first, lexeme_in}
use Rattle.eir_script.specs.Reading.{arguments_of}
use Rattle.eir_script.proofs.ArgumentLaws.{read-first}
use Rattle.eir_script.proofs.arguments.next_argument.Goals as goal

pub returns-in_err-left-clause-read : goal.returns-in_err-left-clause-read
returns-in_err-left-clause-read c =
    read-first arguments_of c.args.bytes.now c.in-Next.rest.now (lexeme_in c.in-Next.token) c.in-Next.ensures.next ∙ c.in_err-left.ensures.left (lexeme_in c.in-Next.token) ∙ sym (ap (option_and_then arguments_first) c.from_residual-in_err-left.ensures)
