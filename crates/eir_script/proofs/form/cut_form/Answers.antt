use Rattle.std.proofs.Common.{◌≡◌, None, ◌∙◌, ap, rules}
use Rattle.std.specs.Prelude.{option_and_then}
use Rattle.eir_script.specs.Forms.{said_in}
use Rattle.eir_script.specs.Grammar.{cut}
use Rattle.eir_script.proofs.form.cut_form.Goals as goal

pub returns-in_err-example-clause-read : goal.returns-in_err-example-clause-read
returns-in_err-example-clause-read c =
    let none : c.from_residual.result ≡ None = search rules in
    ap (option_and_then said_in) none ∙ c.in_err-example.ensures.read cut

pub returns-clause-read : goal.returns-clause-read
returns-clause-read c = c.in_ok-example.ensures.read cut
