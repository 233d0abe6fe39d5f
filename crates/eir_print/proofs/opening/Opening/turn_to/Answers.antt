use Rattle.std.proofs.Common.{rules}
use Rattle.eir_print.proofs.OpeningLaws.{alike-itself}
use Rattle.eir_print.proofs.opening.Opening.turn_to.Goals as goal

pub returns-in_ok-self-inside-clause-alike : goal.returns-in_ok-self-inside-clause-alike
returns-in_ok-self-inside-clause-alike c = search (rules, alike-itself)
