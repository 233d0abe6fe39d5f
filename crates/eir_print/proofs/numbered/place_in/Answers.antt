use Rattle.std.proofs.Common.{nat_eq, ap₂, unwrap_or, ◌∙◌}
use Rattle.eir_print.proofs.PositionLaws.{place_of-position}
use Rattle.eir_print.proofs.numbered.place_in.Goals as goal

pub returns-clause-exact : goal.returns-clause-exact
returns-clause-exact c = c.unwrap_or.ensures ∙ ap₂ unwrap_or c.get_index_of.ensures.index c.len.ensures.len ∙ place_of-position nat_eq c.args.variable c.args.variables.now.keys
