use Rattle.std.proofs.Common.{◌∙◌}
use Rattle.eir_canon.proofs.VariableLaws.{added-last}
use Rattle.eir_canon.proofs.variables.Variables.add.Goals as goal

pub returns-clause-added : goal.returns-clause-added
returns-clause-added c = c.in_ok-insert.ensures.keys ∙ added-last _ _ c.args.value c.self.view_is c.requires
