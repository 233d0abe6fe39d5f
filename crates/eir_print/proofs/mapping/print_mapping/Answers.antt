use Rattle.eir_print.specs.Dependencies.{dependency_line}
use Rattle.eir_print.proofs.PrefixLaws.{texts-nothing}
use Rattle.eir_print.proofs.mapping.print_mapping.Goals as goal

pub returns-in-None-clause-ok : goal.returns-in-None-clause-ok
returns-in-None-clause-ok c =
    texts-nothing (dependency_line c.args.schema.now) c.args.out.now c.args.mapping.now c.in-None.ensures
