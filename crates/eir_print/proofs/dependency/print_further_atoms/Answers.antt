use Rattle.std.proofs.Common.{◌++◌, codes}
use Rattle.eir_print.specs.Dependencies.{atom_text}
use Rattle.eir_print.proofs.PrefixLaws.{stops-inside}
use Rattle.eir_print.proofs.dependency.print_further_atoms.Goals as goal

pub returns-in_err-print_further_atom-clause-err : goal.returns-in_err-print_further_atom-clause-err
returns-in_err-print_further_atom-clause-err c =
    stops-inside (λ a. codes " & " ++ atom_text c.args.schema.now c.args.numbered.now a) _ _ _ _ c.args.atoms.now c.loop-atom.atom-index _ c.atom-item.result c.loop-atom-test.true c.atom-item.is c.loop-atom.invariant c.in_err-print_further_atom.ensures.err
