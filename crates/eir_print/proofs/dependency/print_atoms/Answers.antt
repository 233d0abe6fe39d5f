use Rattle.std.proofs.Common.{codes, sym, subst}
use Rattle.eir_print.specs.Prefixes.{AppendsPrefix}
use Rattle.eir_print.specs.Dependencies.{atom_text}
use Rattle.eir_print.proofs.PrefixLaws.{on_err, then, joined-split}
use Rattle.eir_print.proofs.dependency.print_atoms.Goals as goal

pub returns-clause-err : goal.returns-clause-err
returns-clause-err c =
    on_err _ _ c.print_further_atoms.result
    (λ p. subst (λ t. AppendsPrefix c.args.out.now c.print_further_atoms.new.out t) (sym (joined-split (atom_text c.args.schema.now c.args.numbered.now) (codes " & ") c.args.atoms.now _ c.first-item.result c.in-len1-up.len_at_least c.first-item.is))
    (then _ _ _ _ _ c.in_ok-print_atom.ensures.ok p)) c.print_further_atoms.ensures.err
