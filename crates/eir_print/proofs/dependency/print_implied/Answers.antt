use Rattle.std.proofs.Common.{◌++◌, codes}
use Rattle.eir_print.specs.Words.{joined}
use Rattle.eir_print.specs.Dependencies.{atom_text, exists_text, existential_variables}
use Rattle.eir_print.proofs.PrefixLaws.{if_err, on_err, then, done, first}
use Rattle.eir_print.proofs.dependency.print_implied.Goals as goal

pub returns-in_err-print_exists-clause-err : goal.returns-in_err-print_exists-clause-err
returns-in_err-print_exists-clause-err c =
    let d = c.args.numbered.now in
    let xs = exists_text d (existential_variables d) in
    if_err _ _ (first _ _ (codes " -> " ++ xs) (joined (codes " & ") (atom_text c.args.schema.now d) c.args.conclusion.now)
    (then _ _ _ (codes " -> ") xs c.in_ok-push_all.ensures.ok c.in_err-print_exists.ensures.err))

pub returns-clause-err : goal.returns-clause-err
returns-clause-err c =
    let d = c.args.numbered.now in
    let xs = exists_text d (existential_variables d) in
    on_err _ _ c.print_atoms.result
    (λ p. then _ _ _ (codes " -> " ++ xs) (joined (codes " & ") (atom_text c.args.schema.now d) c.args.conclusion.now)
    (done _ _ _ (codes " -> ") xs c.in_ok-push_all.ensures.ok c.in_ok-print_exists.ensures.ok) p)
    c.print_atoms.ensures.err
