use Rattle.std.proofs.Common.{List, ◌++◌, codes, subst}
use Rattle.eir_term.specs.declared.term.Term.{Term}
use Rattle.eir_print.specs.Prefixes.{AppendsPrefix}
use Rattle.eir_print.specs.Words.{relation_text, joined}
use Rattle.eir_print.specs.Dependencies.{term_text}
use Rattle.eir_print.proofs.PrefixLaws.{if_err, then, done, first}
use Rattle.eir_print.proofs.dependency.print_atom.Goals as goal

pub returns-in_err-print_terms-clause-err : goal.returns-in_err-print_terms-clause-err
returns-in_err-print_terms-clause-err c =
    let name = relation_text c.args.schema.now c.args.atom.now.rel in
    let terms = joined (codes ",") (term_text c.args.numbered.now) c.args.atom.now.args in
    if_err _ _ (first _ _ (name ++ codes "(" ++ terms) (codes ")") (then _ _ _ (name ++ codes "(") terms (done _ _ _ name (codes "(") c.in_ok-print_relation.ensures.ok c.in_ok-push_all.ensures.ok)
    (subst (λ (ts : List Term). AppendsPrefix c.push_all.new.self c.print_terms.new.out (joined (codes ",") (term_text c.args.numbered.now) ts)) c.as_slice.ensures c.in_err-print_terms.ensures.err)))
