use Rattle.std.proofs.Common.{List, ◌++◌, codes, subst}
use Rattle.eir_term.specs.declared.val.Val.{Val}
use Rattle.eir_print.specs.Prefixes.{AppendsPrefix}
use Rattle.eir_print.specs.Words.{relation_text, joined}
use Rattle.eir_print.specs.Facts.{value_text}
use Rattle.eir_print.proofs.PrefixLaws.{if_err, then, done, first}
use Rattle.eir_print.proofs.fact.print_fact_with.Goals as goal

pub returns-in_err-print_values-clause-err : goal.returns-in_err-print_values-clause-err
returns-in_err-print_values-clause-err c =
    let name = relation_text c.args.schema.now c.args.fact.now.rel in
    let values = joined (codes ",") (value_text c.args.nulls c.args.names.now) c.args.fact.now.args in
    if_err _ _ (first _ _ (name ++ codes "(" ++ values) (codes ")") (then _ _ _ (name ++ codes "(") values (done _ _ _ name (codes "(") c.in_ok-print_relation.ensures.ok c.in_ok-push_all.ensures.ok)
    (subst (λ (vs : List Val). AppendsPrefix c.push_all.new.self c.print_values.new.out (joined (codes ",") (value_text c.args.nulls c.args.names.now) vs)) c.as_slice.ensures.values c.in_err-print_values.ensures.err)))
