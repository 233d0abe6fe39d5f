use Rattle.std.proofs.Common.{◌++◌, codes}
use Rattle.eir_term.specs.declared.val.Val.TheVariants.{Const}
use Rattle.eir_edit.specs.Pairs.{examples_of}
use Rattle.eir_print.specs.Verdicts.{example_text, constant_text}
use Rattle.eir_print.proofs.PrefixLaws.{if_err, then, done, first}
use Rattle.eir_print.proofs.verdict.print_domain.Goals as goal

pub returns-in_err-print_constant-clause-err : goal.returns-in_err-print_constant-clause-err
returns-in_err-print_constant-clause-err c =
    let name = example_text (examples_of c.args.examples.now) c.args.example in
    let constant = constant_text c.args.names.now (Const c.args.constant) in
    if_err _ _ (first _ _ (codes "domain " ++ name ++ codes " " ++ constant) (codes "\n") (then _ _ _ (codes "domain " ++ name ++ codes " ") constant
    (done _ _ _ (codes "domain " ++ name) (codes " ") (done _ _ _ (codes "domain ") name c.in_ok-push_all.ensures.ok c.in_ok-print_example.ensures.ok) c.in_ok-push_all-2.ensures.ok) c.in_err-print_constant.ensures.err))
