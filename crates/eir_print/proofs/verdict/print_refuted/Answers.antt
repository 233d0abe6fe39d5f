use Rattle.std.proofs.Common.{◌++◌, codes}
use Rattle.eir_edit.specs.Pairs.{examples_of}
use Rattle.eir_print.specs.Verdicts.{example_text, source_at, moves_text}
use Rattle.eir_print.proofs.PrefixLaws.{if_err, then, done, first}
use Rattle.eir_print.proofs.verdict.print_refuted.Goals as goal

pub returns-in_err-print_example-2-clause-err : goal.returns-in_err-print_example-2-clause-err
returns-in_err-print_example-2-clause-err c =
    let one = example_text (examples_of c.args.examples.now) c.args.first in
    let two = example_text (examples_of c.args.examples.now) c.args.second in
    let moves = moves_text c.args.names.now c.args.map.now (source_at (examples_of c.args.examples.now) c.args.first) in
    if_err _ _ (first _ _ (codes "refuted " ++ one ++ codes " " ++ two ++ moves) (codes "\n") (first _ _ (codes "refuted " ++ one ++ codes " " ++ two) moves (then _ _ _ (codes "refuted " ++ one ++ codes " ") two
    (done _ _ _ (codes "refuted " ++ one) (codes " ") (done _ _ _ (codes "refuted ") one c.in_ok-push_all.ensures.ok c.in_ok-print_example.ensures.ok) c.in_ok-push_all-2.ensures.ok) c.in_err-print_example-2.ensures.err)))

pub returns-in_err-print_moves_at-clause-err : goal.returns-in_err-print_moves_at-clause-err
returns-in_err-print_moves_at-clause-err c =
    let one = example_text (examples_of c.args.examples.now) c.args.first in
    let two = example_text (examples_of c.args.examples.now) c.args.second in
    let moves = moves_text c.args.names.now c.args.map.now (source_at (examples_of c.args.examples.now) c.args.first) in
    if_err _ _ (first _ _ (codes "refuted " ++ one ++ codes " " ++ two ++ moves) (codes "\n") (then _ _ _ (codes "refuted " ++ one ++ codes " " ++ two) moves
    (done _ _ _ (codes "refuted " ++ one ++ codes " ") two (done _ _ _ (codes "refuted " ++ one) (codes " ") (done _ _ _ (codes "refuted ") one c.in_ok-push_all.ensures.ok c.in_ok-print_example.ensures.ok) c.in_ok-push_all-2.ensures.ok)
    c.in_ok-print_example-2.ensures.ok) c.in_err-print_moves_at.ensures.err))
