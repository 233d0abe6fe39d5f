use Rattle.std.proofs.Common.{◌∙◌, ap, ◌++◌, codes}
use Rattle.eir_print.specs.Words.{kind_text}
use Rattle.eir_print.specs.Replies.{counts_line}
use Rattle.eir_print.proofs.PrefixLaws.{on_err, then, done}
use Rattle.eir_print.proofs.reduced.print_head.Goals as goal

pub returns-clause-err : goal.returns-clause-err
returns-clause-err c =
    let kind = kind_text c.args.kind in
    on_err _ _ c.print_counts.result (λ p. then _ _ _ (codes "reduced " ++ kind ++ codes " ") (counts_line c.args.deps c.args.reasons) (done _ _ _ (codes "reduced " ++ kind) (codes " ") (done _ _ _ (codes "reduced ") kind c.in_ok-push_all.ensures.ok
    (c.in_ok-push_all-2.ensures.ok ∙ ap (λ t. c.push_all.new.self ++ t) c.kind_word.ensures)) c.in_ok-push_all-3.ensures.ok) p) c.print_counts.ensures.err
