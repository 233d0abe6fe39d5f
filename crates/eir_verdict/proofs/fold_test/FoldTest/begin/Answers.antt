use Rattle.std.proofs.Common.{ap, ◌∙◌}
use Rattle.eir_verdict.proofs.FoldLaws.{folding-begins}
use Rattle.eir_verdict.proofs.fold_test.FoldTest.begin.Goals as goal

pub returns : goal.returns
returns c =
    folding-begins c.in_ok-homs.homs c.behind-example.inside.target.value.facts c.args.example.now.value (ap (λ h. h.source) c.in_ok-homs.ensures) (ap (λ h. h.tries) c.in_ok-homs.ensures)
    (ap (λ x. x.target) c.behind-example.view_is ∙ ap (λ x. x.target) c.deref.ensures)
