use Rattle.std.proofs.Common.{cond, Some, None, sym, ap, ◌∙◌}
use Rattle.eir_term.specs.Fitting.{DataExample}
use Rattle.eir_term.specs.Verdicts.{has_fold, no_fold_at}
use Rattle.eir_edit.specs.Pairs.{pair_of, pairs_of}
use Rattle.eirene.proofs.PairLaws.{pairs_of-place}
use Rattle.eirene.proofs.VerdictLaws.{first_finding-passed, first_finding-found}
use Rattle.eirene.proofs.verdict.first_fold_fault.Goals as goal

pub returns-then-not-branch : goal.returns-then-not-branch
returns-then-not-branch g c =
    sym (first_finding-found (λ i (e : DataExample). cond (has_fold e.target) None (Some (no_fold_at i))) (pairs_of c.args.examples.now) c.loop-place.place (pair_of c.index-examples-place.result.value) (no_fold_at c.loop-place.place)
    (pairs_of-place c.args.examples.now c.loop-place.place _ c.loop-place-test.true c.index-examples-place.is)
    (ap (λ b. cond b None (Some (no_fold_at c.loop-place.place))) (sym c.in_ok-has_fold.ensures ∙ c.if-not-branch.true))) ∙ c.loop-place.invariant

pub loop-place-preserved : goal.loop-place-preserved
loop-place-preserved g c =
    first_finding-passed (λ i (e : DataExample). cond (has_fold e.target) None (Some (no_fold_at i))) (pairs_of c.args.examples.now) c.loop-place.place (pair_of c.index-examples-place.result.value)
    (pairs_of-place c.args.examples.now c.loop-place.place _ c.loop-place-test.true c.index-examples-place.is)
    (ap (λ b. cond b None (Some (no_fold_at c.loop-place.place))) (sym c.in_ok-has_fold.ensures ∙ c.if-not-branch.false)) ∙ c.loop-place.invariant
