use Rattle.std.proofs.Common.{◌≡◌, drop, cond, Some, None}
use Rattle.eir_term.specs.Verdicts.{first_finding, has_fold, no_fold_at}
use Rattle.eir_edit.specs.Pairs.{pairs_of}
use Rattle.eirene.proofs.verdict.first_fold_fault.Given as goal

abbrev pub invariant-loop-place : goal.invariant-loop-place
invariant-loop-place g l =
    first_finding (λ i e. cond (has_fold e.target) None (Some (no_fold_at i))) l.place (drop l.place (pairs_of l.examples))
    ≡ first_finding (λ i e. cond (has_fold e.target) None (Some (no_fold_at i))) 0 (pairs_of l.examples)
