use Rattle.std.proofs.Common.{◌≡◌, drop, option_map}
use Rattle.eir_term.specs.Verdicts.{first_finding, first_foreign, foreign_at}
use Rattle.eir_edit.specs.Pairs.{pairs_of}
use Rattle.eirene.proofs.verdict.domain_finding.Given as goal

abbrev pub invariant-loop-place : goal.invariant-loop-place
invariant-loop-place l =
    first_finding (λ i e. option_map (foreign_at i) (first_foreign e)) l.place (drop l.place (pairs_of l.examples))
    ≡ first_finding (λ i e. option_map (foreign_at i) (first_foreign e)) 0 (pairs_of l.examples)
