use Rattle.std.proofs.Common.{◌≡◌, drop, option_map}
use Rattle.eir_term.specs.Verdicts.{first_finding, first_refuting, refuted}
use Rattle.eir_edit.specs.Pairs.{pairs_of}
use Rattle.eirene.proofs.verdict.refuted_finding.Given as goal

abbrev pub invariant-loop-place : goal.invariant-loop-place
invariant-loop-place g l =
    first_finding (λ i e. first_finding (λ j f. option_map (refuted i j) (first_refuting e f)) 0 (pairs_of l.examples)) l.place (drop l.place (pairs_of l.examples))
    ≡ first_finding (λ i e. first_finding (λ j f. option_map (refuted i j) (first_refuting e f)) 0 (pairs_of l.examples)) 0 (pairs_of l.examples)
