use Rattle.std.proofs.Common.{◌≡◌, drop, option_map}
use Rattle.eir_term.specs.Verdicts.{first_finding, first_refuting, refuted}
use Rattle.eir_edit.specs.Pairs.{pair_of, pairs_of}
use Rattle.eirene.proofs.verdict.refuted_from.Given as goal

abbrev pub invariant-loop-other : goal.invariant-loop-other
invariant-loop-other g l =
    first_finding (λ j f. option_map (refuted l.place j) (first_refuting (pair_of l.first.value) f)) l.other (drop l.other (pairs_of l.examples))
    ≡ first_finding (λ j f. option_map (refuted l.place j) (first_refuting (pair_of l.first.value) f)) 0 (pairs_of l.examples)
