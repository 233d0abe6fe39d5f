use Rattle.std.proofs.Common.{option_map, sym, ap, ◌∙◌}
use Rattle.eir_term.specs.Verdicts.{first_refuting, refuted}
use Rattle.eir_edit.specs.Pairs.{pair_of, pairs_of}
use Rattle.eirene.proofs.PairLaws.{pairs_of-place}
use Rattle.eirene.proofs.VerdictLaws.{none-from, first_finding-passed, first_finding-found}
use Rattle.eirene.proofs.verdict.refuted_from.Goals as goal

pub returns-in-Some : goal.returns-in-Some
returns-in-Some g c =
    sym (first_finding-found (λ j f. option_map (refuted c.args.place j) (first_refuting (pair_of c.args.first.now.value) f)) (pairs_of c.args.examples.now) c.loop-other.other (pair_of c.index-examples-other.result.value) (refuted c.args.place c.loop-other.other c.in-Some.map)
    (pairs_of-place c.args.examples.now c.loop-other.other _ c.loop-other-test.true c.index-examples-other.is)
    (ap (λ o. option_map (refuted c.args.place c.loop-other.other) o) (sym c.in_ok-map.ensures ∙ c.in-Some.is))) ∙ c.loop-other.invariant

pub loop-other-preserved : goal.loop-other-preserved
loop-other-preserved g c =
    first_finding-passed (λ j f. option_map (refuted c.args.place j) (first_refuting (pair_of c.args.first.now.value) f)) (pairs_of c.args.examples.now) c.loop-other.other (pair_of c.index-examples-other.result.value)
    (pairs_of-place c.args.examples.now c.loop-other.other _ c.loop-other-test.true c.index-examples-other.is)
    (ap (λ o. option_map (refuted c.args.place c.loop-other.other) o) (sym c.in_ok-map.ensures ∙ none-from c.in_ok-map.field-0 c.in_default.not-Some)) ∙ c.loop-other.invariant
