use Rattle.std.proofs.Common.{option_map, sym, ap, ◌∙◌}
use Rattle.eir_term.specs.Verdicts.{first_finding, first_refuting, refuted}
use Rattle.eir_edit.specs.Pairs.{pair_of, pairs_of}
use Rattle.eir_verdict.specs.Findings.{finding_of}
use Rattle.eirene.proofs.PairLaws.{no-foreign-at, pairs_of-place}
use Rattle.eirene.proofs.VerdictLaws.{none-from, first_finding-passed, first_finding-found}
use Rattle.eirene.proofs.verdict.refuted_finding.Goals as goal

pub refuted_from-requires : goal.refuted_from-requires
refuted_from-requires g c = no-foreign-at c.args.examples.now c.loop-place.place _ c.loop-place-test.true c.index-examples-place.is c.requires

pub returns-in-Some : goal.returns-in-Some
returns-in-Some g c =
    sym (first_finding-found (λ i e. first_finding (λ j f. option_map (refuted i j) (first_refuting e f)) 0 (pairs_of c.args.examples.now)) (pairs_of c.args.examples.now) c.loop-place.place (pair_of c.index-examples-place.result.value) (finding_of c.in-Some.found)
    (pairs_of-place c.args.examples.now c.loop-place.place _ c.loop-place-test.true c.index-examples-place.is)
    (sym c.in_ok-found.ensures ∙ ap (λ o. option_map finding_of o) c.in-Some.is)) ∙ c.loop-place.invariant

pub loop-place-preserved : goal.loop-place-preserved
loop-place-preserved g c =
    first_finding-passed (λ i e. first_finding (λ j f. option_map (refuted i j) (first_refuting e f)) 0 (pairs_of c.args.examples.now)) (pairs_of c.args.examples.now) c.loop-place.place (pair_of c.index-examples-place.result.value)
    (pairs_of-place c.args.examples.now c.loop-place.place _ c.loop-place-test.true c.index-examples-place.is)
    (sym c.in_ok-found.ensures ∙ ap (λ o. option_map finding_of o) (none-from c.in_ok-found.field-0 c.in_default.not-Some)) ∙ c.loop-place.invariant
