use Rattle.std.proofs.Common.{option_map, sym, ap, ◌∙◌}
use Rattle.eir_term.specs.declared.val.Val.TheVariants.{Const}
use Rattle.eir_term.specs.Verdicts.{first_foreign, foreign_at}
use Rattle.eir_edit.specs.Pairs.{pair_of, pairs_of}
use Rattle.eirene.proofs.PairLaws.{pairs_of-place}
use Rattle.eirene.proofs.VerdictLaws.{none-from, first_finding-passed, first_finding-found}
use Rattle.eirene.proofs.verdict.domain_finding.Goals as goal

pub returns-in-Some : goal.returns-in-Some
returns-in-Some c =
    sym (first_finding-found (λ i e. option_map (foreign_at i) (first_foreign e)) (pairs_of c.args.examples.now) c.loop-place.place (pair_of c.index-examples-place.result.value) (foreign_at c.loop-place.place (Const c.in-Some.constant))
    (pairs_of-place c.args.examples.now c.loop-place.place _ c.loop-place-test.true c.index-examples-place.is)
    (ap (λ o. option_map (foreign_at c.loop-place.place) o) (ap (λ x. first_foreign (pair_of x)) (sym c.deref.ensures) ∙ sym c.first_foreign.ensures ∙ ap (λ o. option_map Const o) c.in-Some.is))) ∙ c.loop-place.invariant

pub loop-place-preserved : goal.loop-place-preserved
loop-place-preserved c =
    first_finding-passed (λ i e. option_map (foreign_at i) (first_foreign e)) (pairs_of c.args.examples.now) c.loop-place.place (pair_of c.index-examples-place.result.value)
    (pairs_of-place c.args.examples.now c.loop-place.place _ c.loop-place-test.true c.index-examples-place.is)
    (ap (λ o. option_map (foreign_at c.loop-place.place) o) (ap (λ x. first_foreign (pair_of x)) (sym c.deref.ensures) ∙ sym c.first_foreign.ensures ∙ ap (λ o. option_map Const o) (none-from c.first_foreign.result c.in_default.not-Some))) ∙ c.loop-place.invariant
