use Rattle.std.proofs.Common.{◌≡◌, ◌∙◌, Some, refl, ap, sym, slice_get}
use Rattle.std.proofs.lemmas.Option.{slice_get_read}
use Rattle.eir_term.specs.Facts.{fact_eq-decides}
use Rattle.eir_term.proofs.ListLaws.{false-apart}
use Rattle.eir_term.specs.Facts.{fact_eq}
use Rattle.eir_term.proofs.OrderLaws.{∈-slice_get_from}
use Rattle.eir_inst.proofs.WalkLaws.{absent-next}
use Rattle.eir_inst.proofs.added.place_among.Goals as goal

found : (c : goal.Then-eq) → slice_get c.args.facts.now c.loop-place.place ≡ Some c.args.fact.now
found c =
    slice_get_read c.args.facts.now _ c.loop-place.place c.index-facts-place.result refl c.loop-place-test.true c.index-facts-place.is
    ∙ ap Some (sym ((fact_eq-decides c.args.fact.now c.index-facts-place.result).0 (sym c.eq.ensures ∙ c.if-eq.true)))

pub returns-then-eq-clause-there : goal.returns-then-eq-clause-there
returns-then-eq-clause-there c = found c

pub returns-then-eq-clause-absent : goal.returns-then-eq-clause-absent
returns-then-eq-clause-absent c = (λ _. ∈-slice_get_from c.args.fact.now c.args.facts.now c.loop-place.place (found c), λ _. refl)

pub loop-place-preserved : goal.loop-place-preserved
loop-place-preserved c =
    absent-next c.args.fact.now c.args.facts.now c.loop-place.place c.index-facts-place.result c.loop-place-test.true c.index-facts-place.is c.loop-place.invariant
    (false-apart fact_eq fact_eq-decides c.args.fact.now c.index-facts-place.result (sym c.eq.ensures ∙ c.if-eq.false))
