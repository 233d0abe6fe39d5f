use Rattle.std.proofs.Common.{◌∙◌, is_some, refl, sym, ap}
use Rattle.std.proofs.lemmas.Bool.{false≢true}
use Rattle.std.proofs.lemmas.Option.{same_Some}
use Rattle.eir_inst.specs.Layers.{stays}
use Rattle.eir_inst.proofs.StayingLaws.{∈-staying, ∈-staying_from, staying-within}
use Rattle.eir_inst.proofs.staying.place_staying.Goals as goal

pub returns-in-Some-clause-absent : goal.returns-in-Some-clause-absent
returns-in-Some-clause-absent c = (
  λ _. ∈-staying c.args.base.now.facts c.args.gone.now c.in-Some.place c.args.fact.now ((c.place_of.ensures.there c.in-Some.place).0 c.in-Some.is) (sym c.stays.ensures ∙ c.if-stays.true),
  λ _. refl,
)

pub returns-in_default-clause-absent : goal.returns-in_default-clause-absent
returns-in_default-clause-absent c = (
  λ e. absurd (false≢true e),
  λ h.
      let r = ∈-staying_from c.args.base.now.facts c.args.gone.now c.args.fact.now h in
      let s = same_Some c.in-Some.place r.0 (sym c.in-Some.is ∙ (c.place_of.ensures.there r.0).1 r.1) in
      absurd (false≢true (sym c.if-stays.false ∙ c.stays.ensures ∙ ap (stays c.args.gone.now) s ∙ r.2)),
)

pub returns-in_default-2-clause-absent : goal.returns-in_default-2-clause-absent
returns-in_default-2-clause-absent c = (λ e. absurd (false≢true e), λ h. sym (ap is_some c.in_default.is) ∙ c.place_of.ensures.absent.1 (staying-within c.args.base.now.facts c.args.gone.now c.args.fact.now h))
