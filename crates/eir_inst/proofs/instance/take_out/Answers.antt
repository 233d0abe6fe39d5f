use Rattle.std.proofs.Common.{◌∙◌, ◌++◌, is_some, slice_get, refl, sym, ap, subst, arith}
use Rattle.std.proofs.lemmas.Bool.{false≢true}
use Rattle.std.proofs.lemmas.Option.{slice_get_within}
use Rattle.eir_term.specs.Lists.{◌∈◌}
use Rattle.eir_term.proofs.ListLaws.{∈-append_left, ∈-append_right}
use Rattle.eir_inst.specs.Layers.{staying, stays}
use Rattle.eir_inst.proofs.WithoutLaws.{without-absent}
use Rattle.eir_inst.proofs.LayerLaws.{out-base, out-added, in-neither}
use Rattle.eir_inst.proofs.instance.take_out.Goals as goal

pub returns-in-Some-clause-there : goal.returns-in-Some-clause-there
returns-in-Some-clause-there c = (
  λ _. ∈-append_left c.args.fact.now (staying c.args.base.now.facts c.args.gone.now.items) c.args.added.now.items (subst (λ g. c.args.fact.now ∈ staying c.args.base.now.facts g) c.deref.ensures.value (c.place_staying.ensures.absent.0 (ap is_some c.in-Some.is))),
  λ _. refl,
)

pub returns-in-Some-clause-facts : goal.returns-in-Some-clause-facts
returns-in-Some-clause-facts c =
    out-base c.args.base.now.facts c.args.gone.now.items c.args.added.now.items c.in-Some.place c.args.fact.now c.requires.marked c.requires.distinct c.in-Some.ensures.there.0 (ap (λ g. stays g c.in-Some.place) (sym c.deref.ensures.value) ∙ c.in-Some.ensures.there.1)

pub remove-requires : goal.remove-requires
remove-requires c =
    let l = slice_get_within c.deref-2.result.now c.in-Some-place_among.place c.args.fact.now c.in-Some-place_among.ensures.there in
    let n = c.deref-2.ensures.len in
    omega arith

pub returns-in-Some-place_among-clause-there : goal.returns-in-Some-place_among-clause-there
returns-in-Some-place_among-clause-there c = (
  λ _. ∈-append_right c.args.fact.now (staying c.args.base.now.facts c.args.gone.now.items) c.args.added.now.items (subst (λ fs. c.args.fact.now ∈ fs) c.deref-2.ensures.value (c.place_among.ensures.absent.0 (ap is_some c.in-Some-place_among.is))),
  λ _. refl,
)

pub returns-in-Some-place_among-clause-facts : goal.returns-in-Some-place_among-clause-facts
returns-in-Some-place_among-clause-facts c =
    ap (λ fs. staying c.args.base.now.facts c.args.gone.now.items ++ fs) c.remove.ensures.items
    ∙ out-added (staying c.args.base.now.facts c.args.gone.now.items) c.args.added.now.items c.in-Some-place_among.place c.args.fact.now c.requires.distinct (ap (λ fs. slice_get fs c.in-Some-place_among.place) (sym c.deref-2.ensures.value) ∙ c.in-Some-place_among.ensures.there)

absent : (c : goal.In-None) → c.args.fact.now ∈ (staying c.args.base.now.facts c.args.gone.now.items ++ c.args.added.now.items) → ⊥
absent c =
    in-neither c.args.fact.now (staying c.args.base.now.facts c.args.gone.now.items) c.args.added.now.items
    (λ h. false≢true (sym (ap is_some c.in_default.is) ∙ c.place_staying.ensures.absent.1 (subst (λ g. c.args.fact.now ∈ staying c.args.base.now.facts g) (sym c.deref.ensures.value) h)))
    (λ h. false≢true (sym (ap is_some c.in-None.is) ∙ c.place_among.ensures.absent.1 (subst (λ fs. c.args.fact.now ∈ fs) (sym c.deref-2.ensures.value) h)))

pub returns-in-None-clause-there : goal.returns-in-None-clause-there
returns-in-None-clause-there c = (λ e. absurd (false≢true e), λ h. absurd (absent c h))

pub returns-in-None-clause-facts : goal.returns-in-None-clause-facts
returns-in-None-clause-facts c = sym (without-absent c.args.fact.now (staying c.args.base.now.facts c.args.gone.now.items ++ c.args.added.now.items) (absent c))
