use Rattle.std.proofs.Common.{◌≡◌, ◌++◌, OnOk, ap, ap₂, sym, subst, ◌∙◌}
use Rattle.eir_term.specs.Instances.{IsSource}
use Rattle.eir_term.specs.Fitting.{DataExample}
use Rattle.eir_edit.specs.Pairs.{paired}
use Rattle.eir_canon.specs.Parts.{HasNoForeign, dependencies_of}
use Rattle.eir_canon.proofs.mapping.push_dependencies.Goals as goal

pub push_between-requires-clause-clean : goal.push_between-requires-clause-clean
push_between-requires-clause-clean c =
    subst (λ K. IsSource K)
    (sym (ap (λ i. i.facts) c.deref-3.ensures ∙ c.in_ok-source.ensures ∙ ap (λ i. i.facts) c.deref.ensures
    ∙ ap (λ x. x.source) c.example.view_is)) c.requires.clean

pub push_between-requires-clause-known : goal.push_between-requires-clause-known
push_between-requires-clause-known c =
    subst (λ (e : DataExample). HasNoForeign e) (sym (ap₂ paired
    (ap (λ i. i.facts) c.deref-3.ensures ∙ c.in_ok-source.ensures ∙ ap (λ i. i.facts) c.deref.ensures
    ∙ ap (λ x. x.source) c.example.view_is)
    (ap (λ i. i.facts) c.deref-4.ensures ∙ c.in_ok-target.ensures ∙ ap (λ i. i.facts) c.deref-2.ensures
    ∙ ap (λ x. x.target) c.example.view_is))) c.requires.known

pub returns : goal.returns
returns c =
    subst
    (λ (e : DataExample). OnOk c.push_between.result (c.push_between.new.mapping ≡ c.args.mapping.now
    ++ dependencies_of c.args.kind e)) (ap₂ paired
    (ap (λ i. i.facts) c.deref-3.ensures ∙ c.in_ok-source.ensures ∙ ap (λ i. i.facts) c.deref.ensures
    ∙ ap (λ x. x.source) c.example.view_is)
    (ap (λ i. i.facts) c.deref-4.ensures ∙ c.in_ok-target.ensures ∙ ap (λ i. i.facts) c.deref-2.ensures
    ∙ ap (λ x. x.target) c.example.view_is)) c.push_between.ensures
