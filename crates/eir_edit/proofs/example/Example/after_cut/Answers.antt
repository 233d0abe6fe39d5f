use Rattle.std.proofs.Common.{◌≡◌, refl, sym, ◌∙◌, ap, subst, arith}
use Rattle.std.proofs.lemmas.Bool.{false≢true}
use Rattle.std.proofs.lemmas.Result.{err_from_is_err_and}
use Rattle.eir_term.specs.Facts.{fact_eq}
use Rattle.eir_term.specs.Lists.{◌∈◌, without}
use Rattle.eir_edit.specs.Causes.{missing}
use Rattle.eir_edit.specs.Histories.{facts_on}
use Rattle.eir_edit.specs.Edits.{remove_tests, renewed}
use Rattle.eir_edit.proofs.EditLaws.{versioned-some, versioned-drawn, versioned-none, remove-missing, remove-none}
use Rattle.eir_edit.proofs.example.Example.after_cut.Goals as goal

pub returns-then-not-contains-clause-refused : goal.returns-then-not-contains-clause-refused
returns-then-not-contains-clause-refused c =
    let fs = facts_on c.args.side c.args.self.now in
    let same : c.deref.result.now.facts ≡ fs = ap (λ i. i.facts) c.deref.ensures ∙ c.instance-instance.ensures.facts in
    let new : c.args.fact.now ∈ fs → ⊥ = λ h. false≢true (c.if-not-contains.ensures.1 (subst (λ gs. c.args.fact.now ∈ gs) (sym same) h)) in
    versioned-some c.args.versions.now (remove_tests c.args.fact.now fs) missing (remove-missing c.args.fact.now fs new)

pub returns-in_err-version-clause-refused : goal.returns-in_err-version-clause-refused
returns-in_err-version-clause-refused c =
    let fs = facts_on c.args.side c.args.self.now in
    let same : c.deref.result.now.facts ≡ fs = ap (λ i. i.facts) c.deref.ensures ∙ c.instance-instance.ensures.facts in
    let here : c.args.fact.now ∈ fs = subst (λ gs. c.args.fact.now ∈ gs) same (c.if-not-contains.ensures.0 refl) in
    let e = c.in_err-version.ensures.err in
    let p = err_from_is_err_and c.from_residual.result c.from_residual.ensures.1 in
    rw (p.1, p.2, e.0) (versioned-drawn c.args.versions.now (remove_tests c.args.fact.now fs) (remove-none c.args.fact.now fs here) e.1)

pub returns-in_err-shrunk-clause-refused : goal.returns-in_err-shrunk-clause-refused
returns-in_err-shrunk-clause-refused c =
    let fs = facts_on c.args.side c.args.self.now in
    let same : c.deref.result.now.facts ≡ fs = ap (λ i. i.facts) c.deref.ensures ∙ c.instance-instance.ensures.facts in
    let here : c.args.fact.now ∈ fs = subst (λ gs. c.args.fact.now ∈ gs) same (c.if-not-contains.ensures.0 refl) in
    let next = c.in_ok-version.ensures.ok in
    let p = err_from_is_err_and c.from_residual-in_err-shrunk.result c.from_residual-in_err-shrunk.ensures.1 in
    rw (p.1, p.2) (sym (versioned-none c.args.versions.now (remove_tests c.args.fact.now fs) (remove-none c.args.fact.now fs here) (omega (arith, next.0, next.1))))

pub returns-in_err-example-clause-refused : goal.returns-in_err-example-clause-refused
returns-in_err-example-clause-refused c =
    let fs = facts_on c.args.side c.args.self.now in
    let same : c.deref.result.now.facts ≡ fs = ap (λ i. i.facts) c.deref.ensures ∙ c.instance-instance.ensures.facts in
    let here : c.args.fact.now ∈ fs = subst (λ gs. c.args.fact.now ∈ gs) same (c.if-not-contains.ensures.0 refl) in
    let next = c.in_ok-version.ensures.ok in
    let p = err_from_is_err_and c.from_residual-in_err-example.result c.from_residual-in_err-example.ensures.1 in
    rw (p.1, p.2) (sym (versioned-none c.args.versions.now (remove_tests c.args.fact.now fs) (remove-none c.args.fact.now fs here) (omega (arith, next.0, next.1))))

pub returns-clause-ok : goal.returns-clause-ok
returns-clause-ok c =
    let fs = facts_on c.args.side c.args.self.now in
    let same : c.deref.result.now.facts ≡ fs = ap (λ i. i.facts) c.deref.ensures ∙ c.instance-instance.ensures.facts in
    let here : c.args.fact.now ∈ fs = subst (λ gs. c.args.fact.now ∈ gs) same (c.if-not-contains.ensures.0 refl) in
    let again : c.deref-2.result.now.facts ≡ fs = ap (λ i. i.facts) c.deref-2.ensures ∙ c.instance-instance.ensures.facts in
    let next = c.in_ok-version.ensures.ok in (
      c.in_ok-example.ensures
          ∙ ap (λ v. renewed v c.args.side c.in_ok-shrunk.shrunk.facts c.args.self.now) next.0
          ∙ ap (λ gs. renewed c.args.versions.now c.args.side gs c.args.self.now) (c.in_ok-shrunk.ensures.facts ∙ ap (without fact_eq c.args.fact.now) again),
      omega (arith, next.0, next.1),
      remove-none c.args.fact.now fs here,
    )
