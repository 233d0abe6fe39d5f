use Rattle.std.proofs.Common.{◌≡◌, ◌++◌, ◌∷◌, [], length, refl, sym, ◌∙◌, ap, subst, arith}
use Rattle.std.proofs.lemmas.Bool.{false≢true}
use Rattle.std.proofs.lemmas.Result.{err_from_is_err_and}
use Rattle.eir_term.specs.Lists.{◌∈◌}
use Rattle.eir_edit.specs.Causes.{there, full, first_cause}
use Rattle.eir_edit.specs.Histories.{facts_on}
use Rattle.eir_edit.specs.Edits.{insert_tests, put_on, renewed}
use Rattle.eir_edit.proofs.EditLaws.{versioned-some, versioned-drawn, versioned-none, insert-there, insert-full, insert-none}
use Rattle.eir_edit.proofs.example.Example.after_put.Goals as goal

pub returns-then-contains-clause-refused : goal.returns-then-contains-clause-refused
returns-then-contains-clause-refused c =
    let fs = facts_on c.args.side c.args.self.now in
    let same : c.deref.result.now.facts ≡ fs = ap (λ i. i.facts) c.deref.ensures ∙ c.instance-instance.ensures.facts in
    let here : c.args.fact ∈ fs = subst (λ gs. c.args.fact ∈ gs) same (c.if-contains.ensures.0 refl) in
    versioned-some c.args.versions.now (insert_tests 512 c.args.fact fs) there (insert-there c.args.fact fs 512 here)

pub returns-then-len-ge-FACT_LIMIT-clause-refused : goal.returns-then-len-ge-FACT_LIMIT-clause-refused
returns-then-len-ge-FACT_LIMIT-clause-refused c =
    let fs = facts_on c.args.side c.args.self.now in
    let same : c.deref.result.now.facts ≡ fs = ap (λ i. i.facts) c.deref.ensures ∙ c.instance-instance.ensures.facts in
    let also : c.deref-2.result.now.facts ≡ fs = ap (λ i. i.facts) c.deref-2.ensures ∙ c.instance-instance.ensures.facts in
    let new : c.args.fact ∈ fs → ⊥ = λ h. false≢true (c.if-contains.ensures.1 (subst (λ gs. c.args.fact ∈ gs) (sym same) h)) in
    let long : c.len.result ≡ length fs = c.len.ensures ∙ ap length also in
    versioned-some c.args.versions.now (insert_tests 512 c.args.fact fs) (full 512) (insert-full c.args.fact fs 512 new (omega arith))

pub returns-in_err-version-clause-refused : goal.returns-in_err-version-clause-refused
returns-in_err-version-clause-refused c =
    let fs = facts_on c.args.side c.args.self.now in
    let same : c.deref.result.now.facts ≡ fs = ap (λ i. i.facts) c.deref.ensures ∙ c.instance-instance.ensures.facts in
    let also : c.deref-2.result.now.facts ≡ fs = ap (λ i. i.facts) c.deref-2.ensures ∙ c.instance-instance.ensures.facts in
    let new : c.args.fact ∈ fs → ⊥ = λ h. false≢true (c.if-contains.ensures.1 (subst (λ gs. c.args.fact ∈ gs) (sym same) h)) in
    let long : c.len.result ≡ length fs = c.len.ensures ∙ ap length also in
    let e = c.in_err-version.ensures.err in
    let p = err_from_is_err_and c.from_residual.result c.from_residual.ensures.1 in
    rw (p.1, p.2, e.0) (versioned-drawn c.args.versions.now (insert_tests 512 c.args.fact fs) (insert-none c.args.fact fs 512 new (omega arith)) e.1)

pub returns-in_err-grown-clause-refused : goal.returns-in_err-grown-clause-refused
returns-in_err-grown-clause-refused c =
    let fs = facts_on c.args.side c.args.self.now in
    let same : c.deref.result.now.facts ≡ fs = ap (λ i. i.facts) c.deref.ensures ∙ c.instance-instance.ensures.facts in
    let also : c.deref-2.result.now.facts ≡ fs = ap (λ i. i.facts) c.deref-2.ensures ∙ c.instance-instance.ensures.facts in
    let new : c.args.fact ∈ fs → ⊥ = λ h. false≢true (c.if-contains.ensures.1 (subst (λ gs. c.args.fact ∈ gs) (sym same) h)) in
    let long : c.len.result ≡ length fs = c.len.ensures ∙ ap length also in
    let next = c.in_ok-version.ensures.ok in
    let p = err_from_is_err_and c.from_residual-in_err-grown.result c.from_residual-in_err-grown.ensures.1 in
    rw (p.1, p.2) (sym (versioned-none c.args.versions.now (insert_tests 512 c.args.fact fs) (insert-none c.args.fact fs 512 new (omega arith)) (omega (arith, next.0, next.1))))

pub returns-in_err-example-clause-refused : goal.returns-in_err-example-clause-refused
returns-in_err-example-clause-refused c =
    let fs = facts_on c.args.side c.args.self.now in
    let same : c.deref.result.now.facts ≡ fs = ap (λ i. i.facts) c.deref.ensures ∙ c.instance-instance.ensures.facts in
    let also : c.deref-2.result.now.facts ≡ fs = ap (λ i. i.facts) c.deref-2.ensures ∙ c.instance-instance.ensures.facts in
    let new : c.args.fact ∈ fs → ⊥ = λ h. false≢true (c.if-contains.ensures.1 (subst (λ gs. c.args.fact ∈ gs) (sym same) h)) in
    let long : c.len.result ≡ length fs = c.len.ensures ∙ ap length also in
    let next = c.in_ok-version.ensures.ok in
    let p = err_from_is_err_and c.from_residual-in_err-example.result c.from_residual-in_err-example.ensures.1 in
    rw (p.1, p.2) (sym (versioned-none c.args.versions.now (insert_tests 512 c.args.fact fs) (insert-none c.args.fact fs 512 new (omega arith)) (omega (arith, next.0, next.1))))

pub returns-clause-ok : goal.returns-clause-ok
returns-clause-ok c =
    let fs = facts_on c.args.side c.args.self.now in
    let same : c.deref.result.now.facts ≡ fs = ap (λ i. i.facts) c.deref.ensures ∙ c.instance-instance.ensures.facts in
    let also : c.deref-2.result.now.facts ≡ fs = ap (λ i. i.facts) c.deref-2.ensures ∙ c.instance-instance.ensures.facts in
    let third : c.deref-3.result.now.facts ≡ fs = ap (λ i. i.facts) c.deref-3.ensures ∙ c.instance-instance.ensures.facts in
    let new : c.args.fact ∈ fs → ⊥ = λ h. false≢true (c.if-contains.ensures.1 (subst (λ gs. c.args.fact ∈ gs) (sym same) h)) in
    let long : c.len.result ≡ length fs = c.len.ensures ∙ ap length also in
    let next = c.in_ok-version.ensures.ok in (
      c.in_ok-example.ensures
          ∙ ap (λ v. renewed v c.args.side c.in_ok-grown.grown.facts c.args.self.now) next.0
          ∙ ap (λ gs. renewed c.args.versions.now c.args.side gs c.args.self.now) (c.in_ok-grown.ensures.facts ∙ ap (λ gs. gs ++ c.args.fact ∷ []) third),
      omega (arith, next.0, next.1),
      insert-none c.args.fact fs 512 new (omega arith),
    )
