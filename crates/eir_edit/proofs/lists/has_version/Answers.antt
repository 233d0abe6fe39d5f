use Rattle.std.proofs.Common.{◌≡◌, ℕ, sym, ◌∙◌, ap}
use Rattle.std.specs.Prelude.{◌==◌}
use Rattle.eir_edit.specs.Histories.{Example}
use Rattle.eir_edit.proofs.ListLaws.{none-more, any-here, none-end, differ, agree}
use Rattle.eir_edit.proofs.lists.has_version.Goals as goal

pub examples-preserved : goal.examples-preserved
examples-preserved c =
    let version : c.version.result ≡ c.index-examples-place.result.value.version = c.version.ensures ∙ ap (λ (x : Example). x.version) c.deref.ensures in
    none-more (λ x. x.value) c.args.examples.now c.examples.place c.index-examples-place.result c.examples-test.true c.index-examples-place.is (λ (x : Example). x.version == c.args.version) c.examples.invariant
    (differ c.version.result c.args.version c.if-version.false ∙ ap (λ v. v == c.args.version) version)

pub returns-then-version : goal.returns-then-version
returns-then-version c =
    let version : c.version.result ≡ c.index-examples-place.result.value.version = c.version.ensures ∙ ap (λ (x : Example). x.version) c.deref.ensures in
    sym (any-here (λ x. x.value) c.args.examples.now c.examples.place c.index-examples-place.result c.examples-test.true c.index-examples-place.is (λ (x : Example). x.version == c.args.version)
    (agree c.version.result c.args.version c.if-version.true ∙ ap (λ v. v == c.args.version) version))

pub returns : goal.returns
returns c = sym (none-end (λ x. x.value) c.args.examples.now c.examples.place c.examples-test.false (λ (x : Example). x.version == c.args.version) c.examples.invariant)
