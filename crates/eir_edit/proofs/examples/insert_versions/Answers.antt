use Rattle.std.proofs.Common.{◌≡◌, ℕ, ◌⊎◌, ◌∙◌, ap, map, take}
use Rattle.std.specs.Prelude.{IsTrue, ◌↔◌}
use Rattle.eir_edit.specs.Histories.{Example}
use Rattle.eir_edit.proofs.VersionSetLaws.{IsDistinct-inserted, versions-more, versions-end}
use Rattle.eir_edit.proofs.examples.insert_versions.Goals as goal

pub examples-preserved : goal.examples-preserved
examples-preserved c =
    let is : c.version.result ≡ c.index-examples-place.result.value.version = c.version.ensures ∙ ap (λ (x : Example). x.version) c.deref.ensures in
    let grown = c.in_ok-insert.ensures.keys in record {
      members = versions-more (λ x. x.value) c.args.examples.now c.examples.place c.index-examples-place.result c.args.versions.now.keys c.examples.versions.keys c.insert.new.self.keys c.version.result c.examples-test.true c.index-examples-place.is grown is c.examples.invariant.members;
      apart = λ d. IsDistinct-inserted c.examples.versions.keys c.insert.new.self.keys c.version.result grown (c.examples.invariant.apart d);
    }

pub returns-clause-ok : goal.returns-clause-ok
returns-clause-ok c = versions-end (λ x. x.value) c.args.examples.now c.examples.place c.examples-test.false c.args.versions.now.keys c.examples.versions.keys c.examples.invariant.members
