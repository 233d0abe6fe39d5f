use Rattle.std.proofs.Common.{◌≡◌, ℕ, ◌⊎◌, map, take}
use Rattle.std.specs.Prelude.{IsTrue, ◌↔◌}
use Rattle.eir_term.specs.Lists.{◌∈◌, IsDistinct}
use Rattle.eir_edit.specs.Histories.{Example, has_version}
use Rattle.eir_edit.proofs.examples.insert_versions.Given as goal

-- the set has the versions of the first examples beside those that it had
abbrev pub invariant-examples : goal.invariant-examples
invariant-examples l = record {
  members : (v : ℕ) → (v ∈ l.versions.keys) ↔ ((v ∈ l.fn.versions.keys) ⊎ IsTrue (has_version v (map {B = Example} (λ x. x.value) (take l.place l.examples))));
  apart : IsDistinct l.fn.versions.keys → IsDistinct l.versions.keys;
}
