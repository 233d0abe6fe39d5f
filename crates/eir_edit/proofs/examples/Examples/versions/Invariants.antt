use Rattle.std.proofs.Common.{◌≡◌, ℕ, ◌∷◌, map, take}
use Rattle.std.specs.Prelude.{IsTrue, ◌↔◌}
use Rattle.std.specs.List.{list_any}
use Rattle.eir_term.specs.Lists.{◌∈◌, IsDistinct}
use Rattle.eir_edit.specs.Histories.{Example, has_version}
use Rattle.eir_edit.proofs.examples.Examples.versions.Given as goal

-- the set has the versions of the present list and of the first older ones
abbrev pub invariant-lists : goal.invariant-lists
invariant-lists l = record {
  members : (v : ℕ) → (v ∈ l.live.keys) ↔ IsTrue (list_any (has_version v) (map {B = Example} (λ x. x.value) l.self-inside.list.items ∷ map (λ u. map {B = Example} (λ x. x.value) u.items) (take l.place l.self-inside.undo.items)));
  apart : IsDistinct l.live.keys;
}
