use Rattle.std.proofs.Common.{◌≡◌, map, take}
use Rattle.eir_edit.specs.Histories.{Example}
use Rattle.eir_edit.proofs.lists.copy.Given as goal

-- the first examples are copied
abbrev pub invariant-examples : goal.invariant-examples
invariant-examples l = map {B = Example} (λ x. x.value) l.copied.items ≡ map {B = Example} (λ x. x.value) (take l.place l.examples)
