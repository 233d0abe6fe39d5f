use Rattle.std.proofs.Common.{◌≡◌, map}
use Rattle.eir_edit.specs.Histories.{Example}
use Rattle.eir_edit.proofs.lists.settle.Given as goal

-- each example is equal to what it was
abbrev pub invariant-examples : goal.invariant-examples
invariant-examples l = map {B = Example} (λ x. x.value) l.examples ≡ map {B = Example} (λ x. x.value) l.fn.examples
