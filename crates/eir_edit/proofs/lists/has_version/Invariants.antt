use Rattle.std.proofs.Common.{◌≡◌, false, map, take}
use Rattle.eir_edit.specs.Histories.{Example, has_version}
use Rattle.eir_edit.proofs.lists.has_version.Given as goal

-- none of the first examples has the version
abbrev pub invariant-examples : goal.invariant-examples
invariant-examples l = has_version l.version (map {B = Example} (λ x. x.value) (take l.place l.examples)) ≡ false
