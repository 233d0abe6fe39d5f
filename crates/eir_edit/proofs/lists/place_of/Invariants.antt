use Rattle.std.proofs.Common.{◌≡◌, false, map, take}
use Rattle.std.specs.List.{list_any}
use Rattle.eir_edit.specs.Histories.{Example, has_name}
use Rattle.eir_edit.proofs.lists.place_of.Given as goal

-- none of the first examples has the name
abbrev pub invariant-examples : goal.invariant-examples
invariant-examples l = list_any (has_name l.name) (map {B = Example} (λ x. x.value) (take l.place l.examples)) ≡ false
