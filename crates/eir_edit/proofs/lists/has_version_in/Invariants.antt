use Rattle.std.proofs.Common.{◌≡◌, false, map, take}
use Rattle.std.specs.List.{list_any}
use Rattle.eir_edit.specs.Histories.{Example, has_version}
use Rattle.eir_edit.proofs.lists.has_version_in.Given as goal

-- no example of the first lists has the version
abbrev pub invariant-lists : goal.invariant-lists
invariant-lists l = list_any (has_version l.version) (map (λ l. map {B = Example} (λ x. x.value) l.items) (take l.place l.lists)) ≡ false
