use Rattle.std.proofs.Common.{◌≡◌, ◌<◌, length, map, sym, ◌∙◌, ap, arith}
use Rattle.std.specs.List.{remove}
use Rattle.std.proofs.lemmas.List.{length-map}
use Rattle.eir_edit.specs.Histories.{Example}
use Rattle.eir_edit.proofs.ListLaws.{map-remove}
use Rattle.eir_edit.proofs.lists.without.Goals as goal

pub returns : goal.returns
returns c = ap (map {B = Example} (λ x. x.value)) c.remove.ensures.items ∙ map-remove (λ x. x.value) c.in_ok-made.made.items c.args.place ∙ ap (λ xs. remove xs c.args.place) c.in_ok-made.ensures
