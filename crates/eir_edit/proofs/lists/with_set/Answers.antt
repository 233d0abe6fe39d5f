use Rattle.std.proofs.Common.{◌≡◌, ◌<◌, length, map, set, sym, ◌∙◌, ap, ap₂, arith}
use Rattle.std.proofs.lemmas.List.{length-map, map-set}
use Rattle.eir_edit.specs.Histories.{Example}
use Rattle.eir_edit.proofs.lists.with_set.Goals as goal

pub index_mut-requires : goal.index_mut-requires
index_mut-requires c =
    let made : length c.in_ok-made.made.items ≡ length (map {B = Example} (λ x. x.value) c.in_ok-made.made.items) = sym (length-map c.in_ok-made.made.items (λ x. x.value)) in
    let given : length (map {B = Example} (λ x. x.value) c.args.examples.now) ≡ length c.args.examples.now = length-map c.args.examples.now (λ x. x.value) in
    let same : length c.in_ok-made.made.items ≡ length c.args.examples.now = made ∙ ap length c.in_ok-made.ensures ∙ given in
    let within = c.requires in
    omega arith

pub returns : goal.returns
returns c = map-set (λ x. x.value) c.in_ok-made.made.items c.args.place c.in_ok-made-2.field-0 ∙ ap₂ (λ xs x. set xs c.args.place x) c.in_ok-made.ensures c.in_ok-made-2.ensures.ok
