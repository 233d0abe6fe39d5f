use Rattle.std.proofs.Common.{Some, ap, ◌∙◌}
use Rattle.eir_edit.specs.Histories.{has_name}
use Rattle.eir_edit.proofs.ListLaws.{none-more, position-here, position-end}
use Rattle.eir_edit.proofs.lists.place_of.Goals as goal

pub examples-preserved : goal.examples-preserved
examples-preserved c =
    none-more (λ x. x.value) c.args.examples.now c.examples.place c.index-examples-place.result c.examples-test.true c.index-examples-place.is (has_name c.args.name.now) c.examples.invariant (c.if-has_name.ensures ∙ ap (has_name c.args.name.now) c.deref.ensures)

pub returns-then-has_name : goal.returns-then-has_name
returns-then-has_name c =
    position-here (λ x. x.value) c.args.examples.now c.examples.place c.index-examples-place.result c.examples-test.true c.index-examples-place.is (has_name c.args.name.now) c.examples.invariant (c.if-has_name.ensures ∙ ap (has_name c.args.name.now) c.deref.ensures)

pub returns : goal.returns
returns c = position-end (λ x. x.value) c.args.examples.now c.examples.place c.examples-test.false (has_name c.args.name.now) c.examples.invariant
