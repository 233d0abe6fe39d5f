use Rattle.eir_edit.proofs.ListLaws.{map-more, map-end}
use Rattle.eir_edit.proofs.lists.copy.Goals as goal

pub examples-preserved : goal.examples-preserved
examples-preserved c =
    map-more (λ x. x.value) c.args.examples.now c.examples.place c.index-examples-place.result c.examples-test.true c.index-examples-place.is c.examples.copied.items c.push.new.self.items c.in_ok-clone.field-0 c.examples.invariant c.in_ok-clone.ensures.cases c.in_ok-push.ensures.items

pub returns : goal.returns
returns c = map-end (λ x. x.value) c.args.examples.now c.examples.place c.examples-test.false c.examples.copied.items c.examples.invariant
