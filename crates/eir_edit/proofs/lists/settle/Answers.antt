use Rattle.std.proofs.Common.{◌∙◌, ap, sym}
use Rattle.eir_edit.proofs.ListLaws.{map-set_equal}
use Rattle.eir_edit.proofs.lists.settle.Goals as goal

pub examples-preserved : goal.examples-preserved
examples-preserved c =
    map-set_equal (λ x. x.value) c.examples.examples c.examples.place c.in_ok-examples.field-0 c.index-examples-place.result c.index-examples-place.is (c.in_ok-examples.ensures.ok ∙ c.in_ok-settled.ensures ∙ c.deref.ensures ∙ ap (λ x. x.value) (sym c.index-examples-place.is)) ∙ c.examples.invariant
