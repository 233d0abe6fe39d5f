use Rattle.std.proofs.Common.{map, sym, ◌∙◌, ap}
use Rattle.eir_edit.specs.Histories.{Example, has_version}
use Rattle.eir_edit.proofs.ListLaws.{none-more, any-here, none-end}
use Rattle.eir_edit.proofs.lists.has_version_in.Goals as goal

pub lists-preserved : goal.lists-preserved
lists-preserved c =
    none-more (λ l. map {B = Example} (λ x. x.value) l.items) c.args.lists.now c.lists.place c.index-lists-place.result c.lists-test.true c.index-lists-place.is (has_version c.args.version) c.lists.invariant
    (c.if-has_version.ensures ∙ ap (λ xs. has_version c.args.version (map {B = Example} (λ x. x.value) xs)) c.deref.ensures.value)

pub returns-then-has_version : goal.returns-then-has_version
returns-then-has_version c =
    sym (any-here (λ l. map {B = Example} (λ x. x.value) l.items) c.args.lists.now c.lists.place c.index-lists-place.result c.lists-test.true c.index-lists-place.is (has_version c.args.version)
    (c.if-has_version.ensures ∙ ap (λ xs. has_version c.args.version (map {B = Example} (λ x. x.value) xs)) c.deref.ensures.value))

pub returns : goal.returns
returns c = sym (none-end (λ l. map {B = Example} (λ x. x.value) l.items) c.args.lists.now c.lists.place c.lists-test.false (has_version c.args.version) c.lists.invariant)
