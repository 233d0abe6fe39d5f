use Rattle.std.proofs.Common.{◌≡◌, ◌<◌, [], Some, None, map, length, sym, ◌∙◌, ap, subst, arith}
use Rattle.std.specs.List.{position, remove}
use Rattle.std.proofs.lemmas.Result.{err_from_is_err_and}
use Rattle.eir_edit.specs.declared.refused.EditRefused.TheVariants.{NoExample}
use Rattle.eir_edit.specs.Causes.{first_cause}
use Rattle.eir_edit.specs.Histories.{Example, has_name, dropped, edited}
use Rattle.eir_edit.specs.Edits.{drop_tests}
use Rattle.eir_edit.specs.Goods.{IsGoodHistory, IsGoodList}
use Rattle.eir_edit.proofs.EditLaws.{named-first, unnamed-first, without-at, within-at}
use Rattle.eir_edit.proofs.GoodLaws.{IsGoodList-drop}
use Rattle.eir_edit.proofs.examples.Examples.drop_one.Goals as goal

pub returns-in_err-place-clause-refused : goal.returns-in_err-place-clause-refused
returns-in_err-place-clause-refused c =
    let none : c.find.result ≡ None = grind arith in
    let p = err_from_is_err_and c.from_residual.result c.from_residual.ensures.1 in
    let e : c.in_err-place.field-0.0 ≡ NoExample = grind arith in
    rw (p.1, p.2, e) (sym (unnamed-first c.args.name.now c.args.self.now.list [] (sym none ∙ c.find.ensures)))

pub returns-in_err-list-clause-refused : goal.returns-in_err-list-clause-refused
returns-in_err-list-clause-refused c =
    let seen : map {B = Example} (λ x. x.value) c.self.inside.list.items ≡ c.args.self.now.list = ap (λ h. h.list) c.self.view_is in
    let some : c.find.result ≡ Some c.in_ok-place.place = grind arith in
    let found : Some c.in_ok-place.place ≡ position (has_name c.args.name.now) c.args.self.now.list = sym some ∙ c.find.ensures in
    let none : first_cause (drop_tests c.args.name.now c.args.self.now) ≡ None = named-first c.args.name.now c.args.self.now.list c.in_ok-place.place [] found in
    let p = err_from_is_err_and c.from_residual-in_err-list.result c.from_residual-in_err-list.ensures.1 in
    rw (p.1, p.2) (sym none)

pub edit-requires : goal.edit-requires
edit-requires c =
    let seen : map {B = Example} (λ x. x.value) c.self.inside.list.items ≡ c.args.self.now.list = ap (λ h. h.list) c.self.view_is in
    let some : c.find.result ≡ Some c.in_ok-place.place = grind arith in
    let found : Some c.in_ok-place.place ≡ position (has_name c.args.name.now) c.args.self.now.list = sym some ∙ c.find.ensures in
    let none : first_cause (drop_tests c.args.name.now c.args.self.now) ≡ None = named-first c.args.name.now c.args.self.now.list c.in_ok-place.place [] found in
    let made : map {B = Example} (λ x. x.value) c.in_ok-list.list.items ≡ dropped c.args.name.now c.args.self.now.list =
    without-at (λ x. x.value) c.self.inside.list.items c.args.self.now seen c.args.name.now c.in_ok-place.place found _ (c.in_ok-list.ensures ∙ ap (λ v. remove (map {B = Example} (λ x. x.value) v) c.in_ok-place.place) c.deref.ensures.value) in
    record { good = subst (IsGoodList 512) (sym made) (IsGoodList-drop 512 c.args.name.now c.args.self.now (subst (IsGoodHistory 512) c.self.view_is c.self.invariant)) }

pub returns-in_err-edit-clause-refused : goal.returns-in_err-edit-clause-refused
returns-in_err-edit-clause-refused c =
    let seen : map {B = Example} (λ x. x.value) c.self.inside.list.items ≡ c.args.self.now.list = ap (λ h. h.list) c.self.view_is in
    let some : c.find.result ≡ Some c.in_ok-place.place = grind arith in
    let found : Some c.in_ok-place.place ≡ position (has_name c.args.name.now) c.args.self.now.list = sym some ∙ c.find.ensures in
    let none : first_cause (drop_tests c.args.name.now c.args.self.now) ≡ None = named-first c.args.name.now c.args.self.now.list c.in_ok-place.place [] found in
    let p = err_from_is_err_and c.from_residual-in_err-edit.result c.from_residual-in_err-edit.ensures.1 in
    rw (p.1, p.2) (sym none)

pub returns-clause-ok : goal.returns-clause-ok
returns-clause-ok c =
    let seen : map {B = Example} (λ x. x.value) c.self.inside.list.items ≡ c.args.self.now.list = ap (λ h. h.list) c.self.view_is in
    let some : c.find.result ≡ Some c.in_ok-place.place = grind arith in
    let found : Some c.in_ok-place.place ≡ position (has_name c.args.name.now) c.args.self.now.list = sym some ∙ c.find.ensures in
    let none : first_cause (drop_tests c.args.name.now c.args.self.now) ≡ None = named-first c.args.name.now c.args.self.now.list c.in_ok-place.place [] found in
    let made : map {B = Example} (λ x. x.value) c.in_ok-list.list.items ≡ dropped c.args.name.now c.args.self.now.list =
    without-at (λ x. x.value) c.self.inside.list.items c.args.self.now seen c.args.name.now c.in_ok-place.place found _ (c.in_ok-list.ensures ∙ ap (λ v. remove (map {B = Example} (λ x. x.value) v) c.in_ok-place.place) c.deref.ensures.value) in
    (none, c.in_ok-edit.ensures.ok ∙ ap (λ xs. edited xs c.args.self.now) made)
