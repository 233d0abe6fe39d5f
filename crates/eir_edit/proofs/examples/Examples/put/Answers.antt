use Rattle.std.proofs.Common.{◌≡◌, Some, None, map, set, refl, sym, ◌∙◌, ap, subst, arith}
use Rattle.std.specs.List.{position}
use Rattle.std.proofs.lemmas.Result.{err_from_is_err_and}
use Rattle.eir_edit.specs.declared.refused.EditRefused.TheVariants.{NoExample}
use Rattle.eir_edit.specs.Causes.{first_cause}
use Rattle.eir_edit.specs.Histories.{Example, has_name, facts_on, facts_in, changed, edited}
use Rattle.eir_edit.specs.Edits.{versioned, put_tests, insert_tests, put_on, put_done}
use Rattle.eir_edit.specs.Goods.{IsGoodHistory, IsGoodList}
use Rattle.eir_edit.proofs.EditLaws.{versioned-none, unnamed-first, set-is, put-tests, put-versioned}
use Rattle.eir_edit.proofs.GoodLaws.{IsGoodList-put}
use Rattle.eir_edit.proofs.examples.Examples.put.Goals as goal

pub returns-in_err-place-clause-refused : goal.returns-in_err-place-clause-refused
returns-in_err-place-clause-refused c =
    let none : c.find.result ≡ None = grind arith in
    let p = err_from_is_err_and c.from_residual.result c.from_residual.ensures.1 in
    let e : c.in_err-place.field-0.0 ≡ NoExample = grind arith in
    rw (p.1, p.2, e) (sym (unnamed-first c.args.name.now c.args.self.now.list (versioned c.args.versions.now (insert_tests 512 c.args.fact (facts_in c.args.name.now c.args.side c.args.self.now.list))) (sym none ∙ c.find.ensures)))

pub returns-in_err-changed-clause-refused : goal.returns-in_err-changed-clause-refused
returns-in_err-changed-clause-refused c =
    let seen : map {B = Example} (λ x. x.value) c.self.inside.list.items ≡ c.args.self.now.list = ap (λ h. h.list) c.self.view_is in
    let some : c.find.result ≡ Some c.in_ok-place.place = grind arith in
    let found : Some c.in_ok-place.place ≡ position (has_name c.args.name.now) c.args.self.now.list = sym some ∙ c.find.ensures in
    let p = err_from_is_err_and c.from_residual-in_err-changed.result c.from_residual-in_err-changed.ensures.1 in
    rw (p.1, p.2) (c.in_err-changed.ensures.refused ∙ ap (λ x. first_cause (versioned c.args.versions.now (insert_tests 512 c.args.fact (facts_on c.args.side x)))) c.deref.ensures ∙ sym (put-versioned (λ x. x.value) c.self.inside.list.items c.args.self.now seen c.args.name.now c.in_ok-place.place c.index.result.now found c.index.ensures c.args.side c.args.versions.now 512 c.args.fact))

pub returns-in_err-list-clause-refused : goal.returns-in_err-list-clause-refused
returns-in_err-list-clause-refused c =
    let seen : map {B = Example} (λ x. x.value) c.self.inside.list.items ≡ c.args.self.now.list = ap (λ h. h.list) c.self.view_is in
    let some : c.find.result ≡ Some c.in_ok-place.place = grind arith in
    let found : Some c.in_ok-place.place ≡ position (has_name c.args.name.now) c.args.self.now.list = sym some ∙ c.find.ensures in
    let ok = c.in_ok-changed.ensures.ok in
    let none : first_cause (put_tests 512 c.args.name.now c.args.side c.args.fact c.args.self.now) ≡ None = put-tests (λ x. x.value) c.self.inside.list.items c.args.self.now seen c.args.name.now c.in_ok-place.place c.index.result.now found c.index.ensures c.args.side 512 c.args.fact ∙ ap (λ x. first_cause (insert_tests 512 c.args.fact (facts_on c.args.side x))) (sym c.deref.ensures) ∙ ok.2 in
    let p = err_from_is_err_and c.from_residual-in_err-list.result c.from_residual-in_err-list.ensures.1 in
    rw (p.1, p.2) (sym (versioned-none c.args.versions.now (put_tests 512 c.args.name.now c.args.side c.args.fact c.args.self.now) none ok.1))

pub edit-requires : goal.edit-requires
edit-requires c =
    let seen : map {B = Example} (λ x. x.value) c.self.inside.list.items ≡ c.args.self.now.list = ap (λ h. h.list) c.self.view_is in
    let some : c.find.result ≡ Some c.in_ok-place.place = grind arith in
    let found : Some c.in_ok-place.place ≡ position (has_name c.args.name.now) c.args.self.now.list = sym some ∙ c.find.ensures in
    let ok = c.in_ok-changed.ensures.ok in
    let none : first_cause (put_tests 512 c.args.name.now c.args.side c.args.fact c.args.self.now) ≡ None = put-tests (λ x. x.value) c.self.inside.list.items c.args.self.now seen c.args.name.now c.in_ok-place.place c.index.result.now found c.index.ensures c.args.side 512 c.args.fact ∙ ap (λ x. first_cause (insert_tests 512 c.args.fact (facts_on c.args.side x))) (sym c.deref.ensures) ∙ ok.2 in
    let made : map {B = Example} (λ x. x.value) c.in_ok-list.list.items ≡ changed c.args.name.now (put_on c.args.versions.now c.args.side c.args.fact) c.args.self.now.list =
    set-is (λ x. x.value) c.self.inside.list.items c.args.self.now seen c.args.name.now c.in_ok-place.place c.index.result.now found c.index.ensures (put_on c.args.versions.now c.args.side c.args.fact) c.in_ok-changed.changed _ (ok.0 ∙ ap (put_on c.args.versions.now c.args.side c.args.fact) c.deref.ensures) (c.in_ok-list.ensures ∙ ap (λ v. set (map {B = Example} (λ x. x.value) v) c.in_ok-place.place c.in_ok-changed.changed) c.deref-2.ensures.value) in
    let good = subst (IsGoodHistory 512) c.self.view_is c.self.invariant in
    record { good = subst (IsGoodList 512) (sym made) (IsGoodList-put 512 c.args.versions.now c.args.name.now c.args.side c.args.fact c.args.self.now good c.requires.ground none) }

pub returns-in_err-edit-clause-refused : goal.returns-in_err-edit-clause-refused
returns-in_err-edit-clause-refused c =
    let seen : map {B = Example} (λ x. x.value) c.self.inside.list.items ≡ c.args.self.now.list = ap (λ h. h.list) c.self.view_is in
    let some : c.find.result ≡ Some c.in_ok-place.place = grind arith in
    let found : Some c.in_ok-place.place ≡ position (has_name c.args.name.now) c.args.self.now.list = sym some ∙ c.find.ensures in
    let ok = c.in_ok-changed.ensures.ok in
    let none : first_cause (put_tests 512 c.args.name.now c.args.side c.args.fact c.args.self.now) ≡ None = put-tests (λ x. x.value) c.self.inside.list.items c.args.self.now seen c.args.name.now c.in_ok-place.place c.index.result.now found c.index.ensures c.args.side 512 c.args.fact ∙ ap (λ x. first_cause (insert_tests 512 c.args.fact (facts_on c.args.side x))) (sym c.deref.ensures) ∙ ok.2 in
    let p = err_from_is_err_and c.from_residual-in_err-edit.result c.from_residual-in_err-edit.ensures.1 in
    rw (p.1, p.2) (sym (versioned-none c.args.versions.now (put_tests 512 c.args.name.now c.args.side c.args.fact c.args.self.now) none ok.1))

pub returns-clause-ok : goal.returns-clause-ok
returns-clause-ok c =
    let seen : map {B = Example} (λ x. x.value) c.self.inside.list.items ≡ c.args.self.now.list = ap (λ h. h.list) c.self.view_is in
    let some : c.find.result ≡ Some c.in_ok-place.place = grind arith in
    let found : Some c.in_ok-place.place ≡ position (has_name c.args.name.now) c.args.self.now.list = sym some ∙ c.find.ensures in
    let ok = c.in_ok-changed.ensures.ok in
    let none : first_cause (put_tests 512 c.args.name.now c.args.side c.args.fact c.args.self.now) ≡ None = put-tests (λ x. x.value) c.self.inside.list.items c.args.self.now seen c.args.name.now c.in_ok-place.place c.index.result.now found c.index.ensures c.args.side 512 c.args.fact ∙ ap (λ x. first_cause (insert_tests 512 c.args.fact (facts_on c.args.side x))) (sym c.deref.ensures) ∙ ok.2 in
    let made : map {B = Example} (λ x. x.value) c.in_ok-list.list.items ≡ changed c.args.name.now (put_on c.args.versions.now c.args.side c.args.fact) c.args.self.now.list =
    set-is (λ x. x.value) c.self.inside.list.items c.args.self.now seen c.args.name.now c.in_ok-place.place c.index.result.now found c.index.ensures (put_on c.args.versions.now c.args.side c.args.fact) c.in_ok-changed.changed _ (ok.0 ∙ ap (put_on c.args.versions.now c.args.side c.args.fact) c.deref.ensures) (c.in_ok-list.ensures ∙ ap (λ v. set (map {B = Example} (λ x. x.value) v) c.in_ok-place.place c.in_ok-changed.changed) c.deref-2.ensures.value) in
    (versioned-none c.args.versions.now (put_tests 512 c.args.name.now c.args.side c.args.fact c.args.self.now) none ok.1, c.in_ok-edit.ensures.ok ∙ ap (λ xs. edited xs c.args.self.now) made, c.draw.ensures)
