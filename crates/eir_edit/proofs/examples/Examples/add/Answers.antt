use Rattle.std.proofs.Common.{◌≡◌, ◌++◌, ◌∷◌, [], false, None, map, length, sym, ◌∙◌, ap, ap₂, subst, arith}
use Rattle.std.specs.Prelude.{is_some}
use Rattle.std.specs.List.{position}
use Rattle.std.proofs.lemmas.List.{length-map}
use Rattle.std.proofs.lemmas.Result.{err_from_is_err_and}
use Rattle.eir_edit.specs.Causes.{taken, full, first_cause}
use Rattle.eir_edit.specs.Histories.{Example, has_name, edited}
use Rattle.eir_edit.specs.Edits.{add_tests, new_example}
use Rattle.eir_edit.specs.Goods.{IsGoodHistory, IsGoodList}
use Rattle.eir_edit.proofs.EditLaws.{versioned-some, versioned-drawn, versioned-none, add-taken, add-full, add-none}
use Rattle.eir_edit.proofs.GoodLaws.{IsGoodList-add}
use Rattle.eir_edit.proofs.examples.Examples.add.Goals as goal

pub returns-then-is_some-clause-refused : goal.returns-then-is_some-clause-refused
returns-then-is_some-clause-refused c =
    versioned-some c.args.versions.now (add_tests c.args.name.now c.args.self.now) taken (add-taken c.args.name.now c.args.self.now (sym (c.if-is_some.ensures ∙ ap is_some c.find.ensures)))

pub returns-then-len-ge-EXAMPLE_LIMIT-clause-refused : goal.returns-then-len-ge-EXAMPLE_LIMIT-clause-refused
returns-then-len-ge-EXAMPLE_LIMIT-clause-refused c =
    let absent : is_some (position (has_name c.args.name.now) c.args.self.now.list) ≡ false = sym (c.if-is_some.ensures ∙ ap is_some c.find.ensures) in
    let long : length c.args.self.now.list ≡ length c.self.inside.list.items = sym (ap (λ h. length h.list) c.self.view_is) ∙ length-map c.self.inside.list.items (λ x. x.value) in
    let n = c.len.ensures in
    versioned-some c.args.versions.now (add_tests c.args.name.now c.args.self.now) (full 64) (add-full c.args.name.now c.args.self.now absent (omega arith))

pub returns-in_err-version-clause-refused : goal.returns-in_err-version-clause-refused
returns-in_err-version-clause-refused c =
    let absent : is_some (position (has_name c.args.name.now) c.args.self.now.list) ≡ false = sym (c.if-is_some.ensures ∙ ap is_some c.find.ensures) in
    let long : length c.args.self.now.list ≡ length c.self.inside.list.items = sym (ap (λ h. length h.list) c.self.view_is) ∙ length-map c.self.inside.list.items (λ x. x.value) in
    let n = c.len.ensures in
    let e = c.in_err-version.ensures.err in
    let p = err_from_is_err_and c.from_residual.result c.from_residual.ensures.1 in
    rw (p.1, p.2, e.0) (versioned-drawn c.args.versions.now (add_tests c.args.name.now c.args.self.now) (add-none c.args.name.now c.args.self.now absent (omega arith)) e.1)

pub returns-in_err-example-clause-refused : goal.returns-in_err-example-clause-refused
returns-in_err-example-clause-refused c =
    let absent : is_some (position (has_name c.args.name.now) c.args.self.now.list) ≡ false = sym (c.if-is_some.ensures ∙ ap is_some c.find.ensures) in
    let long : length c.args.self.now.list ≡ length c.self.inside.list.items = sym (ap (λ h. length h.list) c.self.view_is) ∙ length-map c.self.inside.list.items (λ x. x.value) in
    let n = c.len.ensures in
    let next = c.in_ok-version.ensures.ok in
    let none : first_cause (add_tests c.args.name.now c.args.self.now) ≡ None = add-none c.args.name.now c.args.self.now absent (omega arith) in
    let p = err_from_is_err_and c.from_residual-in_err-example.result c.from_residual-in_err-example.ensures.1 in
    rw (p.1, p.2) (sym (versioned-none c.args.versions.now (add_tests c.args.name.now c.args.self.now) none (omega (arith, next.0, next.1))))

pub returns-in_err-list-clause-refused : goal.returns-in_err-list-clause-refused
returns-in_err-list-clause-refused c =
    let absent : is_some (position (has_name c.args.name.now) c.args.self.now.list) ≡ false = sym (c.if-is_some.ensures ∙ ap is_some c.find.ensures) in
    let long : length c.args.self.now.list ≡ length c.self.inside.list.items = sym (ap (λ h. length h.list) c.self.view_is) ∙ length-map c.self.inside.list.items (λ x. x.value) in
    let n = c.len.ensures in
    let next = c.in_ok-version.ensures.ok in
    let none : first_cause (add_tests c.args.name.now c.args.self.now) ≡ None = add-none c.args.name.now c.args.self.now absent (omega arith) in
    let p = err_from_is_err_and c.from_residual-in_err-list.result c.from_residual-in_err-list.ensures.1 in
    rw (p.1, p.2) (sym (versioned-none c.args.versions.now (add_tests c.args.name.now c.args.self.now) none (omega (arith, next.0, next.1))))

pub edit-requires : goal.edit-requires
edit-requires c =
    let absent : is_some (position (has_name c.args.name.now) c.args.self.now.list) ≡ false = sym (c.if-is_some.ensures ∙ ap is_some c.find.ensures) in
    let long : length c.args.self.now.list ≡ length c.self.inside.list.items = sym (ap (λ h. length h.list) c.self.view_is) ∙ length-map c.self.inside.list.items (λ x. x.value) in
    let n = c.len.ensures in
    let next = c.in_ok-version.ensures.ok in
    let none : first_cause (add_tests c.args.name.now c.args.self.now) ≡ None = add-none c.args.name.now c.args.self.now absent (omega arith) in
    let seen : map {B = Example} (λ x. x.value) c.self.inside.list.items ≡ c.args.self.now.list = ap (λ h. h.list) c.self.view_is in
    let made : map {B = Example} (λ x. x.value) c.in_ok-list.list.items ≡ c.args.self.now.list ++ new_example c.args.versions.now c.args.name.now ∷ [] =
    c.in_ok-list.ensures ∙ ap₂ (λ xs x. xs ++ x ∷ []) (ap (map {B = Example} (λ x. x.value)) c.deref.ensures.value ∙ seen) (c.in_ok-example.ensures ∙ ap (λ v. new_example v c.args.name.now) next.0) in
    record { good = subst (IsGoodList 512) (sym made) (IsGoodList-add 512 c.args.versions.now c.args.name.now c.args.self.now (subst (IsGoodHistory 512) c.self.view_is c.self.invariant) none) }

pub returns-in_err-edit-clause-refused : goal.returns-in_err-edit-clause-refused
returns-in_err-edit-clause-refused c =
    let absent : is_some (position (has_name c.args.name.now) c.args.self.now.list) ≡ false = sym (c.if-is_some.ensures ∙ ap is_some c.find.ensures) in
    let long : length c.args.self.now.list ≡ length c.self.inside.list.items = sym (ap (λ h. length h.list) c.self.view_is) ∙ length-map c.self.inside.list.items (λ x. x.value) in
    let n = c.len.ensures in
    let next = c.in_ok-version.ensures.ok in
    let none : first_cause (add_tests c.args.name.now c.args.self.now) ≡ None = add-none c.args.name.now c.args.self.now absent (omega arith) in
    let p = err_from_is_err_and c.from_residual-in_err-edit.result c.from_residual-in_err-edit.ensures.1 in
    rw (p.1, p.2) (sym (versioned-none c.args.versions.now (add_tests c.args.name.now c.args.self.now) none (omega (arith, next.0, next.1))))

pub returns-clause-ok : goal.returns-clause-ok
returns-clause-ok c =
    let absent : is_some (position (has_name c.args.name.now) c.args.self.now.list) ≡ false = sym (c.if-is_some.ensures ∙ ap is_some c.find.ensures) in
    let long : length c.args.self.now.list ≡ length c.self.inside.list.items = sym (ap (λ h. length h.list) c.self.view_is) ∙ length-map c.self.inside.list.items (λ x. x.value) in
    let n = c.len.ensures in
    let next = c.in_ok-version.ensures.ok in
    let none : first_cause (add_tests c.args.name.now c.args.self.now) ≡ None = add-none c.args.name.now c.args.self.now absent (omega arith) in
    let seen : map {B = Example} (λ x. x.value) c.self.inside.list.items ≡ c.args.self.now.list = ap (λ h. h.list) c.self.view_is in
    let made : map {B = Example} (λ x. x.value) c.in_ok-list.list.items ≡ c.args.self.now.list ++ new_example c.args.versions.now c.args.name.now ∷ [] =
    c.in_ok-list.ensures ∙ ap₂ (λ xs x. xs ++ x ∷ []) (ap (map {B = Example} (λ x. x.value)) c.deref.ensures.value ∙ seen) (c.in_ok-example.ensures ∙ ap (λ v. new_example v c.args.name.now) next.0) in
    (versioned-none c.args.versions.now (add_tests c.args.name.now c.args.self.now) none (omega (arith, next.0, next.1)), c.in_ok-edit.ensures.ok ∙ ap (λ xs. edited xs c.args.self.now) made, c.draw.ensures)
