use Rattle.std.proofs.Common.{◌≡◌, ◌++◌, ◌∷◌, [], false, Some, None, map, length, get_or, inl, inr, refl, sym, ◌∙◌, ap, subst, arith}
use Rattle.std.specs.Prelude.{is_some}
use Rattle.std.specs.List.{position}
use Rattle.std.proofs.lemmas.Bool.{false≢true}
use Rattle.std.proofs.lemmas.List.{length-map}
use Rattle.std.proofs.lemmas.Result.{err_from_is_err_and}
use Rattle.eir_schema.specs.Stamps.{stamp}
use Rattle.eir_edit.specs.declared.refused.EditRefused.TheVariants.{NoExample}
use Rattle.eir_edit.specs.Causes.{foreign}
use Rattle.eir_edit.specs.Histories.{Example, has_name, find_example, edited}
use Rattle.eir_edit.specs.Edits.{Loan, loan_of, lent, new_example}
use Rattle.eir_edit.specs.Goods.{IsGoodHistory, IsGoodList, IsGoodLoan}
use Rattle.eir_edit.proofs.EditLaws.{example_at, the-example, borrow-taken, borrow-missing, borrow-full, borrow-foreign, borrow-none, loan-none, loan-absent, loan-found}
use Rattle.eir_edit.proofs.GoodLaws.{IsGoodList-borrow, IsGoodLoan-found}
use Rattle.eir_edit.proofs.examples.Examples.copy_from.Goals as goal

pub returns-then-is_some-clause-refused : goal.returns-then-is_some-clause-refused
returns-then-is_some-clause-refused c =
    inl (borrow-taken (stamp c.args.mine.now) c.args.name.now (loan_of c.args.name.now (stamp c.args.theirs.now) c.args.lender.now) c.args.self.now (sym (c.if-is_some.ensures ∙ ap is_some c.find.ensures)))

pub returns-in_err-place-clause-refused : goal.returns-in_err-place-clause-refused
returns-in_err-place-clause-refused c =
    let mine = stamp c.args.mine.now in
    let theirs = stamp c.args.theirs.now in
    let name = c.args.name.now in
    let h = c.args.self.now in
    let absent : is_some (position (has_name name) h.list) ≡ false = sym (c.if-is_some.ensures ∙ ap is_some c.find.ensures) in
    let none : c.find-2.result ≡ None = grind arith in
    let p = err_from_is_err_and c.from_residual.result c.from_residual.ensures.1 in
    let e : c.in_err-place.field-0.0 ≡ NoExample = grind arith in
    rw (p.1, p.2, e) (inl (borrow-missing mine name (loan_of name theirs c.args.lender.now) h absent (loan-absent name theirs c.args.lender.now (sym none ∙ c.find-2.ensures))))

pub returns-then-len-ge-EXAMPLE_LIMIT-clause-refused : goal.returns-then-len-ge-EXAMPLE_LIMIT-clause-refused
returns-then-len-ge-EXAMPLE_LIMIT-clause-refused c =
    let mine = stamp c.args.mine.now in
    let theirs = stamp c.args.theirs.now in
    let name = c.args.name.now in
    let h = c.args.self.now in
    let absent : is_some (position (has_name name) h.list) ≡ false = sym (c.if-is_some.ensures ∙ ap is_some c.find.ensures) in
    let some : c.find-2.result ≡ Some c.in_ok-place.place = grind arith in
    let found : Some c.in_ok-place.place ≡ position (has_name name) c.args.lender.now.list = sym some ∙ c.find-2.ensures in
    let x = get_or c.args.lender.now.list c.in_ok-place.place (new_example 0 []) in
    let given : Loan = record { stamp = theirs; example = x } in
    let lends : loan_of name theirs c.args.lender.now ≡ Some given = loan-found name theirs c.args.lender.now x (example_at name c.args.lender.now.list c.in_ok-place.place (new_example 0 []) found) in
    let long : length h.list ≡ length c.self.inside.list.items = sym (ap (λ k. length k.list) c.self.view_is) ∙ length-map c.self.inside.list.items (λ x. x.value) in
    let n = c.len.ensures in
    inl (borrow-full mine name (loan_of name theirs c.args.lender.now) h absent given lends (omega arith))

pub returns-in_err-stamp-clause-refused : goal.returns-in_err-stamp-clause-refused
returns-in_err-stamp-clause-refused c =
    let mine = stamp c.args.mine.now in
    let theirs = stamp c.args.theirs.now in
    let name = c.args.name.now in
    let h = c.args.self.now in
    let absent : is_some (position (has_name name) h.list) ≡ false = sym (c.if-is_some.ensures ∙ ap is_some c.find.ensures) in
    let some : c.find-2.result ≡ Some c.in_ok-place.place = grind arith in
    let found : Some c.in_ok-place.place ≡ position (has_name name) c.args.lender.now.list = sym some ∙ c.find-2.ensures in
    let x = get_or c.args.lender.now.list c.in_ok-place.place (new_example 0 []) in
    let given : Loan = record { stamp = theirs; example = x } in
    let lends : loan_of name theirs c.args.lender.now ≡ Some given = loan-found name theirs c.args.lender.now x (example_at name c.args.lender.now.list c.in_ok-place.place (new_example 0 []) found) in
    let long : length h.list ≡ length c.self.inside.list.items = sym (ap (λ k. length k.list) c.self.view_is) ∙ length-map c.self.inside.list.items (λ x. x.value) in
    let n = c.len.ensures in
    let p = err_from_is_err_and c.from_residual-in_err-stamp.result c.from_residual-in_err-stamp.ensures.1 in
    rw p.1 (inr (p.2, loan-none mine name (loan_of name theirs c.args.lender.now) h absent given lends (omega arith)))

pub returns-in_err-stamp-2-clause-refused : goal.returns-in_err-stamp-2-clause-refused
returns-in_err-stamp-2-clause-refused c =
    let mine = stamp c.args.mine.now in
    let theirs = stamp c.args.theirs.now in
    let name = c.args.name.now in
    let h = c.args.self.now in
    let absent : is_some (position (has_name name) h.list) ≡ false = sym (c.if-is_some.ensures ∙ ap is_some c.find.ensures) in
    let some : c.find-2.result ≡ Some c.in_ok-place.place = grind arith in
    let found : Some c.in_ok-place.place ≡ position (has_name name) c.args.lender.now.list = sym some ∙ c.find-2.ensures in
    let x = get_or c.args.lender.now.list c.in_ok-place.place (new_example 0 []) in
    let given : Loan = record { stamp = theirs; example = x } in
    let lends : loan_of name theirs c.args.lender.now ≡ Some given = loan-found name theirs c.args.lender.now x (example_at name c.args.lender.now.list c.in_ok-place.place (new_example 0 []) found) in
    let long : length h.list ≡ length c.self.inside.list.items = sym (ap (λ k. length k.list) c.self.view_is) ∙ length-map c.self.inside.list.items (λ x. x.value) in
    let n = c.len.ensures in
    let p = err_from_is_err_and c.from_residual-in_err-stamp-2.result c.from_residual-in_err-stamp-2.ensures.1 in
    rw p.1 (inr (p.2, loan-none mine name (loan_of name theirs c.args.lender.now) h absent given lends (omega arith)))

pub returns-then-not-same_stamp-clause-refused : goal.returns-then-not-same_stamp-clause-refused
returns-then-not-same_stamp-clause-refused c =
    let mine = stamp c.args.mine.now in
    let theirs = stamp c.args.theirs.now in
    let name = c.args.name.now in
    let h = c.args.self.now in
    let absent : is_some (position (has_name name) h.list) ≡ false = sym (c.if-is_some.ensures ∙ ap is_some c.find.ensures) in
    let some : c.find-2.result ≡ Some c.in_ok-place.place = grind arith in
    let found : Some c.in_ok-place.place ≡ position (has_name name) c.args.lender.now.list = sym some ∙ c.find-2.ensures in
    let x = get_or c.args.lender.now.list c.in_ok-place.place (new_example 0 []) in
    let given : Loan = record { stamp = theirs; example = x } in
    let lends : loan_of name theirs c.args.lender.now ≡ Some given = loan-found name theirs c.args.lender.now x (example_at name c.args.lender.now.list c.in_ok-place.place (new_example 0 []) found) in
    let long : length h.list ≡ length c.self.inside.list.items = sym (ap (λ k. length k.list) c.self.view_is) ∙ length-map c.self.inside.list.items (λ x. x.value) in
    let n = c.len.ensures in
    let differs : mine ≡ theirs → ⊥ = λ e. false≢true (c.if-not-same_stamp.ensures.1 e) in
    rw (c.in_ok-stamp.ensures, c.in_ok-stamp-2.ensures) (inl (borrow-foreign mine name (loan_of name theirs c.args.lender.now) h absent given lends (omega arith) differs))

pub returns-in_err-list-clause-refused : goal.returns-in_err-list-clause-refused
returns-in_err-list-clause-refused c =
    let mine = stamp c.args.mine.now in
    let theirs = stamp c.args.theirs.now in
    let name = c.args.name.now in
    let h = c.args.self.now in
    let absent : is_some (position (has_name name) h.list) ≡ false = sym (c.if-is_some.ensures ∙ ap is_some c.find.ensures) in
    let some : c.find-2.result ≡ Some c.in_ok-place.place = grind arith in
    let found : Some c.in_ok-place.place ≡ position (has_name name) c.args.lender.now.list = sym some ∙ c.find-2.ensures in
    let x = get_or c.args.lender.now.list c.in_ok-place.place (new_example 0 []) in
    let given : Loan = record { stamp = theirs; example = x } in
    let lends : loan_of name theirs c.args.lender.now ≡ Some given = loan-found name theirs c.args.lender.now x (example_at name c.args.lender.now.list c.in_ok-place.place (new_example 0 []) found) in
    let long : length h.list ≡ length c.self.inside.list.items = sym (ap (λ k. length k.list) c.self.view_is) ∙ length-map c.self.inside.list.items (λ x. x.value) in
    let n = c.len.ensures in
    let p = err_from_is_err_and c.from_residual-in_err-list.result c.from_residual-in_err-list.ensures.1 in
    rw (p.1, p.2) (inl (sym (borrow-none mine name (loan_of name theirs c.args.lender.now) h absent given lends (omega arith) (c.if-not-same_stamp.ensures.0 refl))))

pub edit-requires : goal.edit-requires
edit-requires c =
    let mine = stamp c.args.mine.now in
    let theirs = stamp c.args.theirs.now in
    let name = c.args.name.now in
    let h = c.args.self.now in
    let absent : is_some (position (has_name name) h.list) ≡ false = sym (c.if-is_some.ensures ∙ ap is_some c.find.ensures) in
    let some : c.find-2.result ≡ Some c.in_ok-place.place = grind arith in
    let found : Some c.in_ok-place.place ≡ position (has_name name) c.args.lender.now.list = sym some ∙ c.find-2.ensures in
    let seen : map {B = Example} (λ x. x.value) c.lender.inside.list.items ≡ c.args.lender.now.list = ap (λ k. k.list) c.lender.view_is in
    let there : find_example name c.args.lender.now.list ≡ Some c.index.result.now.value = the-example (λ x. x.value) c.lender.inside.list.items c.args.lender.now seen name c.in_ok-place.place c.index.result.now found c.index.ensures in
    let given : Loan = record { stamp = theirs; example = c.index.result.now.value } in
    let lends : loan_of name theirs c.args.lender.now ≡ Some given = loan-found name theirs c.args.lender.now c.index.result.now.value there in
    let long : length h.list ≡ length c.self.inside.list.items = sym (ap (λ k. length k.list) c.self.view_is) ∙ length-map c.self.inside.list.items (λ x. x.value) in
    let n = c.len.ensures in
    let own : map {B = Example} (λ x. x.value) c.self.inside.list.items ≡ h.list = ap (λ k. k.list) c.self.view_is in
    let made : map {B = Example} (λ x. x.value) c.in_ok-list.list.items ≡ h.list ++ lent (loan_of name theirs c.args.lender.now) =
    c.in_ok-list.ensures ∙ ap (λ xs. xs ++ c.index.result.now.value ∷ []) (ap (map {B = Example} (λ x. x.value)) c.deref.ensures.value ∙ own) ∙ sym (ap (λ l. h.list ++ lent l) lends) in
    let fine : IsGoodLoan 512 name (loan_of name theirs c.args.lender.now) =
    subst (IsGoodLoan 512 name) (sym lends) (IsGoodLoan-found 512 name theirs c.args.lender.now c.index.result.now.value (subst (IsGoodHistory 512) c.lender.view_is c.lender.invariant) there) in
    record { good = subst (IsGoodList 512) (sym made) (IsGoodList-borrow 512 name (loan_of name theirs c.args.lender.now) h (subst (IsGoodHistory 512) c.self.view_is c.self.invariant) fine (loan-none mine name (loan_of name theirs c.args.lender.now) h absent given lends (omega arith))) }

pub returns-in_err-edit-clause-refused : goal.returns-in_err-edit-clause-refused
returns-in_err-edit-clause-refused c =
    let mine = stamp c.args.mine.now in
    let theirs = stamp c.args.theirs.now in
    let name = c.args.name.now in
    let h = c.args.self.now in
    let absent : is_some (position (has_name name) h.list) ≡ false = sym (c.if-is_some.ensures ∙ ap is_some c.find.ensures) in
    let some : c.find-2.result ≡ Some c.in_ok-place.place = grind arith in
    let found : Some c.in_ok-place.place ≡ position (has_name name) c.args.lender.now.list = sym some ∙ c.find-2.ensures in
    let x = get_or c.args.lender.now.list c.in_ok-place.place (new_example 0 []) in
    let given : Loan = record { stamp = theirs; example = x } in
    let lends : loan_of name theirs c.args.lender.now ≡ Some given = loan-found name theirs c.args.lender.now x (example_at name c.args.lender.now.list c.in_ok-place.place (new_example 0 []) found) in
    let long : length h.list ≡ length c.self.inside.list.items = sym (ap (λ k. length k.list) c.self.view_is) ∙ length-map c.self.inside.list.items (λ x. x.value) in
    let n = c.len.ensures in
    let p = err_from_is_err_and c.from_residual-in_err-edit.result c.from_residual-in_err-edit.ensures.1 in
    rw (p.1, p.2) (inl (sym (borrow-none mine name (loan_of name theirs c.args.lender.now) h absent given lends (omega arith) (c.if-not-same_stamp.ensures.0 refl))))

pub returns-clause-ok : goal.returns-clause-ok
returns-clause-ok c =
    let mine = stamp c.args.mine.now in
    let theirs = stamp c.args.theirs.now in
    let name = c.args.name.now in
    let h = c.args.self.now in
    let absent : is_some (position (has_name name) h.list) ≡ false = sym (c.if-is_some.ensures ∙ ap is_some c.find.ensures) in
    let some : c.find-2.result ≡ Some c.in_ok-place.place = grind arith in
    let found : Some c.in_ok-place.place ≡ position (has_name name) c.args.lender.now.list = sym some ∙ c.find-2.ensures in
    let seen : map {B = Example} (λ x. x.value) c.lender.inside.list.items ≡ c.args.lender.now.list = ap (λ k. k.list) c.lender.view_is in
    let there : find_example name c.args.lender.now.list ≡ Some c.index.result.now.value = the-example (λ x. x.value) c.lender.inside.list.items c.args.lender.now seen name c.in_ok-place.place c.index.result.now found c.index.ensures in
    let given : Loan = record { stamp = theirs; example = c.index.result.now.value } in
    let lends : loan_of name theirs c.args.lender.now ≡ Some given = loan-found name theirs c.args.lender.now c.index.result.now.value there in
    let long : length h.list ≡ length c.self.inside.list.items = sym (ap (λ k. length k.list) c.self.view_is) ∙ length-map c.self.inside.list.items (λ x. x.value) in
    let n = c.len.ensures in
    let own : map {B = Example} (λ x. x.value) c.self.inside.list.items ≡ h.list = ap (λ k. k.list) c.self.view_is in
    let made : map {B = Example} (λ x. x.value) c.in_ok-list.list.items ≡ h.list ++ lent (loan_of name theirs c.args.lender.now) =
    c.in_ok-list.ensures ∙ ap (λ xs. xs ++ c.index.result.now.value ∷ []) (ap (map {B = Example} (λ x. x.value)) c.deref.ensures.value ∙ own) ∙ sym (ap (λ l. h.list ++ lent l) lends) in
    (borrow-none mine name (loan_of name theirs c.args.lender.now) h absent given lends (omega arith) (c.if-not-same_stamp.ensures.0 refl), c.in_ok-edit.ensures.ok ∙ ap (λ xs. edited xs h) made)
