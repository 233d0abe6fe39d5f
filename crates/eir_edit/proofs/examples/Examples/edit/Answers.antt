use Rattle.std.proofs.Common.{◌≡◌, map, refl, sym, ◌∙◌, ap, ap₂, subst, arith}
use Rattle.std.specs.Prelude.{IsOk}
use Rattle.std.specs.List.{insert}
use Rattle.eir_edit.specs.Histories.{Example, History, history_of, edited}
use Rattle.eir_edit.specs.Goods.{IsGoodHistory}
use Rattle.eir_edit.proofs.GoodLaws.{IsGoodHistory-edited}
use Rattle.eir_edit.proofs.ListLaws.{pushed}
use Rattle.eir_edit.proofs.examples.Examples.edit.Goals as goal

pub invariant_of-self-2 : goal.invariant_of-self-2
invariant_of-self-2 c =
    let room = c.in_ok-reserve.ensures.ok in
    let inserted : IsOk c.insert.result = c.insert.ensures.succeeds (omega arith) in
    let made : c.insert.new.self.items ≡ insert c.self.inside.undo.items 0 c.replace-before.result = c.insert.ensures.items ∙ rw inserted (ap (λ xs. insert xs 0 c.replace-before.result) c.reserve.ensures.items) in
    let undo = pushed (λ l. map {B = Example} (λ x. x.value) l.items) c.self.inside.undo.items c.insert.new.self.items c.truncate.new.self.items c.replace-before.result made c.truncate.ensures.items in
    let list : map {B = Example} (λ x. x.value) c.replace-before.new.dest.items ≡ map {B = Example} (λ x. x.value) c.args.list.items = ap (λ v. map {B = Example} (λ x. x.value) v.items) c.replace-before.ensures.after in
    let before : map {B = Example} (λ x. x.value) c.replace-before.result.items ≡ map {B = Example} (λ x. x.value) c.self.inside.list.items = ap (λ v. map {B = Example} (λ x. x.value) v.items) c.replace-before.ensures.value in
    rw (list, undo, before) (IsGoodHistory-edited 512 _ _ c.self.invariant c.requires.good)

pub returns-clause-ok : goal.returns-clause-ok
returns-clause-ok c =
    let room = c.in_ok-reserve.ensures.ok in
    let inserted : IsOk c.insert.result = c.insert.ensures.succeeds (omega arith) in
    let made : c.insert.new.self.items ≡ insert c.self.inside.undo.items 0 c.replace-before.result = c.insert.ensures.items ∙ rw inserted (ap (λ xs. insert xs 0 c.replace-before.result) c.reserve.ensures.items) in
    let undo = pushed (λ l. map {B = Example} (λ x. x.value) l.items) c.self.inside.undo.items c.insert.new.self.items c.truncate.new.self.items c.replace-before.result made c.truncate.ensures.items in
    let list : map {B = Example} (λ x. x.value) c.replace-before.new.dest.items ≡ map {B = Example} (λ x. x.value) c.args.list.items = ap (λ v. map {B = Example} (λ x. x.value) v.items) c.replace-before.ensures.after in
    let before : map {B = Example} (λ x. x.value) c.replace-before.result.items ≡ map {B = Example} (λ x. x.value) c.self.inside.list.items = ap (λ v. map {B = Example} (λ x. x.value) v.items) c.replace-before.ensures.value in
    rw (← c.self.view_is, list, undo, before) refl
