use Rattle.std.proofs.Common.{◌≡◌, List, [], length, ◌∙◌, sym, subst}
use Rattle.std.specs.Prelude.{IsTrue, ◌==◌}
use Rattle.std.proofs.lemmas.Bool.{false≢true}
use Rattle.std.proofs.lemmas.Bool.Decides.{Decides-eqb}
use Rattle.std.proofs.lemmas.List.{nil_from_length}
use Rattle.eir_print.specs.Dependencies.{BeginsAlike}
use Rattle.eir_print.proofs.OpeningLaws.{begin-alike}
use Rattle.eir_print.proofs.numbered.Numbered.begins_as.Goals as goal
use Rattle.eir_print.proofs.numbered.Numbered.begins_as.Goals.{then-is_empty, else-is_empty}

pub returns-then-is_empty-2 : goal.returns-then-is_empty-2
returns-then-is_empty-2 c t = elim c.if-is_empty.branch [
  | then-is_empty w ↦ subst (λ d. BeginsAlike d c.args.dep.now) c.self.view_is
      (begin-alike c.self.inside.dep.now c.args.dep.now
      (sym c.exists.ensures ∙ empty _ (sym c.is_empty.ensures ∙ w.if-is_empty.true))
      (sym w.exists-then-is_empty.ensures
      ∙ empty _ (sym w.is_empty-then-is_empty.ensures ∙ sym w.value-is ∙ c.if-is_empty-2.true))
      (sym c.premise.ensures ∙ c.are_equal.ensures t ∙ c.premise-then-is_empty-2.ensures))
  | else-is_empty w ↦ absurd (false≢true (sym w.if-is_empty.false ∙ sym w.value-is ∙ c.if-is_empty-2.true))
]
  where
    empty : {X : Type 0} (xs : List X) → IsTrue (length xs == 0) → xs ≡ []
    empty xs same = nil_from_length xs ((Decides-eqb (length xs) 0).0 same)
