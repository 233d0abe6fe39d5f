use Rattle.std.proofs.Common.{sym, ◌∙◌}
use Rattle.eir_io.proofs.ShelfLaws.{file_in-set, file_in-append}
use Rattle.eir_io.proofs.sure_shelf.SureShelf.put.Goals as goal

pub returns-in-Some-clause-ok : goal.returns-in-Some-clause-ok
returns-in-Some-clause-ok c =
    rw (c.in_ok-file.ensures, ← c.self.view_is)
    (file_in-set _ _ _ _ (rw (← c.deref.ensures.value) (sym c.place_of.ensures ∙ c.in-Some.is)))

pub returns-in_ok-push-in-None-clause-ok : goal.returns-in_ok-push-in-None-clause-ok
returns-in_ok-push-in-None-clause-ok c =
    rw (c.in_ok-push-in-None.ensures.items, c.in_ok-file.ensures, ← c.self.view_is)
    (file_in-append _ _ _ (rw (← c.deref.ensures.value) (sym c.place_of.ensures ∙ c.in-None.is)))
