use Rattle.std.proofs.Common.{sym, ◌∙◌}
use Rattle.eir_io.proofs.ShelfLaws.{file_in-none, file_in-place}
use Rattle.eir_io.proofs.sure_shelf.SureShelf.file.Goals as goal

pub returns-in_err-place : goal.returns-in_err-place
returns-in_err-place c =
    rw (c.from_residual.ensures, ← c.self.view_is)
    (sym
    (file_in-none c.self.inside.files.items c.args.name.now
    (rw (← c.deref.ensures.value) (sym c.place_of.ensures ∙ c.in_err-place.was))))

pub returns : goal.returns
returns c =
    let found = file_in-place c.self.inside.files.items c.args.name.now c.in_ok-place.place c.index.result.now
    (rw (← c.deref.ensures.value) (sym c.place_of.ensures ∙ c.in_ok-place.was)) in
    rw (c.deref-2.ensures.value, ← c.self.view_is, found, ← c.index.ensures, ← c.behind-self.view_is)
