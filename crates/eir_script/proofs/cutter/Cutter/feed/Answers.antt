use Rattle.std.proofs.Common.{◌++◌, take, sym, ◌∙◌, ap}
use Rattle.eir_script.specs.Lines.{Cut}
use Rattle.eir_script.specs.Pieces.{Taking}
use Rattle.eir_script.proofs.CutterLaws.{cut-at_place, cut-no_place}
use Rattle.eir_script.proofs.cutter.Cutter.feed.Goals as goal

pub returns-in-Some-clause-cut : goal.returns-in-Some-clause-cut
returns-in-Some-clause-cut c k h = (
  k.tail ++ take c.in-Some.place c.args.bytes.now,
  ap (λ (t : Taking). t.bytes) c.self.view_is ∙ c.hold.ensures.held k.tail h,
  cut-at_place c.args.bytes.now k c.in-Some.place (sym c.place_of_line_feed.ensures ∙ c.in-Some.is),
)

pub returns-in-None-clause-cut : goal.returns-in-None-clause-cut
returns-in-None-clause-cut c k h =
    let e = cut-no_place c.args.bytes.now k (sym c.place_of_line_feed.ensures ∙ c.in-None.is) in (
      ap (λ (m : Cut). m.whole) e,
      c.hold-in-None.ensures.held k.tail h ∙ ap (λ (m : Cut). take 4098 m.tail) (sym e),
    )
