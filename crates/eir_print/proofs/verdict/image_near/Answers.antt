use Rattle.std.proofs.Common.{sym, ◌∙◌}
use Rattle.eir_print.proofs.ImageLaws.{image-at}
use Rattle.eir_print.proofs.verdict.image_near.Goals as goal

pub returns-in-Some : goal.returns-in-Some
returns-in-Some c = image-at c.args.map.now c.args.place (c.in-Some.from, c.in-Some.to) c.args.value c.as_slice-pairs.ensures.distinct (sym c.pair.ensures ∙ c.in-Some.is) (sym c.eq.ensures ∙ c.if-eq.true)
