use Rattle.std.proofs.Common.{ap, ◌∙◌}
use Rattle.eir_hom.proofs.ListingLaws.{begun-same}
use Rattle.eir_hom.proofs.homs.Homs.begin.Goals as goal

pub returns : goal.returns
returns c =
    begun-same _ _ _ _ c.args.start.now c.begin_between.result (c.in_ok-source.ensures ∙ ap (λ i. i.facts) c.deref.ensures) (c.in_ok-target.ensures ∙ ap (λ i. i.facts) c.deref-2.ensures)
    c.begin_between.ensures
