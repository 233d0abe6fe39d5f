use Rattle.std.proofs.Common.{◌≡◌, ◌+◌, ◌++◌, List, drop, sym, ◌∙◌, ap, subst}
use Rattle.eir_term.specs.Instances.{values}
use Rattle.eir_hom.specs.declared.occurrences.Column.{Column}
use Rattle.eir_hom.specs.Occurring.{columns_with, columns_from, columns_of}
use Rattle.eir_hom.proofs.MarkLaws.{row-read}
use Rattle.eir_hom.proofs.OrderLaws.{columns-more}
use Rattle.eir_hom.proofs.plan.columns_of.Goals as goal

pub loop-place-preserved : goal.loop-place-preserved
loop-place-preserved c =
    let K = c.args.a.now.facts in
    let row = row-read K c.loop-place.place c.numbers_at.result.now c.numbers_at.ensures in
    let now = c.in_ok-append_columns.ensures ∙ ap (λ r. c.loop-place.columns.items ++ columns_with c.loop-place.place r) row.numbers in
    subst (λ (cs : List Column). cs ++ columns_from (values K) (c.loop-place.place + 1) (drop (c.loop-place.place + 1) K) ≡ columns_of K) (sym now)
    (columns-more (values K) K c.loop-place.place row.fact c.loop-place.columns.items (columns_of K) row.there c.loop-place.invariant)
