use Rattle.std.proofs.Common.{◌≡◌, ◌∷◌, [], Some, arith, length, get_or, slice_get, length-append}
use Rattle.std.proofs.lemmas.Option.{slice_get-get_or}
use Rattle.eir_term.specs.declared.val.Val.TheVariants.{Const}
use Rattle.eir_hom.proofs.EntryLaws.{entries-push}
use Rattle.eir_hom.proofs.given.list_given.Goals as goal

pub loop-pair-preserved : goal.loop-pair-preserved
loop-pair-preserved c =
    let pairs = c.as_slice-pair-items.result.now in
    let long = c.loop-pair.invariant.1 in
    let at : slice_get pairs (length c.loop-pair.given.items) ≡ Some (get_or pairs c.loop-pair.pair-index (Const 0, Const 0)) =
    rw long (slice_get-get_or pairs c.loop-pair.pair-index (Const 0, Const 0) c.loop-pair-test.true) in
    let more = length-append c.loop-pair.given.items (c.entry.result ∷ []) in
    rw c.in_ok-push.ensures.items (entries-push c.args.source.now.facts pairs c.loop-pair.given.items _ c.entry.result c.loop-pair.invariant.0 at c.entry.ensures, omega arith)
