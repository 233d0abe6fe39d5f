use Rattle.std.proofs.Common.{rules, ◌∙◌, ◌+◌, ◌&&◌, [], length, drop, get_or, map, sym, ap, ap₂, arith}
use Rattle.std.proofs.lemmas.List.{get_or_read}
use Rattle.eir_term.specs.Profiles.{is_within}
use Rattle.eir_hom.specs.Fits.{fits_row}
use Rattle.eir_hom.proofs.FitLaws.{AllUnder-at, answer-within, fits-step}
use Rattle.eir_hom.proofs.fits.are_within.Goals as goal

pub offset_bounds-profiles-from : goal.offset_bounds-profiles-from
offset_bounds-profiles-from c =
    let below = AllUnder-at (length c.args.profiles.now) c.args.from.now c.loop-i.i 0 c.requires.from c.loop-i-test.true in
    search rules

pub bounds-profiles-from : goal.bounds-profiles-from
bounds-profiles-from c = AllUnder-at (length c.args.profiles.now) c.args.from.now c.loop-i.i 0 c.requires.from c.loop-i-test.true

pub offset_bounds-others-to : goal.offset_bounds-others-to
offset_bounds-others-to c =
    let below = AllUnder-at (length c.args.others.now) c.args.to.now c.loop-i.i 0 c.requires.to (omega arith) in
    search rules

pub bounds-others-to : goal.bounds-others-to
bounds-others-to c = AllUnder-at (length c.args.others.now) c.args.to.now c.loop-i.i 0 c.requires.to (omega arith)

pub loop-i-preserved : goal.loop-i-preserved
loop-i-preserved c =
    let ps = c.args.profiles.now in
    let qs = c.args.others.now in
    let T = map (λ p. map (is_within p) qs) ps in
    let i = c.loop-i.i in
    let n = get_or c.args.from.now i 0 in
    let m = get_or c.args.to.now i 0 in
    let p = AllUnder-at (length ps) c.args.from.now i 0 c.requires.from c.loop-i-test.true in
    let q = AllUnder-at (length qs) c.args.to.now i 0 c.requires.to (omega arith) in
    let r = get_or_read ps n c.index-profiles-from.result p c.index-profiles-from.is [] in
    let s = get_or_read qs m c.index-others-to.result q c.index-others-to.is [] in
    c.loop-i.invariant ∙ fits-step T c.args.from.now c.args.to.now i c.loop-i-test.true (omega arith) ∙ ap (λ b. b && fits_row T (drop (i + 1) c.args.from.now) (drop (i + 1) c.args.to.now)) (answer-within ps qs n m p q ∙ ap₂ is_within (sym r) (sym s) ∙ sym c.within.ensures ∙ c.if-not-within.false)
