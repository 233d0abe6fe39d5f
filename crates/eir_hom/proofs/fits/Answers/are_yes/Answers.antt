use Rattle.std.proofs.Common.{◌≡◌, ◌<◌, ◌∙◌, ◌+◌, ◌&&◌, [], false, length, drop, get_or, sym, ap, arith}
use Rattle.std.proofs.lemmas.List.{get_or_read, get_or-map, length-map}
use Rattle.eir_hom.specs.Fits.{fits_row}
use Rattle.eir_hom.proofs.FitLaws.{AllUnder-at, fits-step}
use Rattle.eir_hom.proofs.fits.Answers.are_yes.Goals as goal

pub index-requires : goal.index-requires
index-requires c =
    let p = AllUnder-at (length c.args.self.now) c.args.from.now c.loop-i.i 0 c.requires.from c.loop-i-test.true in
    omega (arith, p, ap length c.self.view_is, length-map c.self.inside.rows.items (λ r. r.items), c.self.inside.rows.ok.0)

pub index-requires-in-loop-i : goal.index-requires-in-loop-i
index-requires-in-loop-i c =
    let n = get_or c.args.from.now c.loop-i.i 0 in
    let p = AllUnder-at (length c.args.self.now) c.args.from.now c.loop-i.i 0 c.requires.from c.loop-i-test.true in
    let below : n < length c.self.inside.rows.items = omega (arith, p, ap length c.self.view_is, length-map c.self.inside.rows.items (λ r. r.items)) in
    let row : get_or c.args.self.now n [] ≡ c.index.result.now.items = ap (λ xs. get_or xs n []) (sym c.self.view_is) ∙ get_or-map (λ r. r.items) c.self.inside.rows.items n c.index.result.now [] below ∙ ap (λ r. r.items) (sym c.index.ensures) in
    let q = AllUnder-at (length (get_or c.args.self.now n [])) c.args.to.now c.loop-i.i 0 (c.requires.to n p) (omega arith) in
    omega (arith, q, ap length row, c.index.result.now.ok.0)

pub loop-i-preserved : goal.loop-i-preserved
loop-i-preserved c =
    let T = c.args.self.now in
    let i = c.loop-i.i in
    let n = get_or c.args.from.now i 0 in
    let m = get_or c.args.to.now i 0 in
    let p = AllUnder-at (length T) c.args.from.now i 0 c.requires.from c.loop-i-test.true in
    let below : n < length c.self.inside.rows.items = omega (arith, p, ap length c.self.view_is, length-map c.self.inside.rows.items (λ r. r.items)) in
    let row : get_or T n [] ≡ c.index.result.now.items = ap (λ xs. get_or xs n []) (sym c.self.view_is) ∙ get_or-map (λ r. r.items) c.self.inside.rows.items n c.index.result.now [] below ∙ ap (λ r. r.items) (sym c.index.ensures) in
    let q = AllUnder-at (length (get_or T n [])) c.args.to.now i 0 (c.requires.to n p) (omega arith) in
    let answer = get_or_read c.index.result.now.items m c.index-in-loop-i.result.now (omega (arith, q, ap length row)) c.index-in-loop-i.ensures false in
    c.loop-i.invariant ∙ fits-step T c.args.from.now c.args.to.now i c.loop-i-test.true (omega arith) ∙ ap (λ b. b && fits_row T (drop (i + 1) c.args.from.now) (drop (i + 1) c.args.to.now)) (ap (λ xs. get_or xs m false) row ∙ sym answer ∙ c.if-not-index.false)
