use Rattle.std.proofs.Common.{◌≡◌, ◌<◌, length, sym, ap, arith}
use Rattle.eir_term.specs.Instances.{values}
use Rattle.eir_hom.specs.Fits.{are_fits}
use Rattle.eir_hom.proofs.FitLaws.{fits-none}
use Rattle.eir_hom.proofs.StockLaws.{length-fits, length-answers}
use Rattle.eir_hom.proofs.fits.Fits.pass.Goals as goal

pub returns-then-from-to : goal.returns-then-from-to
returns-then-from-to c = sym (fits-none (are_fits c.args.a.now.facts c.args.b.now.facts) c.args.from.now c.args.to.now c.if-from-to.true)

pub are_yes-requires-clause-to : goal.are_yes-requires-clause-to
are_yes-requires-clause-to c = λ k h.
    let A = c.args.a.now.facts in
    let B = c.args.b.now.facts in
    let e : c.in-Answered.answers ≡ are_fits A B = rw c.in-Answered.is at c.requires.fits in
    let below : k < length (values A) = omega (arith, ap length e, length-fits A B) in
    rw (e, length-answers A B k below) c.requires.to
