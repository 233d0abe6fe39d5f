use Rattle.std.proofs.Common.{◌≡◌, drop}
use Rattle.eir_hom.specs.Fits.{fits_row}
use Rattle.eir_hom.proofs.fits.Answers.are_yes.Given as goal

abbrev pub invariant-loop-i : goal.invariant-loop-i
invariant-loop-i l = fits_row l.self l.from l.to ≡ fits_row l.self (drop l.i l.from) (drop l.i l.to)
