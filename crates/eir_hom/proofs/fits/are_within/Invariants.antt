use Rattle.std.proofs.Common.{◌≡◌, map, drop}
use Rattle.eir_term.specs.Profiles.{is_within}
use Rattle.eir_hom.specs.Fits.{fits_row}
use Rattle.eir_hom.proofs.fits.are_within.Given as goal

abbrev pub invariant-loop-i : goal.invariant-loop-i
invariant-loop-i l =
    fits_row (map (λ p. map (is_within p) l.others) l.profiles) l.from l.to ≡ fits_row (map (λ p. map (is_within p) l.others) l.profiles) (drop l.i l.from) (drop l.i l.to)
