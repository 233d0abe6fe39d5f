use Rattle.std.proofs.Common.{◌≡◌, map, take}
use Rattle.eir_term.specs.Profiles.{is_within}
use Rattle.eir_hom.proofs.fits.ask_one.Given as goal

abbrev pub invariant-loop-other : goal.invariant-loop-other
invariant-loop-other g l = l.row.items ≡ map (is_within l.profile) (take l.other-index l.to)
