use Rattle.std.proofs.Common.{◌≡◌, map, take}
use Rattle.eir_term.specs.Profiles.{is_within}
use Rattle.eir_hom.proofs.fits.Answers.ask.Given as goal

abbrev pub invariant-loop-profile : goal.invariant-loop-profile
invariant-loop-profile g l = map (λ r. r.items) l.rows.items ≡ map (λ p. map (is_within p) l.to) (take l.profile-index l.from)
