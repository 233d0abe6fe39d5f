use Rattle.std.proofs.Common.{◌≡◌, ◌≤◌, take, filter, vec_capacity}
use Rattle.eir_hom.specs.FactRows.{numbers_at}
use Rattle.eir_hom.specs.Fits.{are_fits, fits_row}
use Rattle.eir_hom.proofs.stock.gather.Given as goal

abbrev pub invariant-loop-place : goal.invariant-loop-place
invariant-loop-place l = record {
  gathered : l.places.items ≡ filter (λ p. fits_row (are_fits l.a.facts l.b.facts) l.row (numbers_at l.b.facts p)) (take l.place-index l.place-items);
  capacity : vec_capacity l.initial.places ≤ vec_capacity l.places;
}
