use Rattle.std.proofs.Common.{◌≡◌, map, take}
use Rattle.eir_hom.specs.Counts.{AreCounts}
use Rattle.eir_hom.specs.Fronts.{AreViews, first_seat}
use Rattle.eir_hom.proofs.plan.seats_of.Given as goal

abbrev pub invariant-loop-place : goal.invariant-loop-place
invariant-loop-place l = record {
  seats : l.seats.items ≡ map (first_seat l.b.facts l.start) (take l.place l.a.facts);
  views : AreViews l.seats.items;
  counts : AreCounts l.b.facts l.counts;
}
