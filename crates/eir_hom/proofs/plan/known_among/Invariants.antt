use Rattle.std.proofs.Common.{◌≡◌, ◌≤◌, filter, length, take}
use Rattle.eir_hom.specs.Occurring.{is_marked}
use Rattle.eir_hom.proofs.plan.known_among.Given as goal

abbrev pub invariant-loop-value : goal.invariant-loop-value
invariant-loop-value l = record {
  known : l.count ≡ length (filter (is_marked l.known) (take l.value-index l.row));
  within : l.count ≤ l.value-index;
}
