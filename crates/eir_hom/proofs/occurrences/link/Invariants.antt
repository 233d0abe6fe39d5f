use Rattle.std.proofs.Common.{◌≡◌, ◌≤◌, length}
use Rattle.eir_hom.specs.Occurring.{AreLinkedFrom}
use Rattle.eir_hom.proofs.occurrences.link.Given as goal

abbrev pub invariant-loop-place : goal.invariant-loop-place
invariant-loop-place l = record {
  within : l.place ≤ length l.columns;
  values : length l.firsts ≡ length l.fn.firsts;
  linked : AreLinkedFrom l.columns l.place l.firsts l.nexts;
}

abbrev pub decreases-loop-place : goal.decreases-loop-place
decreases-loop-place l = l.place
