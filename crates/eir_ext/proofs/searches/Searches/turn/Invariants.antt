use Rattle.std.proofs.Common.{◌≡◌, ◌+◌, ◌≤◌}
use Rattle.eir_ext.specs.Searching.{AreSearches, GoOn, trial_of, turns_left}
use Rattle.eir_ext.proofs.searches.Searches.turn.Given as goal

abbrev pub invariant-searches : goal.invariant-searches
invariant-searches g l = record {
  searches : AreSearches l.self;
  go_on : GoOn (trial_of l.fn.self) (trial_of l.self) l.fn.fuel l.fuel;
  left : l.fuel.used + l.left ≡ l.fn.fuel.used + l.at_most;
  used : l.fn.fuel.used ≤ l.fuel.used;
  limit : l.fuel.limit ≡ l.fn.fuel.limit;
  steps : l.steps + l.fn.fuel.used ≡ l.fn.steps + l.fuel.used;
}

abbrev pub decreases-searches : goal.decreases-searches
decreases-searches g l = turns_left l.self
