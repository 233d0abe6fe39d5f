use Rattle.std.proofs.Common.{◌≡◌, ◌++◌, ◌-◌, ◌≤◌, length}
use Rattle.eir_inst.specs.Grown.{blank}
use Rattle.eir_inst.proofs.profiles.widen.Given as goal

abbrev pub invariant-loop : goal.invariant-loop
invariant-loop l = record {
  items : l.profiles.items ≡ l.fn.profiles.items ++ blank (l.counter - length l.fn.profiles.items);
  few : l.counter - length l.fn.profiles.items ≤ l.count - length l.fn.profiles.items;
}
