use Rattle.std.proofs.Common.{◌≡◌, filter, length, take}
use Rattle.eir_inst.specs.Keys.{has_key}
use Rattle.eir_inst.proofs.added.count_under.Given as goal

abbrev pub invariant-loop-fact : goal.invariant-loop-fact
invariant-loop-fact l = l.count ≡ length (filter (has_key l.key) (take l.fact-index l.facts))
