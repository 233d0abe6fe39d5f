use Rattle.std.proofs.Common.{◌≡◌, filter, slice_get, drop}
use Rattle.eir_inst.specs.Keys.{has_key}
use Rattle.eir_inst.proofs.added.nth_under.Given as goal

abbrev pub invariant-loop-fact : goal.invariant-loop-fact
invariant-loop-fact l = slice_get (filter (has_key l.key) l.facts) l.k ≡ slice_get (filter (has_key l.key) (drop l.fact-index l.facts)) l.left
