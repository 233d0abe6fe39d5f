use Rattle.std.proofs.Common.{take}
use Rattle.eir_term.specs.Lists.{◌∈◌}
use Rattle.eir_inst.proofs.added.place_among.Given as goal

abbrev pub invariant-loop-place : goal.invariant-loop-place
invariant-loop-place l = l.fact ∈ take l.place l.facts → ⊥
