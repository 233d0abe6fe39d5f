use Rattle.std.proofs.Common.{take}
use Rattle.eir_script.specs.Grammar.{AreGaps}
use Rattle.eir_script.proofs.blank.after_gaps.Given as goal

abbrev pub invariant-loop-place : goal.invariant-loop-place
invariant-loop-place l = AreGaps (take l.place l.bytes)
