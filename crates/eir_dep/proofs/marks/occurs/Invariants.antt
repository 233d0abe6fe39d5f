use Rattle.std.proofs.Common.{take}
use Rattle.eir_term.specs.Lists.{◌∈◌}
use Rattle.eir_term.specs.Dependencies.{vars}
use Rattle.eir_dep.proofs.marks.occurs.Given as goal

abbrev pub invariant-loop-atom : goal.invariant-loop-atom
invariant-loop-atom l = l.v ∈ vars (take l.atom-index l.atoms) → ⊥
