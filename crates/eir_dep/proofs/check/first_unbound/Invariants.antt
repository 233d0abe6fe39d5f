use Rattle.std.proofs.Common.{ℕ, ◌++◌, take}
use Rattle.eir_term.specs.Lists.{◌∈◌}
use Rattle.eir_term.specs.Dependencies.{vars}
use Rattle.eir_dep.proofs.check.first_unbound.Given as goal

abbrev pub invariant-loop-atom : goal.invariant-loop-atom
invariant-loop-atom l = (x : ℕ) → x ∈ vars (take l.atom-index l.conclusion) → x ∈ (vars l.premise ++ l.exists)
