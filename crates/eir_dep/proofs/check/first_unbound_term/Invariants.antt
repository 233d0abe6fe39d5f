use Rattle.std.proofs.Common.{ℕ, ◌++◌, take}
use Rattle.eir_term.specs.Lists.{◌∈◌}
use Rattle.eir_term.specs.Dependencies.{term_vars, vars}
use Rattle.eir_dep.proofs.check.first_unbound_term.Given as goal

abbrev pub invariant-loop-term : goal.invariant-loop-term
invariant-loop-term l = (x : ℕ) → x ∈ term_vars (take l.term-index l.terms) → x ∈ (vars l.premise ++ l.exists)
