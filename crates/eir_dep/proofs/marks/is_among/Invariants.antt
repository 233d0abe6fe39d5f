use Rattle.std.proofs.Common.{take}
use Rattle.eir_term.specs.Lists.{◌∈◌}
use Rattle.eir_term.specs.Dependencies.{term_vars}
use Rattle.eir_dep.proofs.marks.is_among.Given as goal

abbrev pub invariant-loop-term : goal.invariant-loop-term
invariant-loop-term l = l.v ∈ term_vars (take l.term-index l.terms) → ⊥
