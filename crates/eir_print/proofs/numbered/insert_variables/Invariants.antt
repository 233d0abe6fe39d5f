use Rattle.std.proofs.Common.{◌≡◌, nat_eq, drop}
use Rattle.indexmap.specs.IndexSet.{insert_all}
use Rattle.eir_term.specs.Dependencies.{term_vars}
use Rattle.eir_print.proofs.numbered.insert_variables.Given as goal

abbrev pub invariant-loop-term : goal.invariant-loop-term
invariant-loop-term l = insert_all nat_eq l.found.keys (term_vars (drop l.term-index l.terms)) ≡ insert_all nat_eq l.initial.found.keys (term_vars l.terms)
