use Rattle.std.proofs.Common.{◌≡◌, [], nat_eq, drop}
use Rattle.indexmap.specs.IndexSet.{insert_all}
use Rattle.eir_term.specs.Dependencies.{vars}
use Rattle.eir_print.proofs.numbered.variables_in.Given as goal

abbrev pub invariant-loop-atom : goal.invariant-loop-atom
invariant-loop-atom l = insert_all nat_eq l.found.keys (vars (drop l.atom-index l.atoms)) ≡ insert_all nat_eq [] (vars l.atoms)
