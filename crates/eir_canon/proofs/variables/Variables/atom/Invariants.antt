use Rattle.std.proofs.Common.{◌≡◌, map, take}
use Rattle.eir_term.specs.Canonical.{term_of}
use Rattle.eir_canon.proofs.variables.Variables.atom.Given as goal

abbrev pub invariant-loop-value : goal.invariant-loop-value
invariant-loop-value l = l.terms.items ≡ map (term_of l.self) (take l.value-index l.values)
