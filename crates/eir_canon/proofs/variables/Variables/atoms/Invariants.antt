use Rattle.std.proofs.Common.{◌≡◌, map, take}
use Rattle.eir_term.specs.Canonical.{atom_of}
use Rattle.eir_canon.proofs.variables.Variables.atoms.Given as goal

abbrev pub invariant-loop-fact : goal.invariant-loop-fact
invariant-loop-fact l = l.atoms.items ≡ map (atom_of l.self) (take l.fact-index l.facts)
