use Rattle.std.proofs.Common.{◌≡◌, ◌++◌, flat_map, take, codes}
use Rattle.eir_print.specs.Dependencies.{atom_text}
use Rattle.eir_print.proofs.dependency.print_further_atoms.Given as goal

abbrev pub invariant-loop-atom : goal.invariant-loop-atom
invariant-loop-atom l = l.out ≡ l.initial.out ++ flat_map (λ a. codes " & " ++ atom_text l.schema l.numbered a) (take l.atom-index l.atoms)
