use Rattle.std.proofs.Common.{◌≡◌, ◌++◌, flat_map, take, codes}
use Rattle.eir_print.specs.Dependencies.{variable_text}
use Rattle.eir_print.proofs.numbered.Numbered.print_variables.Given as goal

abbrev pub invariant-loop-variable : goal.invariant-loop-variable
invariant-loop-variable l = l.out ≡ l.initial.out ++ flat_map (λ x. codes " " ++ variable_text l.self x) (take l.variable-index l.variables)
