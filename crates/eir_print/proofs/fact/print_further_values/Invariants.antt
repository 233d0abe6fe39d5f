use Rattle.std.proofs.Common.{◌≡◌, ◌++◌, flat_map, take, codes}
use Rattle.eir_print.specs.Facts.{value_text}
use Rattle.eir_print.proofs.fact.print_further_values.Given as goal

abbrev pub invariant-loop-value : goal.invariant-loop-value
invariant-loop-value l = l.out ≡ l.initial.out ++ flat_map (λ v. codes "," ++ value_text l.nulls l.names v) (take l.value-index l.values)
