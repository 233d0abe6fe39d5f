use Rattle.std.proofs.Common.{◌≡◌, ◌++◌, flat_map, take}
use Rattle.eir_print.specs.Facts.{chased_line}
use Rattle.eir_print.proofs.chased.print_facts.Given as goal

abbrev pub invariant-loop-place : goal.invariant-loop-place
invariant-loop-place l = l.out ≡ l.initial.out ++ flat_map (chased_line l.schema l.names) (take l.place l.facts.facts)
