use Rattle.std.proofs.Common.{◌≡◌, ◌++◌, flat_map, take}
use Rattle.eir_print.specs.Words.{text_line}
use Rattle.eir_print.proofs.reduced.print_lines.Given as goal

abbrev pub invariant-loop-text : goal.invariant-loop-text
invariant-loop-text l = l.out ≡ l.initial.out ++ flat_map text_line (take l.text-index l.texts)
