use Rattle.std.proofs.Common.{◌≡◌, ◌++◌, flat_map, take}
use Rattle.eir_print.specs.Replies.{stored_line}
use Rattle.eir_print.proofs.exchange.print_files.Given as goal

abbrev pub invariant-loop-file : goal.invariant-loop-file
invariant-loop-file l = l.out ≡ l.initial.out ++ flat_map stored_line (take l.file-index l.files)
