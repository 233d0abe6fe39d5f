use Rattle.std.proofs.Common.{◌≡◌, ◌++◌, filter, flat_map, take}
use Rattle.eir_term.specs.Values.{is_const}
use Rattle.eir_print.specs.Verdicts.{moved_text}
use Rattle.eir_print.proofs.verdict.print_moved_constants.Given as goal

abbrev pub invariant-loop-place : goal.invariant-loop-place
invariant-loop-place l = l.out ≡ l.initial.out ++ flat_map (moved_text l.names l.map) (filter is_const (take l.place l.values))
