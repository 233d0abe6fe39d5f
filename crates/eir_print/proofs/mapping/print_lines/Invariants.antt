use Rattle.std.proofs.Common.{◌≡◌, ◌++◌, ◌-◌, ◌≤◌, take, drop}
use Rattle.eir_print.specs.Dependencies.{mapping_text}
use Rattle.eir_print.proofs.mapping.print_lines.Given as goal

abbrev pub invariant-loop-place : goal.invariant-loop-place
invariant-loop-place l = record {
  out : l.out ≡ l.initial.out ++ mapping_text l.schema (take (l.place - 1) (drop 1 l.mapping));
  further : 1 ≤ l.place;
  schema : l.opening.1 ≡ l.schema;
}
