use Rattle.std.proofs.Common.{◌≡◌, drop}
use Rattle.std.specs.List.{list_any}
use Rattle.eir_term.specs.Values.{val_eq}
use Rattle.eir_term.specs.Instances.{occurrences}
use Rattle.eir_inst.specs.Layers.{staying}
use Rattle.eir_inst.proofs.staying.has_value_among.Given as goal

abbrev pub invariant-loop-place : goal.invariant-loop-place
invariant-loop-place l = list_any (val_eq l.val) (occurrences (staying (drop l.place l.facts) (drop l.place l.gone))) ≡ list_any (val_eq l.val) (occurrences (staying l.facts l.gone))
