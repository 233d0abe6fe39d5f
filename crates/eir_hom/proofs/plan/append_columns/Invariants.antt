use Rattle.std.proofs.Common.{◌≡◌, ◌++◌, take}
use Rattle.eir_hom.specs.Occurring.{columns_with}
use Rattle.eir_hom.proofs.plan.append_columns.Given as goal

abbrev pub invariant-loop-value : goal.invariant-loop-value
invariant-loop-value l = l.columns.items ≡ l.fn.columns.items ++ columns_with l.place (take l.value-index l.row)
