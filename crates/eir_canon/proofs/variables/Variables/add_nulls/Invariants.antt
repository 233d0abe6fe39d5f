use Rattle.std.proofs.Common.{◌≡◌, ◌++◌, filter, length, take}
use Rattle.eir_term.specs.Values.{is_null}
use Rattle.eir_term.specs.Canonical.{numbers}
use Rattle.eir_canon.proofs.variables.Variables.add_nulls.Given as goal

abbrev pub invariant-loop-value : goal.invariant-loop-value
invariant-loop-value l = record {
  all : l.self ≡ l.initial.self ++ filter is_null (take l.value-index l.value-items);
  told : l.told.items ≡ numbers (length l.initial.self) (filter is_null (take l.value-index l.value-items));
}
