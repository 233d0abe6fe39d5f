use Rattle.std.proofs.Common.{◌≡◌, filter, take}
use Rattle.eir_term.specs.Values.{is_const}
use Rattle.eir_canon.proofs.variables.Variables.of_constants.Given as goal

abbrev pub invariant-loop-value : goal.invariant-loop-value
invariant-loop-value l = l.variables ≡ filter is_const (take l.value-index l.value-items)
