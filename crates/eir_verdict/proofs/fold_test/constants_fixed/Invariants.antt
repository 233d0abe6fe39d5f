use Rattle.std.proofs.Common.{◌≡◌, filter, take}
use Rattle.eir_term.specs.Values.{is_const}
use Rattle.eir_term.specs.Maps.{graph}
use Rattle.eir_verdict.proofs.fold_test.constants_fixed.Given as goal

abbrev pub invariant-loop-value : goal.invariant-loop-value
invariant-loop-value l = l.map ≡ graph (λ v. v) (filter is_const (take l.value-index l.value-items))
