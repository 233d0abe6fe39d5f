use Rattle.std.proofs.Common.{◌≡◌, take}
use Rattle.eir_dep.proofs.mapping.deps_copy.Given as goal

abbrev pub invariant-loop-dep : goal.invariant-loop-dep
invariant-loop-dep l = l.copies.items ≡ take l.dep-index l.deps
