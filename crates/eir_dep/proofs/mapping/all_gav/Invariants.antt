use Rattle.std.proofs.Common.{take}
use Rattle.eir_term.specs.declared.val.Kind.TheVariants.{Gav}
use Rattle.eir_term.specs.Dependencies.{IsMapping}
use Rattle.eir_dep.proofs.mapping.all_gav.Given as goal

abbrev pub invariant-loop-dep : goal.invariant-loop-dep
invariant-loop-dep l = IsMapping Gav (take l.dep-index l.deps)
