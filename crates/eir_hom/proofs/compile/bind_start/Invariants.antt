use Rattle.std.proofs.Common.{◌≡◌, ◌∷◌, length, take}
use Rattle.eir_hom.specs.Compiling.{bindings_from}
use Rattle.eir_hom.proofs.compile.bind_start.Given as goal

abbrev pub invariant-loop-value : goal.invariant-loop-value
invariant-loop-value l =
    l.matcher ≡ record l.fn.matcher { start = (length l.images, 0) ∷ bindings_from 0 (take l.value l.images) }
