use Rattle.std.proofs.Common.{◌≡◌, ◌++◌, take, drop}
use Rattle.eir_term.specs.Maps.{with_image}
use Rattle.eir_term.proofs.map.set_image_in.Given as goal

abbrev pub invariant-loop-pair : goal.invariant-loop-pair
invariant-loop-pair l = l.pair-items ≡ with_image (take l.pair-index l.fn.pairs) l.v l.w ++ drop l.pair-index l.fn.pairs
