use Rattle.std.proofs.Common.{◌≡◌, drop}
use Rattle.eir_term.specs.Maps.{get}
use Rattle.eir_term.proofs.map.image_in.Given as goal

abbrev pub invariant-loop-pair : goal.invariant-loop-pair
invariant-loop-pair l = get l.pairs l.v ≡ get (drop l.pair-index l.pairs) l.v
