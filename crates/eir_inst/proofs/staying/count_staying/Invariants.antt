use Rattle.std.proofs.Common.{◌≡◌, filter, length, take}
use Rattle.eir_inst.specs.Layers.{stays}
use Rattle.eir_inst.proofs.staying.count_staying.Given as goal

abbrev pub invariant-loop-place : goal.invariant-loop-place
invariant-loop-place l = l.count ≡ length (filter (stays l.gone) (take l.place-index l.places))
