use Rattle.std.proofs.Common.{◌≡◌, filter, slice_get, drop}
use Rattle.eir_inst.specs.Layers.{stays}
use Rattle.eir_inst.proofs.staying.nth_staying.Given as goal

abbrev pub invariant-loop-place : goal.invariant-loop-place
invariant-loop-place l = slice_get (filter (stays l.gone) l.places) l.k ≡ slice_get (filter (stays l.gone) (drop l.place-index l.places)) l.left
