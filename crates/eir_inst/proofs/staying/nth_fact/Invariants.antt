use Rattle.std.proofs.Common.{◌≡◌, slice_get, drop}
use Rattle.eir_inst.specs.Layers.{staying}
use Rattle.eir_inst.proofs.staying.nth_fact.Given as goal

abbrev pub invariant-loop-place : goal.invariant-loop-place
invariant-loop-place l = slice_get (staying l.facts l.gone) l.k ≡ slice_get (staying (drop l.place l.facts) (drop l.place l.gone)) l.left
