use Rattle.std.proofs.Common.{◌≡◌, ◌++◌, take}
use Rattle.eir_inst.specs.Layers.{staying}
use Rattle.eir_inst.proofs.staying.push_staying.Given as goal

abbrev pub invariant-loop-place : goal.invariant-loop-place
invariant-loop-place l = l.to.facts ≡ l.fn.to.facts ++ staying (take l.place l.facts) (take l.place l.gone)
