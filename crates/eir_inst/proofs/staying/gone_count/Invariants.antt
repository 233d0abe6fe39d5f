use Rattle.std.proofs.Common.{◌≡◌, filter, length, take}
use Rattle.eir_inst.proofs.staying.gone_count.Given as goal

abbrev pub invariant-loop-gone : goal.invariant-loop-gone
invariant-loop-gone l = l.count ≡ length (filter (λ g. g) (take l.gone-index l.gone))
