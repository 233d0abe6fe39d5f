use Rattle.std.proofs.Common.{◌≡◌, drop}
use Rattle.eir_verdict.specs.Foreign.{first_among}
use Rattle.eir_verdict.proofs.foreign.first_foreign_among.Given as goal

abbrev pub invariant-loop-value : goal.invariant-loop-value
invariant-loop-value l = first_among l.source.facts (drop l.value-index l.values) ≡ first_among l.source.facts l.values
