use Rattle.std.proofs.Common.{◌≡◌, drop}
use Rattle.eir_term.specs.Instances.{occurrences}
use Rattle.eir_verdict.specs.Foreign.{first_among}
use Rattle.eir_verdict.proofs.foreign.first_foreign_in.Given as goal

abbrev pub invariant-loop-place : goal.invariant-loop-place
invariant-loop-place l = first_among l.source.facts (occurrences (drop l.place l.target.facts)) ≡ first_among l.source.facts (occurrences l.target.facts)
