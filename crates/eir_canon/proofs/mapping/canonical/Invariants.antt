use Rattle.std.proofs.Common.{◌≡◌, take}
use Rattle.eir_term.specs.Canonical.{canon}
use Rattle.eir_edit.specs.Pairs.{pairs_of}
use Rattle.eir_canon.proofs.mapping.canonical.Given as goal

abbrev pub invariant-loop-example : goal.invariant-loop-example
invariant-loop-example l = l.mapping ≡ canon l.kind (pairs_of (take l.example-index l.examples))
