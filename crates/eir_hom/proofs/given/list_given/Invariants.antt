use Rattle.std.proofs.Common.{◌≡◌, length}
use Rattle.eir_hom.specs.Listings.{AreEntries}
use Rattle.eir_hom.proofs.given.list_given.Given as goal

abbrev pub invariant-loop-pair : goal.invariant-loop-pair
invariant-loop-pair l = AreEntries l.source.facts l.pair-items l.given.items × (length l.given.items ≡ l.pair-index)
