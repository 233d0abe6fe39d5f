use Rattle.std.proofs.Common.{◌≡◌, ◌≤◌, ◌++◌, length, take, drop}
use Rattle.eir_hom.specs.Levels.{given_values}
use Rattle.eir_hom.specs.Listings.{AreEntries}
use Rattle.eir_hom.proofs.RestartLaws.{bindings_at}
use Rattle.eir_hom.proofs.restart.give_pairs.Given as goal

abbrev pub invariant-pairs : goal.invariant-pairs
invariant-pairs l =
    (l.matcher ≡ record l.fn.matcher { start = bindings_at l.source.facts l.target.facts (given_values l.source.facts l.was.value) (take l.place l.pairs ++ l.was.value) })
    × AreEntries l.source.facts (take l.place l.pairs ++ drop l.place l.was.value) l.given
    × (length l.given ≤ length l.pairs)
