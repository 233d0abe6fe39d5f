-- Counts of facts by relation (this project's own).
--   AreCounts B cs  == each count that is there is that of the facts of its relation in B
use Rattle.std.specs.Prelude.{◌≡◌, ℕ, List, Option, Some, slice_get}
use Rattle.eir_term.specs.declared.fact.Fact.{Fact}
use Rattle.eir_term.specs.Plans.{count_of}
use Rattle.eir_hom.specs.declared.counts.Count.{Count}

-- each count that is there is that of the facts of its relation in B
abbrev pub AreCounts : List Fact → List (Option Count) → Type 0
AreCounts B cs = (k : ℕ) (c : Count) → slice_get cs k ≡ Some (Some c) → c.facts ≡ count_of c.rel B
