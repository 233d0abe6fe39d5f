-- A matcher whose levels are compiled as the search first comes to them (this project's own).
--   all_levels A m   == the levels for the shapes of a matcher, in plan order
--   IsCut A m        == the levels of a matcher are the first of these, and the others can follow them
--   IsReached A m    == the level behind those that are placed is there, if there is one
use Rattle.std.specs.Prelude.{◌≡◌, ◌<◌, ◌≤◌, List, map, length, take}
use Rattle.eir_term.specs.declared.fact.Fact.{Fact}
use Rattle.eir_term.specs.Instances.{values}
use Rattle.eir_hom.specs.Matching.{Level, Match}
use Rattle.eir_hom.specs.Compiling.{AreReadyDrafts, draft_level, drafts_of}

-- the levels for the shapes of a matcher, in plan order
abbrev pub all_levels : List Fact → Match → List Level
all_levels A m = map (draft_level A m.tables) (drafts_of 0 m.shapes)

-- the levels of a matcher are the first of these, at most these are placed, and the others can follow them
pub record IsCut (A : List Fact) (m : Match) : Type 0 where
  pub facts : length m.shapes ≡ length A
  pub slots : length (values A) < m.slots
  pub ready : AreReadyDrafts A m.tables (map (λ p. p.0) m.start) (drafts_of 0 m.shapes)
  pub levels : m.levels ≡ take (length m.levels) (all_levels A m)
  pub deep : length m.placed ≤ length m.levels

-- the level behind those that are placed is there, if there is one
abbrev pub IsReached : List Fact → Match → Type 0
IsReached A m = length m.levels < length A → length m.placed < length m.levels
