-- The two searches of the test of a pair, and what is true of them at each stage (this project's own).
--   AreNumbers vs us ns    == ns are the places of the values us among vs
--   first_of s, second_of s == the pair that is tested
--   extension_need e f hs  == the tries that listing the extensions of these homomorphisms takes
--   trial_of s             == what a contract sees of the searches
--   first_trial e f hs     == the trial where the search between the sources has found its first homomorphism
--   IsAt stage e f hs xs   == what is true at the stage of the searches between the sources and between the targets
--   AreSearches s          == all that is true of the searches of a test
--   turns_left s           == the most searches that are still to be gone on with
--   EndsAs result ..       == how a turn ends, by the trial before and after, the most tries, and the fuel before and after
--   GoOn old new f g       == the trial before and after, where the fuel was f and is g
use Rattle.std.specs.Prelude.{◌≡◌, ℕ, suc, ◌+◌, ◌-◌, ◌<◌, ◌≤◌, List, [], ◌∷◌, map, length, Option, Some, None, IsSome, find, slice_get}
use Rattle.eir_term.specs.declared.val.Val.{Val}
use Rattle.eir_term.specs.Lists.{◌∈◌}
use Rattle.eir_term.specs.Instances.{values, consts}
use Rattle.eir_term.specs.Maps.{domain_of}
use Rattle.eir_term.specs.Fitting.{DataExample}
use Rattle.eir_term.specs.Search.{homs, need, start_of, total}
use Rattle.eir_term.specs.Verdicts.{is_stuck, first_refuting}
use Rattle.eir_search.specs.Standings.{Allowance}
use Rattle.eir_hom.specs.Progress.{Progress}
use Rattle.eir_ext.specs.Trials.{Trial}
use Rattle.eir_ext.specs.declared.turn.Turn.{Turn}
use Rattle.eir_ext.specs.declared.turn.Turn.TheVariants as turn
use Rattle.eir_ext.specs.declared.searches.Stage.{Stage}
use Rattle.eir_ext.specs.declared.searches.Stage.TheVariants.{Sources, Targets, Extends, Fails}
use Rattle.eir_ext.specs.declared.searches.Searches.{Searches}

-- these are the places of the values us among vs, one by one
abbrev pub AreNumbers : List Val → List Val → List ℕ → Type 0
AreNumbers vs us ns = map (slice_get vs) ns ≡ map Some us

-- the first example of the pair
abbrev pub first_of : Searches → DataExample
first_of s = record { source = s.sources.source; target = s.targets.source }

-- the second one
abbrev pub second_of : Searches → DataExample
second_of s = record { source = s.sources.target; target = s.targets.target }

-- the tries that listing the extensions of each of these homomorphisms takes
abbrev pub extension_need : DataExample → DataExample → List (List (Val × Val)) → ℕ
extension_need e f hs = total (λ h. need e.target f.target (start_of e h)) hs

-- the homomorphism that refutes, where one does
abbrev pub refuting_at : Stage → Option (List (Val × Val)) → Option (List (Val × Val))
refuting_at Sources found = None
refuting_at Targets found = None
refuting_at Extends found = None
refuting_at Fails found = found

-- the most tries that are still to come
abbrev pub tries_at : Stage → DataExample → DataExample → Progress → Progress → ℕ
tries_at Sources e f hs xs = hs.tries + extension_need e f hs.to_come
tries_at Targets e f hs xs = hs.tries + xs.tries + extension_need e f hs.to_come
tries_at Extends e f hs xs = 0
tries_at Fails e f hs xs = 0

-- what a contract sees of the searches
abbrev pub trial_of : Searches → Trial
trial_of s = record {
  first = first_of s;
  second = second_of s;
  refuting = refuting_at s.stage s.sources.found;
  tries = tries_at s.stage (first_of s) (second_of s) s.sources s.targets;
  source_tries = s.sources.tries;
}

-- the trial where the search between the sources has found its first homomorphism
abbrev pub first_trial : DataExample → DataExample → Progress → Trial
first_trial e f hs = record {
  first = e;
  second = f;
  refuting = None;
  tries = hs.tries + extension_need e f (homs e.source f.source []);
  source_tries = hs.tries;
}

-- the search between the targets goes through the extensions of a homomorphism between the sources, and this one or one
-- of those to come is the first that refutes, if any does
pub record IsExtending (e f : DataExample) (hs xs : Progress) : Type 0 where
  pub hom : List (Val × Val)
  pub found : hs.found ≡ Some hom
  pub to_come : xs.to_come ≡ homs e.target f.target (start_of e hom)
  pub same : find (is_stuck e f) (hom ∷ hs.to_come) ≡ first_refuting e f

-- what is true at the stage
abbrev pub IsAt : Stage → DataExample → DataExample → Progress → Progress → Type 0
IsAt Sources e f hs xs = find (is_stuck e f) hs.to_come ≡ first_refuting e f
IsAt Targets e f hs xs = IsExtending e f hs xs
IsAt Extends e f hs xs = (first_refuting e f ≡ None) × (hs.tries ≡ 0)
IsAt Fails e f hs xs = IsSome hs.found × (hs.found ≡ first_refuting e f)

-- what is true of the searches of a test
pub record AreSearches (s : Searches) : Type 0 where
  pub numbers : AreNumbers (values s.sources.source) (consts s.targets.source) s.numbers.items
  pub names : domain_of s.start ≡ consts s.targets.source
  pub begun : s.targets.start ≡ s.start
  pub named : (h : List (Val × Val)) → h ∈ s.sources.to_come → domain_of h ≡ values s.sources.source
  pub stage : IsAt s.stage (first_of s) (second_of s) s.sources s.targets

-- the searches that are still to be gone on with, where so many homomorphisms are to come
abbrev pub turns_at : Stage → ℕ → ℕ
turns_at Sources n = n + n
turns_at Targets n = suc (n + n)
turns_at Extends n = 0
turns_at Fails n = 0

-- the most searches that are still to be gone on with
abbrev pub turns_left : Searches → ℕ
turns_left s = turns_at s.stage (length s.sources.to_come)

-- how a turn of so many tries at most ends; nothing where another search is next
abbrev pub EndsAs : Option Turn → Trial → Trial → ℕ → Allowance → Allowance → Type 0
EndsAs None old new at_most f g = Unit {0}
EndsAs (Some turn.Going) old new at_most f g = (g.used ≡ f.used + at_most) × (g.used < g.limit) × (0 < new.tries)
EndsAs (Some turn.Extends) old new at_most f g = (first_refuting old.first old.second ≡ None) × (new.tries ≡ 0) × (new.source_tries ≡ 0)
EndsAs (Some turn.Fails) old new at_most f g = IsSome new.refuting × (new.refuting ≡ first_refuting old.first old.second) × (new.tries ≡ 0)
EndsAs (Some turn.Spent) old new at_most f g = (g.used ≡ g.limit) × (0 < new.tries)

-- the searches go on by the tries that the fuel tells
pub record GoOn (old new : Trial) (f g : Allowance) : Type 0 where
  pub first : new.first ≡ old.first
  pub second : new.second ≡ old.second
  pub tries : (g.used - f.used) + new.tries ≤ old.tries
  pub source_tries : old.source_tries ≤ (g.used - f.used) + new.source_tries
