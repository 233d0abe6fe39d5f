-- The headline, for both kinds of mapping: the verdict is right (Alexe, ten Cate, Kolaitis, Tan 2011, for GLAV; the
-- condition for GAV, the faults, and the order of the verdict's parts, are this project's own).
-- 'Some mapping', 'no mapping' and 'every mapping' range over all finite lists of well-formed dependencies of the kind,
-- not over those alone that the program prints. A mapping 'fits' if each example's target is a universal solution of
-- its source: the two satisfy the mapping, and the target maps into every other solution with constants fixed. A
-- mapping is 'implied' by another if each pair of finite instances that satisfies the other satisfies it.
--   AllSources E            == no source has a null
--   SomeFits kind E         == some mapping of the kind fits
--   NoneFits kind E         == no mapping of the kind fits
--   IsMostGeneral kind E M  == M is a mapping of the kind that fits and is implied by every one that fits
--   Says kind E finding     == what the finding says of the examples
--   Headline kind           == the verdict says what holds, and finds a mapping exactly where some mapping fits
use Rattle.std.specs.Prelude.{◌≡◌, ◌↔◌, List, IsSomeAnd, slice_get}
use Rattle.eir_term.specs.declared.val.Kind.{Kind}
use Rattle.eir_term.specs.declared.val.Kind.TheVariants.{Glav, Gav}
use Rattle.eir_term.specs.Lists.{◌∈◌}
use Rattle.eir_term.specs.Instances.{IsSource}
use Rattle.eir_term.specs.Dependencies.{Dependency, IsMapping}
use Rattle.eir_term.specs.Fitting.{DataExample, Fits}
use Rattle.eir_term.specs.Implication.{Implies}
use Rattle.eir_term.specs.Extension.{Refutes}
use Rattle.eir_term.specs.Faults.{IsForeign, Folds}
use Rattle.eir_term.specs.Verdicts.{Finding, foreign_at, no_fold_at, refuted, fits, verdict}

-- no source has a null
abbrev pub AllSources : List DataExample → Type 0
AllSources E = (e : DataExample) → e ∈ E → IsSource e.source

-- some mapping of the kind fits
abbrev pub SomeFits : Kind → List DataExample → Type 0
SomeFits kind E = (M : List Dependency) × IsMapping kind M × Fits M E

-- no mapping of the kind fits
abbrev pub NoneFits : Kind → List DataExample → Type 0
NoneFits kind E = (M : List Dependency) → IsMapping kind M → Fits M E → ⊥

-- M is a mapping of the kind, fits, and is implied by every mapping of the kind that fits
pub record IsMostGeneral (kind : Kind) (E : List DataExample) (M : List Dependency) : Type 0 where
  pub mapping : IsMapping kind M
  pub fitting : Fits M E
  pub implied : (N : List Dependency) → IsMapping kind N → Fits N E → Implies N M

-- what a finding says: the example at place i has the foreign constant v, or its target does not fold, or h is a
-- homomorphism between the sources at places i and j that does not extend, and no mapping of the kind fits; or M is the
-- most general mapping of the kind that fits. That a target does not fold is no fault for GLAV, and is not found there
abbrev pub Says : Kind → List DataExample → Finding → Type 0
Says kind E (foreign_at i v) = IsSomeAnd (slice_get E i) (λ e. IsForeign e v) × NoneFits kind E
Says Glav E (no_fold_at i) = ⊥
Says Gav E (no_fold_at i) = IsSomeAnd (slice_get E i) (λ e. Folds e.target → ⊥) × NoneFits Gav E
Says kind E (refuted i j h) =
    IsSomeAnd (slice_get E i) (λ e. IsSomeAnd (slice_get E j) (λ f. Refutes e f h)) × NoneFits kind E
Says kind E (fits M) = IsMostGeneral kind E M

-- for all examples whose sources have no null: what the verdict says holds, and the verdict is a mapping exactly where
-- some mapping of the kind fits
abbrev pub Headline : Kind → Type 0
Headline kind = (E : List DataExample) → AllSources E →
    Says kind E (verdict kind E) × (SomeFits kind E ↔ ((M : List Dependency) × (verdict kind E ≡ fits M)))
