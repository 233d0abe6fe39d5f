-- The parts that canonical mappings are put together from.
--   HasNoForeign e          == each constant of the target occurs in the source
--   implies premise a       == the dependency that the premise implies the atom
--   dependencies_of kind e  == the dependencies of one example in the canonical mapping of the kind
use Rattle.std.specs.Prelude.{ℕ, List, [], ◌∷◌, map}
use Rattle.eir_term.specs.declared.val.Val.TheVariants.{Const}
use Rattle.eir_term.specs.declared.val.Kind.{Kind}
use Rattle.eir_term.specs.declared.val.Kind.TheVariants.{Glav, Gav}
use Rattle.eir_term.specs.declared.term.Atom.{Atom}
use Rattle.eir_term.specs.Lists.{◌∈◌}
use Rattle.eir_term.specs.Instances.{consts, ground_part}
use Rattle.eir_term.specs.Dependencies.{Dependency}
use Rattle.eir_term.specs.Fitting.{DataExample}
use Rattle.eir_term.specs.Canonical.{glav_dependency, unless_empty, gav_dependency}

-- each constant of the target occurs in the source
abbrev pub HasNoForeign : DataExample → Type 0
HasNoForeign e = (c : ℕ) → Const c ∈ consts e.target → Const c ∈ consts e.source

-- the premise implies the atom
abbrev pub implies : List Atom → Atom → Dependency
implies premise a = record { premise = premise; exists = []; conclusion = a ∷ [] }

-- the dependencies of one example in the canonical mapping of the kind
abbrev pub dependencies_of : Kind → DataExample → List Dependency
dependencies_of Glav e = unless_empty e.target (glav_dependency e)
dependencies_of Gav e = map (gav_dependency e) (ground_part e.target)
