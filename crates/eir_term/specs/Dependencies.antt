-- Dependencies and mappings: GLAV constraints, or source-to-target tuple-generating dependencies, and GAV
-- (Fagin, Kolaitis, Miller, Popa 2005; Alexe, ten Cate, Kolaitis, Tan 2011). An empty premise and fixed constants
-- as terms are this project's own.
--   Dependency         == premise, existential variables, conclusion
--   vars atoms         == the occurrences of variables
--   IsDependency d     == d is well formed
--   IsMapping kind M   == M is a mapping of the kind
use Rattle.std.specs.Prelude.{◌≡◌, ◌⊎◌, ℕ, List, [], ◌∷◌, ◌++◌}
use Rattle.eir_term.specs.declared.val.Kind.{Kind}
use Rattle.eir_term.specs.declared.val.Kind.TheVariants.{Glav, Gav}
use Rattle.eir_term.specs.declared.term.Term.{Term}
use Rattle.eir_term.specs.declared.term.Term.TheVariants.{Var, Fixed as FixedTerm}
use Rattle.eir_term.specs.declared.term.Atom.{Atom}
use Rattle.eir_term.specs.Lists.{◌∈◌, IsDistinct}

-- a dependency: the premise implies that values for the existential variables meet the conclusion
pub record Dependency : Type 0 where
  pub premise : List Atom
  pub exists : List ℕ
  pub conclusion : List Atom

-- the variables among the terms
abbrev pub term_vars : List Term → List ℕ
term_vars [] = []
term_vars (Var x ∷ ts) = x ∷ term_vars ts
term_vars (FixedTerm n ∷ ts) = term_vars ts

-- the occurrences of variables, atom by atom
abbrev pub vars : List Atom → List ℕ
vars [] = []
vars (a ∷ rest) = term_vars a.args ++ vars rest

-- some conclusion atom; each conclusion variable is existential or in the premise, never both; each existential
-- variable is listed once and occurs
pub record IsDependency (d : Dependency) : Type 0 where
  pub some_atom : d.conclusion ≡ [] → ⊥
  pub once : IsDistinct d.exists
  pub used : (x : ℕ) → x ∈ d.exists → x ∈ vars d.conclusion
  pub apart : (x : ℕ) → x ∈ d.exists → x ∈ vars d.premise → ⊥
  pub bound : (x : ℕ) → x ∈ vars d.conclusion → (x ∈ d.exists) ⊎ (x ∈ vars d.premise)

-- one conclusion atom and no existential variable
pub record IsGavDependency (d : Dependency) : Type 0 where
  pub single : (a : Atom) × (d.conclusion ≡ a ∷ [])
  pub none : d.exists ≡ []

-- what the kind asks of a dependency
abbrev pub IsOfKind : Kind → Dependency → Type 0
IsOfKind Glav d = Unit {0}
IsOfKind Gav d = IsGavDependency d

-- a mapping of the kind is a finite list of dependencies of the kind
abbrev pub IsMapping : Kind → List Dependency → Type 0
IsMapping kind M = (d : Dependency) → d ∈ M → IsDependency d × IsOfKind kind d
