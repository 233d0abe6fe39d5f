-- Canonical mappings (Alexe, ten Cate, Kolaitis, Tan 2011; that of GAV, and the treatment of empty targets and
-- fixed constants, are this project's own).
--   variables e      == what becomes a variable, in the order of the variables' numbers
--   glav_dependency e, canon_glav E  == all source facts imply all target facts
--   gav_dependency e f, canon_gav E  == all source facts imply this ground fact of the target
--   canon kind E     == the canonical mapping of the kind
use Rattle.std.specs.Prelude.{ℕ, suc, List, [], ◌∷◌, ◌++◌, map, flat_map, length}
use Rattle.eir_term.specs.declared.val.Val.{Val}
use Rattle.eir_term.specs.declared.val.Val.TheVariants.{Const, Fixed, Null}
use Rattle.eir_term.specs.declared.val.Kind.{Kind}
use Rattle.eir_term.specs.declared.val.Kind.TheVariants.{Glav, Gav}
use Rattle.eir_term.specs.declared.term.Term.{Term}
use Rattle.eir_term.specs.declared.term.Term.TheVariants.{Var, Fixed as FixedTerm}
use Rattle.eir_term.specs.declared.term.Atom.{Atom}
use Rattle.eir_term.specs.declared.fact.Fact.{Fact}
use Rattle.eir_term.specs.Lists.{place_of}
use Rattle.eir_term.specs.Values.{val_eq}
use Rattle.eir_term.specs.Instances.{consts, nulls, ground_part}
use Rattle.eir_term.specs.Dependencies.{Dependency}
use Rattle.eir_term.specs.Fitting.{DataExample}

-- what becomes a variable: the source's constants, then the target's nulls, each by first occurrence
abbrev pub variables : DataExample → List Val
variables e = consts e.source ++ nulls e.target

-- a value's variable is its place in the list, counted from 1; a fixed constant stays
abbrev pub term_of : List Val → Val → Term
term_of vs (Const c) = Var (suc (place_of val_eq (Const c) vs))
term_of vs (Fixed n) = FixedTerm n
term_of vs (Null n) = Var (suc (place_of val_eq (Null n) vs))

-- the atom that a fact becomes
abbrev pub atom_of : List Val → Fact → Atom
atom_of vs f = record { rel = f.rel; args = map (term_of vs) f.args }

-- n + 1, n + 2 and so on, one for each element
abbrev pub numbers : ℕ → List Val → List ℕ
numbers n [] = []
numbers n (v ∷ vs) = suc n ∷ numbers (suc n) vs

-- all source facts imply all target facts
abbrev pub glav_dependency : DataExample → Dependency
glav_dependency e = record {
  premise = map (atom_of (variables e)) e.source;
  exists = numbers (length (consts e.source)) (nulls e.target);
  conclusion = map (atom_of (variables e)) e.target;
}

-- x alone, or nothing where there is no fact
abbrev pub unless_empty : {X : Type 0} → List Fact → X → List X
unless_empty [] x = []
unless_empty (f ∷ fs) x = x ∷ []

-- one dependency for each example with a non-empty target
abbrev pub canon_glav : List DataExample → List Dependency
canon_glav E = flat_map (λ e. unless_empty e.target (glav_dependency e)) E

-- all source facts imply this fact
abbrev pub gav_dependency : DataExample → Fact → Dependency
gav_dependency e f = record {
  premise = map (atom_of (consts e.source)) e.source;
  exists = [];
  conclusion = atom_of (consts e.source) f ∷ [];
}

-- one dependency for each example and each ground fact of its target
abbrev pub canon_gav : List DataExample → List Dependency
canon_gav E = flat_map (λ e. map (gav_dependency e) (ground_part e.target)) E

-- the canonical mapping of the kind
abbrev pub canon : Kind → List DataExample → List Dependency
canon Glav E = canon_glav E
canon Gav E = canon_gav E
