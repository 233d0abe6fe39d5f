-- When a pair of instances satisfies a dependency (Fagin, Kolaitis, Miller, Popa 2005).
--   Assignment        == a finite list of pairs of variables and values
--   value_at s x      == the value that the assignment gives to x
--   atom_fact s a     == the fact that the atom becomes
--   Matches s as K    == each atom becomes a fact of K
--   Satisfies K L d   == each match of the premise into K extends to one of the conclusion into L
use Rattle.std.specs.Prelude.{◌≡◌, ℕ, ◌==◌, cond, List, [], ◌∷◌, map}
use Rattle.eir_term.specs.declared.val.Val.{Val}
use Rattle.eir_term.specs.declared.val.Val.TheVariants.{Const, Fixed}
use Rattle.eir_term.specs.declared.term.Term.{Term}
use Rattle.eir_term.specs.declared.term.Term.TheVariants.{Var, Fixed as FixedTerm}
use Rattle.eir_term.specs.declared.term.Atom.{Atom}
use Rattle.eir_term.specs.declared.fact.Fact.{Fact}
use Rattle.eir_term.specs.Lists.{◌∈◌}
use Rattle.eir_term.specs.Dependencies.{Dependency, vars}

-- a finite list of pairs of variables and values
abbrev pub Assignment : Type 0
Assignment = List (ℕ × Val)

-- the value of the first pair of x. An assignment that leaves x out gives it constant 0: such a list matches what
-- the list with the pair added matches, so ranging over all lists says no more than ranging over those that name
-- every variable
abbrev pub value_at : Assignment → ℕ → Val
value_at [] x = Const 0
value_at (p ∷ s) x = cond (p.0 == x) p.1 (value_at s x)

-- the value of a term; a fixed constant stands for itself
abbrev pub term_value : (ℕ → Val) → Term → Val
term_value s (Var x) = s x
term_value s (FixedTerm n) = Fixed n

-- the fact that an atom becomes
abbrev pub atom_fact : (ℕ → Val) → Atom → Fact
atom_fact s a = record { rel = a.rel; args = map (term_value s) a.args }

-- each atom becomes a fact of K
abbrev pub Matches : (ℕ → Val) → List Atom → List Fact → Type 0
Matches s atoms K = (a : Atom) → a ∈ atoms → atom_fact s a ∈ K

-- for each assignment that sends the premise into K, some assignment equals it on the premise's variables and
-- sends the conclusion into L
abbrev pub Satisfies : List Fact → List Fact → Dependency → Type 0
Satisfies K L d = (s : Assignment) → Matches (value_at s) d.premise K →
    (t : Assignment) × Matches (value_at t) d.conclusion L × ((x : ℕ) → x ∈ vars d.premise → value_at t x ≡ value_at s x)
