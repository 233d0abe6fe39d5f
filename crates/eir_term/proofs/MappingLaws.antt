-- Assignments as lists and as functions. The point is `by-from_Satisfies` with `Satisfies-from_by`: satisfaction may be
-- read over total functions from variables to values, as all later laws read it. `Satisfies-from_shared` asks
-- for agreement on the variables alone that premise and conclusion share.
--   fact_with rel vs    == the fact of this relation with these values
--   tabulate s xs       == the assignment that gives the variables xs their values under s
--   over xs s t         == s on the variables xs, t on the others
--   SatisfiesBy K L d   == satisfaction with functions for assignments
use Rattle.std.proofs.Common.{◌≡◌, ◌⊎◌, ℕ, nat_eq, inl, inr, cond, List, [], ◌∷◌, ◌++◌, map, refl, sym, ◌∙◌, ap, subst}
use Rattle.std.specs.List.{list_any}
use Rattle.std.proofs.lemmas.Bool.{cases_Bool, eqb-true, eq-eqb}
use Rattle.std.proofs.lemmas.Bool.Decides.{Decides-eqb}
use Rattle.eir_term.specs.declared.val.Val.{Val}
use Rattle.eir_term.specs.declared.val.Val.TheVariants.{Fixed}
use Rattle.eir_term.specs.declared.term.Term.{Term}
use Rattle.eir_term.specs.declared.term.Term.TheVariants.{Var, Fixed as FixedTerm}
use Rattle.eir_term.specs.declared.term.Atom.{Atom}
use Rattle.eir_term.specs.declared.fact.Fact.{Fact}
use Rattle.eir_term.specs.Lists.{◌∈◌}
use Rattle.eir_term.specs.Instances.{values}
use Rattle.eir_term.specs.Maps.{fact_image}
use Rattle.eir_term.specs.Homs.{IsMorphism}
use Rattle.eir_term.specs.Dependencies.{Dependency, term_vars, vars}
use Rattle.eir_term.specs.Satisfaction.{Assignment, value_at, term_value, atom_fact, Matches, Satisfies}
use Rattle.eir_term.proofs.ListLaws.{∈-append_left, ∈-append_right, ∈-append_cases, ∈-map, ∈-list_any, ∈-list_any_from}
use Rattle.eir_term.proofs.HomLaws.{map-agree, map-compose, ∈-values}

-- the fact of this relation with these values
abbrev pub fact_with : ℕ → List Val → Fact
fact_with rel vs = record { rel = rel; args = vs }

-- variables
pub ∈-term_vars : (x : ℕ) (ts : List Term) → Var x ∈ ts → x ∈ term_vars ts
∈-term_vars x [] h = elim h [ ]
∈-term_vars x (Var y ∷ ts) (inl e) = inl cc
∈-term_vars x (Var y ∷ ts) (inr h) = inr (∈-term_vars x ts h)
∈-term_vars x (FixedTerm n ∷ ts) (inl e) = cc
∈-term_vars x (FixedTerm n ∷ ts) (inr h) = ∈-term_vars x ts h

pub ∈-term_vars_from : (x : ℕ) (ts : List Term) → x ∈ term_vars ts → Var x ∈ ts
∈-term_vars_from x [] h = elim h [ ]
∈-term_vars_from x (Var y ∷ ts) (inl e) = inl (ap Var e)
∈-term_vars_from x (Var y ∷ ts) (inr h) = inr (∈-term_vars_from x ts h)
∈-term_vars_from x (FixedTerm n ∷ ts) h = inr (∈-term_vars_from x ts h)

-- a variable of the atoms is a term of one of them
pub ∈-vars : (x : ℕ) (a : Atom) (atoms : List Atom) → a ∈ atoms → Var x ∈ a.args → x ∈ vars atoms
∈-vars x a [] h k = elim h [ ]
∈-vars x a (b ∷ atoms) (inl e) k =
    ∈-append_left x (term_vars b.args) (vars atoms) (∈-term_vars x b.args (subst (λ (c : Atom). Var x ∈ c.args) e k))
∈-vars x a (b ∷ atoms) (inr h) k = ∈-append_right x (term_vars b.args) (vars atoms) (∈-vars x a atoms h k)

pub ∈-vars_from : (x : ℕ) (atoms : List Atom) → x ∈ vars atoms → (a : Atom) × (a ∈ atoms) × (Var x ∈ a.args)
∈-vars_from x [] h = elim h [ ]
∈-vars_from x (b ∷ atoms) h = elim (∈-append_cases x (term_vars b.args) (vars atoms) h)
    [ inl k ↦ (b, inl refl, ∈-term_vars_from x b.args k) | inr k ↦ (let r = ∈-vars_from x atoms k in (r.0, inr r.1, r.2)) ]

-- assignments that agree on the variables make the same facts
pub atom_fact-agree : (s t : ℕ → Val) (a : Atom) → ((x : ℕ) → Var x ∈ a.args → s x ≡ t x) → atom_fact s a ≡ atom_fact t a
atom_fact-agree s t a e = ap (fact_with a.rel) (map-agree (term_value s) (term_value t) a.args at)
  where
    at : (u : Term) → u ∈ a.args → term_value s u ≡ term_value t u
    at (Var x) h = e x h
    at (FixedTerm n) h = refl

pub Matches-agree : (s t : ℕ → Val) (atoms : List Atom) (K : List Fact) → ((x : ℕ) → x ∈ vars atoms → s x ≡ t x) → Matches s atoms K → Matches t atoms K
Matches-agree s t atoms K e m a h = subst (λ f. f ∈ K) (atom_fact-agree s t a (λ x k. e x (∈-vars x a atoms h k))) (m a h)

-- a match followed by a morphism is a match
pub fact_image-atom_fact : (g : Val → Val) (s : ℕ → Val) (a : Atom) → ((n : ℕ) → g (Fixed n) ≡ Fixed n) → fact_image g (atom_fact s a) ≡ atom_fact (λ x. g (s x)) a
fact_image-atom_fact g s a fixed = ap (fact_with a.rel)
    (map-compose g (term_value s) a.args ∙ map-agree (λ u. g (term_value s u)) (term_value (λ x. g (s x))) a.args (λ u h. at u))
  where
    at : (u : Term) → g (term_value s u) ≡ term_value (λ x. g (s x)) u
    at (Var x) = refl
    at (FixedTerm n) = fixed n

pub Matches-along : (g : Val → Val) (I K : List Fact) (s : ℕ → Val) (atoms : List Atom) → IsMorphism g I K → Matches s atoms I → Matches (λ x. g (s x)) atoms K
Matches-along g I K s atoms mo m a h = subst (λ f. f ∈ K) (fact_image-atom_fact g s a mo.fixed) (mo.sends (atom_fact s a) (m a h))

-- what a match gives to a variable of the atoms occurs in the instance
pub value-occurs : (s : ℕ → Val) (atoms : List Atom) (I : List Fact) (x : ℕ) → Matches s atoms I → x ∈ vars atoms → s x ∈ values I
value-occurs s atoms I x m h = let r = ∈-vars_from x atoms h in
    ∈-values (s x) (atom_fact s r.0) I (m r.0 r.1) (∈-map (term_value s) (Var x) (r.0).args r.2)

-- the assignment that gives these variables their values under s
abbrev pub tabulate : (ℕ → Val) → List ℕ → Assignment
tabulate s xs = map (λ x. (x, s x)) xs

pub value_at-tabulate : (s : ℕ → Val) (x : ℕ) (xs : List ℕ) → x ∈ xs → value_at (tabulate s xs) x ≡ s x
value_at-tabulate s x [] h = elim h [ ]
value_at-tabulate s x (y ∷ xs) (inl e) = rw (eq-eqb y x (sym e)) (ap s (sym e))
value_at-tabulate s x (y ∷ xs) (inr h) = elim (cases_Bool (nat_eq y x))
    [ inl t ↦ rw t (ap s (eqb-true y x t)) | inr t ↦ rw t (value_at-tabulate s x xs h) ]

-- satisfaction with functions for assignments
abbrev pub SatisfiesBy : List Fact → List Fact → Dependency → Type 0
SatisfiesBy K L d = (s : ℕ → Val) → Matches s d.premise K →
    (t : ℕ → Val) × Matches t d.conclusion L × ((x : ℕ) → x ∈ vars d.premise → t x ≡ s x)

pub by-from_Satisfies : (K L : List Fact) (d : Dependency) → Satisfies K L d → SatisfiesBy K L d
by-from_Satisfies K L d sat s m =
    let listed = tabulate s (vars d.premise) in
    let same : (x : ℕ) → x ∈ vars d.premise → value_at listed x ≡ s x = λ x h. value_at-tabulate s x (vars d.premise) h in
    let r = sat listed (Matches-agree s (value_at listed) d.premise K (λ x h. sym (same x h)) m) in
    (value_at r.0, r.1, λ x h. r.2 x h ∙ same x h)

pub Satisfies-from_by : (K L : List Fact) (d : Dependency) → SatisfiesBy K L d → Satisfies K L d
Satisfies-from_by K L d sat s m =
    let r = sat (value_at s) m in
    let all = vars d.premise ++ vars d.conclusion in
    let same : (x : ℕ) → x ∈ all → value_at (tabulate r.0 all) x ≡ r.0 x = λ x h. value_at-tabulate r.0 x all h in (
      tabulate r.0 all,
      Matches-agree r.0 (value_at (tabulate r.0 all)) d.conclusion L (λ x h. sym (same x (∈-append_right x (vars d.premise) (vars d.conclusion) h))) r.1,
      λ x h. same x (∈-append_left x (vars d.premise) (vars d.conclusion) h) ∙ r.2 x h,
    )

-- s on the variables xs, t on the others
abbrev pub over : List ℕ → (ℕ → Val) → (ℕ → Val) → ℕ → Val
over xs s t x = cond (list_any (nat_eq x) xs) (s x) (t x)

pub over-inside : (xs : List ℕ) (s t : ℕ → Val) (x : ℕ) → x ∈ xs → over xs s t x ≡ s x
over-inside xs s t x h = rw (∈-list_any nat_eq Decides-eqb x xs h)

pub over-cases : (xs : List ℕ) (s t : ℕ → Val) (x : ℕ) → ((x ∈ xs) × (over xs s t x ≡ s x)) ⊎ (over xs s t x ≡ t x)
over-cases xs s t x = elim (cases_Bool (list_any (nat_eq x) xs))
    [ inl b ↦ inl (∈-list_any_from nat_eq Decides-eqb x xs b, rw b) | inr b ↦ inr (rw b) ]

-- it is enough to agree on the variables that premise and conclusion share
pub Satisfies-from_shared : (K L : List Fact) (d : Dependency) →
    ((s : ℕ → Val) → Matches s d.premise K →
    (t : ℕ → Val) × Matches t d.conclusion L × ((x : ℕ) → x ∈ vars d.conclusion → x ∈ vars d.premise → t x ≡ s x)) →
    Satisfies K L d
Satisfies-from_shared K L d each = Satisfies-from_by K L d (λ s m.
    let r = each s m in
    let xs = vars d.premise in (
      over xs s r.0,
      Matches-agree r.0 (over xs s r.0) d.conclusion L
          (λ x j. elim (over-cases xs s r.0 x) [ inl c ↦ r.2 x j c.0 ∙ sym c.1 | inr c ↦ sym c ]) r.1,
      λ x j. over-inside xs s r.0 x j,
    ))
