-- Variables with the numbers that they are printed by.
use Rattle.std.proofs.Common.{◌≡◌, ℕ, true, false, cond, List, [], ◌∷◌, ◌++◌, filter, nat_eq, codes, refl, sym, ◌∙◌, ap, ap₂}
use Rattle.std.specs.List.{list_any}
use Rattle.std.proofs.lemmas.Bool.Decides.{Decides-eqb}
use Rattle.eir_term.specs.declared.term.Term.{Term}
use Rattle.eir_term.specs.declared.term.Term.TheVariants.{Var, Fixed as FixedTerm}
use Rattle.eir_term.specs.Lists.{distinct, place_of}
use Rattle.eir_term.specs.Dependencies.{Dependency, term_vars, vars}
use Rattle.eir_print.specs.Dependencies.{existential_variables, premise_variables, numbered_name, variable_text}
use Rattle.eir_print.proofs.ValueLaws.{distinct-filter, list_any-distinct}

-- the existential variables that the code collects
pub existential-from : (d : Dependency) (among all new : List ℕ) → among ≡ distinct nat_eq d.exists → all ≡ distinct nat_eq (vars d.conclusion) → new ≡ filter (λ x. list_any (nat_eq x) among) all → new ≡ existential_variables d
existential-from d among all new e k n =
    n ∙ ap (λ ks. filter (λ x. list_any (nat_eq x) ks) all) e ∙ agree all ∙ ap (λ xs. filter (λ x. list_any (nat_eq x) d.exists) xs) k
    ∙ sym (distinct-filter nat_eq Decides-eqb (λ x. list_any (nat_eq x) d.exists) (vars d.conclusion))
  where
    agree : (xs : List ℕ) → filter (λ x. list_any (nat_eq x) (distinct nat_eq d.exists)) xs ≡ filter (λ x. list_any (nat_eq x) d.exists) xs
    agree [] = refl
    agree (x ∷ xs) = ap₂ (λ b ys. cond b (x ∷ ys) ys) (list_any-distinct nat_eq Decides-eqb x d.exists) (agree xs)

-- the name of a variable that is among the existential ones, and of one that is not
pub existential-name : (d : Dependency) (x place : ℕ) (among order : List ℕ) → true ≡ list_any (nat_eq x) among → among ≡ distinct nat_eq d.exists → order ≡ existential_variables d → place ≡ place_of nat_eq x order →
    numbered_name (codes "y") place ≡ variable_text d x
existential-name d x place among order t e o p =
    let k : list_any (nat_eq x) d.exists ≡ true = sym (list_any-distinct nat_eq Decides-eqb x d.exists) ∙ ap (λ ks. list_any (nat_eq x) ks) (sym e) ∙ sym t in
    rw k (ap (λ n. numbered_name (codes "y") n) (p ∙ ap (λ ks. place_of nat_eq x ks) o))

pub premise-name : (d : Dependency) (x place : ℕ) (among order : List ℕ) → false ≡ list_any (nat_eq x) among → among ≡ distinct nat_eq d.exists → order ≡ premise_variables d → place ≡ place_of nat_eq x order →
    numbered_name (codes "x") place ≡ variable_text d x
premise-name d x place among order t e o p =
    let k : list_any (nat_eq x) d.exists ≡ false = sym (list_any-distinct nat_eq Decides-eqb x d.exists) ∙ ap (λ ks. list_any (nat_eq x) ks) (sym e) ∙ sym t in
    rw k (ap (λ n. numbered_name (codes "x") n) (p ∙ ap (λ ks. place_of nat_eq x ks) o))

-- the variables of one term
pub term_vars-first : (t : Term) (ts : List Term) → term_vars (t ∷ ts) ≡ term_vars (t ∷ []) ++ term_vars ts
term_vars-first (Var x) ts = refl
term_vars-first (FixedTerm n) ts = refl

pub term_vars-fixed : (t : Term) → ((x : ℕ) → t ≡ Var x → ⊥) → term_vars (t ∷ []) ≡ []
term_vars-fixed (Var x) apart = absurd (apart x refl)
term_vars-fixed (FixedTerm n) apart = refl
