-- Dependencies that begin alike are printed alike, but for their conclusions.
use Rattle.std.proofs.Common.{◌≡◌, ℕ, cond, List, [], ◌∷◌, ◌++◌, filter, flat_map, nat_eq, codes, refl, sym}
use Rattle.std.proofs.Common.{◌∙◌, ap, ap₂, subst}
use Rattle.std.specs.List.{list_any}
use Rattle.eir_term.specs.declared.term.Term.{Term}
use Rattle.eir_term.specs.declared.term.Term.TheVariants.{Var, Fixed as FixedTerm}
use Rattle.eir_term.specs.declared.term.Atom.{Atom}
use Rattle.eir_term.specs.Lists.{distinct, place_of}
use Rattle.eir_term.specs.Dependencies.{Dependency, vars}
use Rattle.eir_schema.specs.Schemas.{Relation}
use Rattle.eir_print.specs.Words.{relation_text, joined}
use Rattle.eir_print.specs.Dependencies.{numbered_name, variable_text, existential_variables, term_text, atom_text}
use Rattle.eir_print.specs.Dependencies.{premise_text, exists_text, implication_text, dependency_text, BeginsAlike}

-- without existential variables, those that have one premise begin alike
pub begin-alike : (d e : Dependency) → d.exists ≡ [] → e.exists ≡ [] → d.premise ≡ e.premise → BeginsAlike d e
begin-alike d e n m p = record {
  premise = p;
  names = λ x. named d x n ∙ ap (λ atoms. name x atoms) p ∙ sym (named e x m);
  exists = none d n ∙ sym (none e m);
}
  where
    name : ℕ → List Atom → List ℕ
    name x atoms = numbered_name (codes "x") (place_of nat_eq x (distinct nat_eq (vars atoms)))

    named : (d : Dependency) (x : ℕ) → d.exists ≡ [] → variable_text d x ≡ name x d.premise
    named d x n =
        ap (λ es. cond (list_any (nat_eq x) es)
        (numbered_name (codes "y") (place_of nat_eq x (existential_variables d))) (name x d.premise)) n

    nobody : (xs : List ℕ) → filter (λ x. list_any (nat_eq x) []) xs ≡ []
    nobody [] = refl
    nobody (x ∷ xs) = nobody xs

    none : (d : Dependency) → d.exists ≡ [] → existential_variables d ≡ []
    none d n =
        ap (λ es. distinct nat_eq (filter (λ x. list_any (nat_eq x) es) (vars d.conclusion))) n
        ∙ ap (λ xs. distinct nat_eq xs) (nobody (vars d.conclusion))

-- a dependency begins as itself
pub alike-itself : (d e : Dependency) → d ≡ e → BeginsAlike d e
alike-itself d e same = subst (λ x. BeginsAlike d x) same (record { premise = refl; names = λ x. refl; exists = refl })

flat_map-same : {X : Type 0} (f g : X → List ℕ) → ((x : X) → f x ≡ g x) → (xs : List X) → flat_map f xs ≡ flat_map g xs
flat_map-same f g h [] = refl
flat_map-same f g h (x ∷ xs) = ap₂ (λ t u. t ++ u) (h x) (flat_map-same f g h xs)

joined-same : {X : Type 0} (sep : List ℕ) (f g : X → List ℕ) → ((x : X) → f x ≡ g x) → (xs : List X) →
    joined sep f xs ≡ joined sep g xs
joined-same sep f g h [] = refl
joined-same sep f g h (x ∷ xs) =
    ap₂ (λ t u. t ++ u) (h x) (flat_map-same (λ y. sep ++ f y) (λ y. sep ++ g y) (λ y. ap (λ t. sep ++ t) (h y)) xs)

module _ (schema : List Relation) (d e : Dependency) (alike : BeginsAlike d e) where
  term-same : (t : Term) → term_text d t ≡ term_text e t
  term-same (Var x) = alike.names x
  term-same (FixedTerm n) = refl

  atom-same : (a : Atom) → atom_text schema d a ≡ atom_text schema e a
  atom-same a =
      ap (λ t. relation_text schema a.rel ++ codes "(" ++ t ++ codes ")")
      (joined-same (codes ",") (term_text d) (term_text e) term-same a.args)

  atoms-same : (atoms : List Atom) → joined (codes " & ") (atom_text schema d) atoms
      ≡ joined (codes " & ") (atom_text schema e) atoms
  atoms-same atoms = joined-same (codes " & ") (atom_text schema d) (atom_text schema e) atom-same atoms

  premise-same : (atoms : List Atom) → premise_text schema d atoms ≡ premise_text schema e atoms
  premise-same [] = refl
  premise-same (a ∷ atoms) = atoms-same (a ∷ atoms)

  exists-same : (xs : List ℕ) → exists_text d xs ≡ exists_text e xs
  exists-same [] = refl
  exists-same (x ∷ xs) =
      ap (λ t. codes "exists" ++ t ++ codes " . ")
      (flat_map-same (λ y. codes " " ++ variable_text d y) (λ y. codes " " ++ variable_text e y)
      (λ y. ap (λ t. codes " " ++ t) (alike.names y)) (x ∷ xs))

  -- the premise of the one and the conclusion of the other are the other's text
  pub printed-alike : implication_text schema d d.premise e.conclusion ≡ dependency_text schema e
  printed-alike =
      ap₂ (λ p q. p ++ q) (premise-same d.premise ∙ ap (λ atoms. premise_text schema e atoms) alike.premise)
      (ap₂ (λ x c. codes " -> " ++ x ++ c)
      (exists-same (existential_variables d) ∙ ap (λ xs. exists_text e xs) alike.exists) (atoms-same e.conclusion))
