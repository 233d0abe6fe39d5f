-- Variables of atoms in order, and marks.
use Rattle.std.proofs.Common.{◌≡◌, ◌⊎◌, ◌<◌, ◌≤◌, ◌↔◌, ℕ, ◌+◌, nat_eq, inl, inr, Bool, true, false, List, [], ◌∷◌, ◌++◌, length, take, drop, get_or, set, replicate, refl, sym, ◌∙◌, ap, subst, append_assoc, append-nil, arith}
use Rattle.std.specs.List.{list_any}
use Rattle.std.proofs.lemmas.List.{take_more, drop_more, take-append-drop, length-set, get_or-set_same, get_or-set_other, get_or-replicate, length-replicate}
use Rattle.std.proofs.lemmas.Bool.{cases_Bool, cases_eq, or_cases, eqb-true, eq-eqb, false≢true}
use Rattle.eir_term.specs.declared.term.Term.{Term}
use Rattle.eir_term.specs.declared.term.Term.TheVariants.{Var, Fixed}
use Rattle.eir_term.specs.declared.term.Atom.{Atom}
use Rattle.eir_term.specs.Lists.{◌∈◌}
use Rattle.eir_term.specs.Dependencies.{term_vars, vars}
use Rattle.eir_term.proofs.ListLaws.{∈-append_left, ∈-append_right, ∈-append_cases}
use Rattle.eir_dep.specs.Marks.{AreMarks}

-- variables of lists one behind the other
pub term_vars-append : (ts us : List Term) → term_vars (ts ++ us) ≡ term_vars ts ++ term_vars us
term_vars-append [] us = refl
term_vars-append (Var x ∷ ts) us = ap (λ xs. x ∷ xs) (term_vars-append ts us)
term_vars-append (Fixed n ∷ ts) us = term_vars-append ts us

pub vars-append : (atoms more : List Atom) → vars (atoms ++ more) ≡ vars atoms ++ vars more
vars-append [] more = refl
vars-append (a ∷ atoms) more = ap (λ xs. term_vars a.args ++ xs) (vars-append atoms more) ∙ sym (append_assoc (term_vars a.args) (vars atoms) (vars more))

-- the variables of one term, or one atom, more
pub term_vars-more : (ts : List Term) (i : ℕ) (d : Term) → i < length ts → term_vars (take (i + 1) ts) ≡ term_vars (take i ts) ++ term_vars (get_or ts i d ∷ [])
term_vars-more ts i d l = ap term_vars (take_more ts i d l) ∙ term_vars-append (take i ts) (get_or ts i d ∷ [])

pub vars-more : (atoms : List Atom) (i : ℕ) (a : Atom) → i < length atoms → a ≡ get_or atoms i a → vars (take (i + 1) atoms) ≡ vars (take i atoms) ++ term_vars a.args
vars-more atoms i a l e =
    ap vars (take_more atoms i a l ∙ ap (λ b. take i atoms ++ b ∷ []) (sym e)) ∙ vars-append (take i atoms) (a ∷ []) ∙ ap (λ xs. vars (take i atoms) ++ xs) (append-nil (term_vars a.args))

-- a term that is no variable has none
pub term_vars-fixed : (t : Term) → ((x : ℕ) → t ≡ Var x → ⊥) → term_vars (t ∷ []) ≡ []
term_vars-fixed (Var x) apart = absurd (apart x refl)
term_vars-fixed (Fixed n) apart = refl

-- where a variable stands that is among the terms, or the atoms, up to a place and with it
pub ∈-term_vars_cases : (x : ℕ) (ts : List Term) (i : ℕ) (d : Term) → i < length ts → x ∈ term_vars (take (i + 1) ts) → (x ∈ term_vars (take i ts)) ⊎ (x ∈ term_vars (get_or ts i d ∷ []))
∈-term_vars_cases x ts i d l h = ∈-append_cases x (term_vars (take i ts)) (term_vars (get_or ts i d ∷ [])) (subst (λ xs. x ∈ xs) (term_vars-more ts i d l) h)

pub ∈-vars_cases : (x : ℕ) (atoms : List Atom) (i : ℕ) (a : Atom) → i < length atoms → a ≡ get_or atoms i a → x ∈ vars (take (i + 1) atoms) → (x ∈ vars (take i atoms)) ⊎ (x ∈ term_vars a.args)
∈-vars_cases x atoms i a l e h = ∈-append_cases x (vars (take i atoms)) (term_vars a.args) (subst (λ xs. x ∈ xs) (vars-more atoms i a l e) h)

-- a list is what stands before a place, there, and behind it
pub terms-split : (ts : List Term) (i : ℕ) (d : Term) → i < length ts → term_vars ts ≡ term_vars (take i ts) ++ (term_vars (get_or ts i d ∷ []) ++ term_vars (drop (i + 1) ts))
terms-split ts i d l =
    sym (ap term_vars (take-append-drop i ts)) ∙ term_vars-append (take i ts) (drop i ts)
    ∙ ap (λ xs. term_vars (take i ts) ++ xs) (ap term_vars (drop_more ts i d l) ∙ term_vars-append (get_or ts i d ∷ []) (drop (i + 1) ts))

pub atoms-split : (atoms : List Atom) (i : ℕ) (a : Atom) → i < length atoms → a ≡ get_or atoms i a → vars atoms ≡ vars (take i atoms) ++ (term_vars a.args ++ vars (drop (i + 1) atoms))
atoms-split atoms i a l e =
    sym (ap vars (take-append-drop i atoms)) ∙ vars-append (take i atoms) (drop i atoms)
    ∙ ap (λ xs. vars (take i atoms) ++ xs) (ap vars (drop_more atoms i a l ∙ ap (λ b. b ∷ drop (i + 1) atoms) (sym e)))

-- a variable of a term, or an atom, is one of all
pub ∈-term_item : (x : ℕ) (ts : List Term) (i : ℕ) (d : Term) → i < length ts → x ∈ term_vars (get_or ts i d ∷ []) → x ∈ term_vars ts
∈-term_item x ts i d l h =
    subst (λ xs. x ∈ xs) (sym (terms-split ts i d l))
    (∈-append_right x (term_vars (take i ts)) (term_vars (get_or ts i d ∷ []) ++ term_vars (drop (i + 1) ts)) (∈-append_left x (term_vars (get_or ts i d ∷ [])) (term_vars (drop (i + 1) ts)) h))

pub ∈-atom_item : (x : ℕ) (atoms : List Atom) (i : ℕ) (a : Atom) → i < length atoms → a ≡ get_or atoms i a → x ∈ term_vars a.args → x ∈ vars atoms
∈-atom_item x atoms i a l e h =
    subst (λ xs. x ∈ xs) (sym (atoms-split atoms i a l e))
    (∈-append_right x (vars (take i atoms)) (term_vars a.args ++ vars (drop (i + 1) atoms)) (∈-append_left x (term_vars a.args) (vars (drop (i + 1) atoms)) h))

-- the test of a list for a number
pub ∈-listed : (v : ℕ) (xs : List ℕ) → list_any (λ x. nat_eq x v) xs ≡ true → v ∈ xs
∈-listed v [] t = absurd (false≢true t)
∈-listed v (x ∷ xs) t = elim (or_cases (nat_eq x v) (list_any (λ y. nat_eq y v) xs) t) [ inl s ↦ inl (sym (eqb-true x v s)) | inr s ↦ inr (∈-listed v xs s) ]

pub listed-∈ : (v : ℕ) (xs : List ℕ) → v ∈ xs → list_any (λ x. nat_eq x v) xs ≡ true
listed-∈ v [] h = elim h [ ]
listed-∈ v (x ∷ xs) (inl e) = rw (eq-eqb x v (sym e))
listed-∈ v (x ∷ xs) (inr h) = elim (cases_Bool (nat_eq x v)) [ inl s ↦ rw s | inr s ↦ rw s (listed-∈ v xs h) ]

-- a number is in the second of two lists where the first lacks it
pub second-iff : (r : Bool) (v : ℕ) (xs ys : List ℕ) → r ≡ list_any (λ y. nat_eq y v) ys → (v ∈ xs → ⊥) → (r ≡ true) ↔ (v ∈ (xs ++ ys))
second-iff r v xs ys e n = (
  λ t. ∈-append_right v xs ys (∈-listed v ys (sym e ∙ t)),
  λ h. e ∙ listed-∈ v ys (elim (∈-append_cases v xs ys h) [ inl k ↦ absurd (n k) | inr k ↦ k ]),
)

-- what a test says of a fact that it decides
pub no-from : {P : Type 0} (r : Bool) → (r ≡ true) ↔ P → r ≡ false → P → ⊥
no-from r d f p = let t : r ≡ true = d.1 p in cc

-- marks of lists one behind the other, one term or atom on
pub AreMarks-term : (marks : List Bool) (xs : List ℕ) (ts : List Term) (i : ℕ) (d : Term) (ys : List ℕ) → i < length ts → term_vars (get_or ts i d ∷ []) ≡ ys →
    AreMarks marks ((xs ++ term_vars (take i ts)) ++ ys) → AreMarks marks (xs ++ term_vars (take (i + 1) ts))
AreMarks-term marks xs ts i d ys l e m =
    subst (λ zs. AreMarks marks zs) (append_assoc xs (term_vars (take i ts)) ys ∙ ap (λ zs. xs ++ zs) (ap (λ us. term_vars (take i ts) ++ us) (sym e) ∙ sym (term_vars-more ts i d l))) m

pub AreMarks-atom : (marks : List Bool) (xs : List ℕ) (atoms : List Atom) (i : ℕ) (a : Atom) (ts : List Term) → i < length atoms → a ≡ get_or atoms i a → ts ≡ a.args →
    AreMarks marks ((xs ++ vars (take i atoms)) ++ term_vars ts) → AreMarks marks (xs ++ vars (take (i + 1) atoms))
AreMarks-atom marks xs atoms i a ts l e s m =
    subst (λ zs. AreMarks marks zs) (append_assoc xs (vars (take i atoms)) (term_vars ts) ∙ ap (λ zs. xs ++ zs) (ap (λ us. vars (take i atoms) ++ term_vars us) s ∙ sym (vars-more atoms i a l e))) m

-- the marks of a list with one element more, which has a place
pub AreMarks-set : (marks : List Bool) (xs : List ℕ) (v : ℕ) → v < length marks → AreMarks marks xs → AreMarks (set marks v true) (xs ++ v ∷ [])
AreMarks-set marks xs v l m x k = elim (cases_eq x v) [
  | inl e ↦ (λ t. subst (λ y. y ∈ (xs ++ v ∷ [])) (sym e) (∈-append_right v xs (v ∷ []) (inl refl)), λ h. subst (λ y. get_or (set marks v true) y false ≡ true) (sym e) (get_or-set_same marks v true false l))
  | inr n ↦ (let same = get_or-set_other marks v x true false n in let within : x < length marks = omega (arith, length-set marks v true) in
      (λ t. ∈-append_left x xs (v ∷ []) ((m x within).0 (sym same ∙ t)), λ h. same ∙ (m x within).1 (elim (∈-append_cases x xs (v ∷ []) h) [ inl j ↦ j | inr j ↦ elim j [ inl e ↦ absurd (n e) | inr j ↦ absurd j ] ])))
]

-- one that has none is not told by them
pub AreMarks-past : (marks : List Bool) (xs : List ℕ) (v : ℕ) → length marks ≤ v → AreMarks marks xs → AreMarks marks (xs ++ v ∷ [])
AreMarks-past marks xs v l m x k = (
  λ t. ∈-append_left x xs (v ∷ []) ((m x k).0 t),
  λ h. (m x k).1 (elim (∈-append_cases x xs (v ∷ []) h) [ inl j ↦ j | inr j ↦ elim j [ inl e ↦ absurd (omega arith) | inr j ↦ absurd j ] ]),
)

-- cleared marks are those of no list
pub AreMarks-cleared : (n : ℕ) → AreMarks (replicate n false) []
AreMarks-cleared n x l = (λ t. absurd (false≢true (sym (get_or-replicate n x false false (omega (arith, length-replicate n false))) ∙ t)), λ h. absurd h)
