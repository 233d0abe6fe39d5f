-- GAV dependencies, and mappings dependency by dependency.
use Rattle.std.proofs.Common.{◌≡◌, ◌↔◌, ◌<◌, ◌+◌, ℕ, nat_eq, zero, suc, inl, inr, Bool, true, false, cond, List, [], ◌∷◌, ◌++◌, length, take, get_or, refl, sym, ◌∙◌, ap, subst, arith}
use Rattle.std.proofs.lemmas.Bool.{eqb-true, eq-eqb}
use Rattle.std.proofs.lemmas.List.{take_more, nil_from_length}
use Rattle.eir_term.specs.declared.val.Kind.{Kind}
use Rattle.eir_term.specs.declared.term.Atom.{Atom}
use Rattle.eir_term.specs.Lists.{◌∈◌}
use Rattle.eir_term.specs.Dependencies.{Dependency, IsDependency, IsGavDependency, IsOfKind, IsMapping}
use Rattle.eir_term.proofs.ListLaws.{∈-append_cases}

-- a list of one element
one_of : (atoms : List Atom) → length atoms ≡ 1 → (a : Atom) × (atoms ≡ a ∷ [])
one_of [] e = absurd (omega arith)
one_of (a ∷ []) e = (a, refl)
one_of (a ∷ b ∷ atoms) e = absurd (omega arith)

-- lengths tell whether a dependency is GAV
IsGavDependency-from_lengths : (d : Dependency) → length d.conclusion ≡ 1 → length d.exists ≡ 0 → IsGavDependency d
IsGavDependency-from_lengths d one none = record { single = one_of d.conclusion one; none = nil_from_length d.exists none }

-- with one conclusion atom, whether it is hangs on the number of existential variables
pub gav-iff : (r : Bool) (d : Dependency) (atoms : List Atom) (xs : List ℕ) → atoms ≡ d.conclusion → xs ≡ d.exists → length atoms ≡ 1 → r ≡ nat_eq (length xs) 0 → (r ≡ true) ↔ IsGavDependency d
gav-iff r d atoms xs a x one e = (
  λ t. IsGavDependency-from_lengths d (ap length (sym a) ∙ one) (ap length (sym x) ∙ eqb-true (length xs) 0 (sym e ∙ t)),
  λ g. e ∙ eq-eqb (length xs) 0 (ap length (x ∙ g.none)),
)

-- a mapping with one dependency more
pub IsMapping-push : (kind : Kind) (M : List Dependency) (d : Dependency) → IsMapping kind M → IsDependency d × IsOfKind kind d → IsMapping kind (M ++ d ∷ [])
IsMapping-push kind M d m ok e h = elim (∈-append_cases e M (d ∷ []) h) [
  | inl k ↦ m e k
  | inr k ↦ elim k [ inl q ↦ subst (λ x. IsDependency x × IsOfKind kind x) (sym q) ok | inr k ↦ absurd k ]
]

-- the first dependencies of a list, and the next
pub IsMapping-more : (kind : Kind) (M : List Dependency) (i : ℕ) (d : Dependency) → i < length M → d ≡ get_or M i d → IsMapping kind (take i M) → IsDependency d × IsOfKind kind d → IsMapping kind (take (i + 1) M)
IsMapping-more kind M i d l e m ok =
    subst (λ N. IsMapping kind N) (sym (take_more M i d l ∙ ap (λ x. take i M ++ x ∷ []) (sym e))) (IsMapping-push kind (take i M) d m ok)

-- what stands at a place of the list is an element
pub ∈-item : (M : List Dependency) (i : ℕ) (d : Dependency) → i < length M → d ≡ get_or M i d → d ∈ M
∈-item [] i d l e = absurd (omega arith)
∈-item (x ∷ M) zero d l e = inl e
∈-item (x ∷ M) (suc i) d l e = inr (∈-item M i d (omega arith) e)

-- what a push leaves, whether there was memory or not
pub IsMapping-pushed : (kind : Kind) (r : Bool) (M N : List Dependency) (d : Dependency) → N ≡ cond r (M ++ d ∷ []) M → IsMapping kind M → IsDependency d × IsOfKind kind d → IsMapping kind N
IsMapping-pushed kind true M N d e m ok = subst (λ L. IsMapping kind L) (sym e) (IsMapping-push kind M d m ok)
IsMapping-pushed kind false M N d e m ok = subst (λ L. IsMapping kind L) (sym e) m
