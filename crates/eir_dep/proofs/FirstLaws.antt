-- First elements that have a property, and refusals. The point is `refused-same`: no two causes hold of one dependency;
-- and `IsRefused-none`: none holds of one that is well formed.
--   HasNone P xs  == no element of xs has P, given the elements before it
use Rattle.std.proofs.Common.{◌≡◌, ◌⊎◌, ◌↔◌, ◌<◌, ◌+◌, ℕ, inl, inr, Bool, true, false, Option, Some, None, Result, Ok, Err, List, [], ◌∷◌, ◌++◌, length, take, drop, get_or, refl, sym, ◌∙◌, ap, subst, append_assoc, append-nil}
use Rattle.std.proofs.lemmas.Bool.{false≢true}
use Rattle.std.proofs.lemmas.List.{take_more, drop_more, take-append-drop}
use Rattle.eir_term.specs.declared.term.Term.{Term}
use Rattle.eir_term.specs.declared.term.Term.TheVariants.{Var}
use Rattle.eir_term.specs.declared.term.Atom.{Atom}
use Rattle.eir_term.specs.Lists.{◌∈◌, IsDistinct}
use Rattle.eir_term.specs.Dependencies.{Dependency, IsDependency, term_vars, vars}
use Rattle.eir_term.proofs.ListLaws.{∈-append_left, ∈-append_right, ∈-append_cases, IsDistinct-push}
use Rattle.eir_dep.specs.declared.dep.DepRefused.{DepRefused}
use Rattle.eir_dep.specs.declared.dep.DepRefused.TheVariants.{Empty, BadExists, Unbound}
use Rattle.eir_dep.specs.Refusals.{IsFirst, IsBadExists, IsUnbound, IsFirstUnbound, IsRefused}
use Rattle.eir_dep.specs.Marks.{AreMarks, AreListable}
use Rattle.eir_dep.proofs.MarkLaws.{terms-split, atoms-split, ∈-term_vars_cases, term_vars-fixed}

-- no element of the list has P, given the elements before it
abbrev pub HasNone : (List ℕ → ℕ → Type 0) → List ℕ → Type 0
HasNone P xs = (start rest : List ℕ) (w : ℕ) → xs ≡ start ++ w ∷ rest → P start w → ⊥

-- two splits of one list at first elements are the same
split-same : (P : List ℕ → ℕ → Type 0) (b : List ℕ) (v : ℕ) (c b' : List ℕ) (w : ℕ) (c' : List ℕ) → b ++ v ∷ c ≡ b' ++ w ∷ c' → P b v → P b' w → HasNone P b → HasNone P b' → v ≡ w
split-same P [] v c [] w c' e p q n m = cc
split-same P [] v c (y ∷ b') w c' e p q n m = absurd (m [] b' v (let h : y ≡ v = cc in ap (λ z. z ∷ b') h) p)
split-same P (y ∷ b) v c [] w c' e p q n m = absurd (n [] b w (let h : y ≡ w = cc in ap (λ z. z ∷ b) h) q)
split-same P (y ∷ b) v c (z ∷ b') w c' e p q n m =
    let h : z ≡ y = cc in
    let t : b ++ v ∷ c ≡ b' ++ w ∷ c' = cc in
    split-same (λ start x. P (y ∷ start) x) b v c b' w c' t p (subst (λ u. P (u ∷ b') w) h q)
    (λ start rest x k. n (y ∷ start) rest x (ap (λ us. y ∷ us) k))
    (λ start rest x k. m (y ∷ start) rest x (let s : z ∷ b' ≡ y ∷ (start ++ x ∷ rest) = cc in s))

-- there is one first element
pub IsFirst-same : (P : List ℕ → ℕ → Type 0) (xs : List ℕ) (v w : ℕ) → IsFirst P xs v → IsFirst P xs w → v ≡ w
IsFirst-same P xs v w f g = split-same P f.before v f.after g.before w g.after (sym f.split ∙ g.split) f.has g.has f.none_before g.none_before

-- the element at a split is one of the list
pub ∈-split : (xs start : List ℕ) (w : ℕ) (rest : List ℕ) → xs ≡ start ++ w ∷ rest → w ∈ xs
∈-split xs start w rest e = subst (λ ys. w ∈ ys) (sym e) (∈-append_right w start (w ∷ rest) (inl refl))

-- it does not stand before the split, where no element stands twice
distinct-split : (start : List ℕ) (w : ℕ) (rest : List ℕ) → IsDistinct (start ++ w ∷ rest) → w ∈ start → ⊥
distinct-split [] w rest d h = h
distinct-split (y ∷ start) w rest d (inl e) = d.0 (subst (λ u. u ∈ (start ++ w ∷ rest)) e (∈-append_right w start (w ∷ rest) (inl refl)))
distinct-split (y ∷ start) w rest d (inr h) = distinct-split start w rest d.1 h

-- variables that may be listed have no bad one
pub AreListable-none : (d : Dependency) (xs : List ℕ) → AreListable d xs → HasNone (IsBadExists d) xs
AreListable-none d xs l start rest w e (inl h) = l.apart w (∈-split xs start w rest e) h
AreListable-none d xs l start rest w e (inr (inl h)) = distinct-split start w rest (subst IsDistinct e l.once) h
AreListable-none d xs l start rest w e (inr (inr n)) = n (l.used w (∈-split xs start w rest e))

-- a dependency is what is refused for no cause
pub IsDependency-from_parts : (d : Dependency) → (d.conclusion ≡ [] → ⊥) → AreListable d d.exists → ((x : ℕ) → x ∈ vars d.conclusion → (x ∈ d.exists) ⊎ (x ∈ vars d.premise)) → IsDependency d
IsDependency-from_parts d some l b = record { some_atom = some; once = l.once; used = l.used; apart = l.apart; bound = b }

pub IsDependency-listable : (d : Dependency) → IsDependency d → AreListable d d.exists
IsDependency-listable d ok = record { once = ok.once; used = ok.used; apart = ok.apart }

pub IsRefused-none : (d : Dependency) → IsDependency d → (cause : DepRefused) → IsRefused d cause → ⊥
IsRefused-none d ok Empty h = ok.some_atom h
IsRefused-none d ok (BadExists v) h =
    let f = h.1 in AreListable-none d d.exists (IsDependency-listable d ok) f.before f.after v f.split f.has
IsRefused-none d ok (Unbound v) h =
    let f = h.2 in
    elim (ok.bound v (∈-split (vars d.conclusion) f.before v f.after f.split)) [ inl k ↦ f.has.0 k | inr k ↦ f.has.1 k ]

-- no two causes hold of one dependency
pub refused-same : (d : Dependency) (a b : DepRefused) → IsRefused d a → IsRefused d b → a ≡ b
refused-same d Empty Empty h k = refl
refused-same d Empty (BadExists w) h k = absurd (k.0 h)
refused-same d Empty (Unbound w) h k = absurd (k.0 h)
refused-same d (BadExists v) Empty h k = absurd (h.0 k)
refused-same d (BadExists v) (BadExists w) h k = ap BadExists (IsFirst-same (IsBadExists d) d.exists v w h.1 k.1)
refused-same d (BadExists v) (Unbound w) h k = absurd (k.1 v h.1)
refused-same d (Unbound v) Empty h k = absurd (h.0 k)
refused-same d (Unbound v) (BadExists w) h k = absurd (h.1 w k.1)
refused-same d (Unbound v) (Unbound w) h k = ap Unbound (IsFirst-same (λ before x. IsUnbound d x) (vars d.conclusion) v w h.2 k.2)

-- so a cause that holds is the one that is told, and nothing is told of a dependency
pub err-accepted : (d : Dependency) (a : DepRefused) → IsRefused d a → (false ≡ true) ↔ IsDependency d
err-accepted d a h = (λ e. absurd (false≢true e), λ ok. absurd (IsRefused-none d ok a h))

pub err-refused : (T : Type 0) (d : Dependency) (a b : DepRefused) → IsRefused d a → ◌≡◌ {A = Result T DepRefused} (Err a) (Err b) ↔ IsRefused d b
err-refused T d a b h = (λ e. subst (λ c. IsRefused d c) (let s : a ≡ b = cc in s) h, λ k. ap Err (refused-same d a b h k))

pub ok-refused : (T : Type 0) (x : T) (d : Dependency) (b : DepRefused) → IsDependency d → ◌≡◌ {A = Result T DepRefused} (Ok x) (Err b) ↔ IsRefused d b
ok-refused T x d b ok = (λ e. cc, λ k. absurd (IsRefused-none d ok b k))

-- the first variable that nothing binds is told where the conclusion has an atom and the listed variables may be
pub Unbound-refused : (d : Dependency) (v : ℕ) → (d.conclusion ≡ [] → ⊥) → AreListable d d.exists → IsFirstUnbound d v → IsRefused d (Unbound v)
Unbound-refused d v some l u = (some, λ w f. AreListable-none d d.exists l f.before f.after w f.split f.has, u)

-- three lists are a dependency where all is bound
pub IsDependency-bound : (d : Dependency) → (d.conclusion ≡ [] → ⊥) → AreListable d d.exists → ((x : ℕ) → x ∈ vars d.conclusion → x ∈ (vars d.premise ++ d.exists)) → IsDependency d
IsDependency-bound d some l b =
    IsDependency-from_parts d some l (λ x h. elim (∈-append_cases x (vars d.premise) d.exists (b x h)) [ inl k ↦ inr k | inr k ↦ inl k ])

-- ---- the loop over listed variables

-- a bad variable behind listable ones is the first bad one
pub IsFirstBadExists-at : (d : Dependency) (i v : ℕ) → i < length d.exists → v ≡ get_or d.exists i 0 → AreListable d (take i d.exists) → IsBadExists d (take i d.exists) v → IsFirst (IsBadExists d) d.exists v
IsFirstBadExists-at d i v l e listable bad = record {
  before = take i d.exists;
  after = drop (i + 1) d.exists;
  split = sym (take-append-drop i d.exists) ∙ ap (λ xs. take i d.exists ++ xs) (drop_more d.exists i 0 l ∙ ap (λ x. x ∷ drop (i + 1) d.exists) (sym e));
  has = bad;
  none_before = AreListable-none d (take i d.exists) listable;
}

-- one listable variable more
pub AreListable-more : (d : Dependency) (xs : List ℕ) (i v : ℕ) → i < length xs → v ≡ get_or xs i 0 → AreListable d (take i xs) →
    (v ∈ (vars d.premise ++ take i xs) → ⊥) → v ∈ (vars d.conclusion ++ []) → AreListable d (take (i + 1) xs)
AreListable-more d xs i v l e listable fresh concluded =
    let more : take (i + 1) xs ≡ take i xs ++ v ∷ [] = take_more xs i 0 l ∙ ap (λ x. take i xs ++ x ∷ []) (sym e) in
    let cases : (x : ℕ) → x ∈ take (i + 1) xs → (x ∈ take i xs) ⊎ (x ∈ (v ∷ [])) = λ x h. ∈-append_cases x (take i xs) (v ∷ []) (subst (λ ys. x ∈ ys) more h) in
    record {
      once = subst (λ ys. IsDistinct ys) (sym more) (IsDistinct-push (take i xs) v listable.once (λ h. fresh (∈-append_right v (vars d.premise) (take i xs) h)));
      used = λ x h. elim (cases x h) [
        | inl k ↦ listable.used x k
        | inr k ↦ elim k [ inl q ↦ subst (λ y. y ∈ vars d.conclusion) (sym q) (subst (λ ys. v ∈ ys) (append-nil (vars d.conclusion)) concluded) | inr k ↦ absurd k ]
      ];
      apart = λ x h p. elim (cases x h) [
        | inl k ↦ listable.apart x k p
        | inr k ↦ elim k [ inl q ↦ fresh (∈-append_left v (vars d.premise) (take i xs) (subst (λ y. y ∈ vars d.premise) q p)) | inr k ↦ absurd k ]
      ];
    }

-- ---- the loops over conclusion variables

-- a first element stays the first one behind elements that lack the property
pub IsFirst-behind : (P : ℕ → Type 0) (front back rest : List ℕ) (v : ℕ) → ((x : ℕ) → x ∈ front → P x → ⊥) → IsFirst (λ before x. P x) back v → IsFirst (λ before x. P x) (front ++ (back ++ rest)) v
IsFirst-behind P front back rest v none f = record {
  before = front ++ f.before;
  after = f.after ++ rest;
  split = ap (λ xs. front ++ xs) (ap (λ xs. xs ++ rest) f.split ∙ append_assoc f.before (v ∷ f.after) rest) ∙ sym (append_assoc front f.before (v ∷ (f.after ++ rest)));
  has = f.has;
  none_before = λ start tail w e p. elim (∈-append_cases w front f.before (∈-split (front ++ f.before) start w tail e)) [
    | inl k ↦ none w k p
    | inr k ↦ (let s = split-at w f.before k in f.none_before s.0 s.1 w s.2 p)
  ];
}
  where
    split-at : (w : ℕ) (xs : List ℕ) → w ∈ xs → (start : List ℕ) × (tail : List ℕ) × (xs ≡ start ++ w ∷ tail)
    split-at w [] h = elim h [ ]
    split-at w (x ∷ xs) (inl e) = ([], xs, ap (λ y. y ∷ xs) (sym e))
    split-at w (x ∷ xs) (inr h) = let r = split-at w xs h in (x ∷ r.0, r.1, ap (λ ys. x ∷ ys) r.2)

-- the first element of a list is the first that has what it has
pub IsFirst-head : (P : ℕ → Type 0) (v : ℕ) → P v → IsFirst (λ before x. P x) (v ∷ []) v
IsFirst-head P v p = record { before = []; after = []; split = refl; has = p; none_before = λ start tail w e q. absurd (∈-split [] start w tail e) }

-- what is bound is not unbound
pub bound-not_unbound : (d : Dependency) (x : ℕ) → x ∈ (vars d.premise ++ d.exists) → IsUnbound d x → ⊥
bound-not_unbound d x h u = elim (∈-append_cases x (vars d.premise) d.exists h) [ inl k ↦ u.1 k | inr k ↦ u.0 k ]

pub IsUnbound-from_absent : (d : Dependency) (x : ℕ) → (x ∈ (vars d.premise ++ d.exists) → ⊥) → IsUnbound d x
IsUnbound-from_absent d x n = (λ h. n (∈-append_right x (vars d.premise) d.exists h), λ h. n (∈-append_left x (vars d.premise) d.exists h))

-- the first unbound one among terms, or atoms, is found at a place before which all are bound
pub IsFirst-term : (d : Dependency) (ts : List Term) (i : ℕ) (t : Term) (v : ℕ) → i < length ts → get_or ts i t ≡ Var v → ((x : ℕ) → x ∈ term_vars (take i ts) → x ∈ (vars d.premise ++ d.exists)) → IsUnbound d v →
    IsFirst (λ before x. IsUnbound d x) (term_vars ts) v
IsFirst-term d ts i t v l e bound u =
    subst (λ xs. IsFirst (λ before x. IsUnbound d x) xs v) (sym (terms-split ts i t l))
    (IsFirst-behind (IsUnbound d) (term_vars (take i ts)) (term_vars (get_or ts i t ∷ [])) (term_vars (drop (i + 1) ts)) v (λ x h. bound-not_unbound d x (bound x h))
    (subst (λ (s : Term). IsFirst (λ before x. IsUnbound d x) (term_vars (s ∷ [])) v) (sym e) (IsFirst-head (IsUnbound d) v u)))

pub IsFirst-atom : (d : Dependency) (atoms : List Atom) (i : ℕ) (a : Atom) (ts : List Term) (v : ℕ) → i < length atoms → a ≡ get_or atoms i a → ts ≡ a.args →
    ((x : ℕ) → x ∈ vars (take i atoms) → x ∈ (vars d.premise ++ d.exists)) → IsFirst (λ before x. IsUnbound d x) (term_vars ts) v → IsFirst (λ before x. IsUnbound d x) (vars atoms) v
IsFirst-atom d atoms i a ts v l e s bound f =
    subst (λ xs. IsFirst (λ before x. IsUnbound d x) xs v) (sym (atoms-split atoms i a l e))
    (IsFirst-behind (IsUnbound d) (vars (take i atoms)) (term_vars a.args) (vars (drop (i + 1) atoms)) v (λ x h. bound-not_unbound d x (bound x h))
    (subst (λ us. IsFirst (λ before x. IsUnbound d x) (term_vars us) v) s f))

pub none-from : {X : Type 0} (o : Option X) → ((x : X) → o ≡ Some x → ⊥) → o ≡ None
none-from None apart = refl
none-from (Some x) apart = absurd (apart x refl)

pub ok-accepted : (d : Dependency) → IsDependency d → (true ≡ true) ↔ IsDependency d
ok-accepted d ok = (λ e. ok, λ h. refl)

-- the ways to be bad
pub IsBadExists-bound : (d : Dependency) (before : List ℕ) (v : ℕ) → v ∈ (vars d.premise ++ before) → IsBadExists d before v
IsBadExists-bound d before v h = elim (∈-append_cases v (vars d.premise) before h) [ inl k ↦ inl k | inr k ↦ inr (inl k) ]

pub IsBadExists-unused : (d : Dependency) (before : List ℕ) (v : ℕ) → (v ∈ (vars d.conclusion ++ []) → ⊥) → IsBadExists d before v
IsBadExists-unused d before v n = inr (inr (λ h. n (subst (λ xs. v ∈ xs) (sym (append-nil (vars d.conclusion))) h)))

-- marks of one listed variable more
pub AreMarks-more : (marks : List Bool) (front xs : List ℕ) (i v : ℕ) → i < length xs → v ≡ get_or xs i 0 → AreMarks marks ((front ++ take i xs) ++ v ∷ []) → AreMarks marks (front ++ take (i + 1) xs)
AreMarks-more marks front xs i v l e m =
    subst (λ ys. AreMarks marks ys) (append_assoc front (take i xs) (v ∷ []) ∙ ap (λ ys. front ++ ys) (sym (take_more xs i 0 l ∙ ap (λ x. take i xs ++ x ∷ []) (sym e)))) m

-- all are bound with one term more, which is no variable, or one that is bound
pub bound-fixed : (bs : List ℕ) (ts : List Term) (i : ℕ) (t : Term) → i < length ts → ((x : ℕ) → get_or ts i t ≡ Var x → ⊥) → ((x : ℕ) → x ∈ term_vars (take i ts) → x ∈ bs) → (x : ℕ) → x ∈ term_vars (take (i + 1) ts) → x ∈ bs
bound-fixed bs ts i t l n bound x h = elim (∈-term_vars_cases x ts i t l h)
    [ inl k ↦ bound x k | inr k ↦ absurd (subst (λ xs. x ∈ xs) (term_vars-fixed (get_or ts i t) n) k) ]

pub bound-variable : (bs : List ℕ) (ts : List Term) (i : ℕ) (t : Term) (v : ℕ) → i < length ts → get_or ts i t ≡ Var v → v ∈ bs → ((x : ℕ) → x ∈ term_vars (take i ts) → x ∈ bs) → (x : ℕ) → x ∈ term_vars (take (i + 1) ts) → x ∈ bs
bound-variable bs ts i t v l e b bound x h = elim (∈-term_vars_cases x ts i t l h) [
  | inl k ↦ bound x k
  | inr k ↦ elim (subst (λ (s : Term). x ∈ term_vars (s ∷ [])) e k) [ inl q ↦ subst (λ y. y ∈ bs) (sym q) b | inr k ↦ absurd k ]
]
