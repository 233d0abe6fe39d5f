-- What each part of the verdict says of the examples. The points are `first_refuting-some` and `all-extend`: a
-- homomorphism that is found refutes, and where none is found all homomorphisms between the sources extend; and for
-- foreign constants `first_foreign-some` and `none-foreign`; for folds `fold_test-some` and `all-fold`. Extensions and
-- folds are both asked of `homs` from a start that sends the constants of an instance as a function does (`some_hom`,
-- `no_hom`).
use Rattle.std.proofs.Common.{◌≡◌, ℕ, suc, ◌+◌, ◌⊎◌, inl, inr, Bool, true, false, not, cond, List, [], ◌∷◌, find, Option, Some, None, option_map, slice_get, refl, sym, ◌∙◌, ap, subst, arith}
use Rattle.std.specs.List.{list_any}
use Rattle.std.proofs.lemmas.Bool.{cases_Bool, false≢true, not-true, not-false, both_ways}
use Rattle.std.proofs.lemmas.Option.{same_Some, none-some}
use Rattle.eir_term.specs.declared.val.Val.{Val}
use Rattle.eir_term.specs.declared.val.Val.TheVariants.{Const, Fixed}
use Rattle.eir_term.specs.declared.val.Kind.TheVariants.{Gav}
use Rattle.eir_term.specs.declared.fact.Fact.{Fact}
use Rattle.eir_term.specs.Lists.{◌∈◌}
use Rattle.eir_term.specs.Values.{val_eq, val_eq-decides, is_const}
use Rattle.eir_term.specs.Instances.{values, consts, ground_part}
use Rattle.eir_term.specs.Maps.{domain_of, image, graph}
use Rattle.eir_term.specs.Homs.{Hom}
use Rattle.eir_term.specs.Extension.{Extends, Refutes}
use Rattle.eir_term.specs.Faults.{IsForeign, Folds}
use Rattle.eir_term.specs.Fitting.{DataExample}
use Rattle.eir_term.specs.Search.{homs, constants_fixed}
use Rattle.eir_term.specs.Order.{KeepsFixed}
use Rattle.eir_term.specs.Verdicts.{Finding, foreign_at, no_fold_at, refuted, or_else, first_finding, is_none_of, first_foreign, has_fold, is_stuck, first_refuting, domain_finding, fold_finding, refuted_finding}
use Rattle.eir_term.proofs.ListLaws.{∈-filter_from, ∈-list_any, ∈-list_any_from}
use Rattle.eir_term.proofs.MapLaws.{∈-domain_of}
use Rattle.eir_term.proofs.HomLaws.{consts-values, image-graph, image-graph_none, get-graph, domain_of-graph}
use Rattle.eir_term.proofs.BindLaws.{Follows}
use Rattle.eir_term.proofs.SearchLaws.{homs-sound, homs-complete, homs-complete_map}
pub use Rattle.eir_term.proofs.SearchLaws.{option_map-is}

-- what is found is an element that passes
pub find-some : {X : Type 0} (p : X → Bool) (x : X) (xs : List X) → find p xs ≡ Some x → (x ∈ xs) × (p x ≡ true)
find-some p x [] e = absurd (none-some x e)
find-some p x (y ∷ xs) e = elim (cases_Bool (p y)) [
  | inl t ↦ (let q : y ≡ x = same_Some y x (sym (rw t) ∙ e) in (inl (sym q), ap p (sym q) ∙ t))
  | inr t ↦ (let k : find p xs ≡ Some x = sym (rw t) ∙ e in let r = find-some p x xs k in (inr r.0, r.1))
]

-- where nothing is found no element passes
pub find-none : {X : Type 0} (p : X → Bool) (x : X) (xs : List X) → find p xs ≡ None → x ∈ xs → p x ≡ false
find-none p x [] e h = elim h [ ]
find-none p x (y ∷ xs) e h = elim (cases_Bool (p y)) [
  | inl t ↦ absurd (none-some y (sym e ∙ rw t))
  | inr t ↦ elim h [ inl q ↦ ap p q ∙ t | inr k ↦ (let r : find p xs ≡ None = sym (rw t) ∙ e in find-none p x xs r k) ]
]

-- the earlier finding or the later one
pub or_else-some : (a b : Option Finding) (r : Finding) → or_else a b ≡ Some r → (a ≡ Some r) ⊎ ((a ≡ None) × (b ≡ Some r))
or_else-some None b r e = inr (refl, e)
or_else-some (Some x) b r e = inl e

pub or_else-none : (a b : Option Finding) → or_else a b ≡ None → (a ≡ None) × (b ≡ None)
or_else-none None b e = (refl, e)
or_else-none (Some x) b e = absurd (none-some x (sym e))

-- what is found first is what the test says of an element at its place, counted on from n
pub first_finding-some : {X : Type 0} (test : ℕ → X → Option Finding) (n : ℕ) (xs : List X) (r : Finding) → first_finding test n xs ≡ Some r →
    (k : ℕ) × (x : X) × (slice_get xs k ≡ Some x) × (x ∈ xs) × (test (n + k) x ≡ Some r)
first_finding-some test n [] r e = absurd (none-some r e)
first_finding-some test n (x ∷ xs) r e = elim (or_else-some (test n x) (first_finding test (suc n) xs) r e) [
  | inl q ↦ (0, x, refl, inl refl, ap (λ m. test m x) (let s : n + 0 ≡ n = omega arith in s) ∙ q)
  | inr q ↦ (let i = first_finding-some test (suc n) xs r q.1 in
      let s : n + suc i.0 ≡ suc n + i.0 = omega arith in (suc i.0, i.1, i.2, inr i.3, ap (λ m. test m i.1) s ∙ i.4))
]

-- where nothing is found the test says nothing of any element
pub first_finding-none : {X : Type 0} (test : ℕ → X → Option Finding) (n : ℕ) (xs : List X) (x : X) → first_finding test n xs ≡ None → x ∈ xs → (k : ℕ) × (test k x ≡ None)
first_finding-none test n [] x e h = elim h [ ]
first_finding-none test n (y ∷ xs) x e (inl q) = (n, ap (test n) q ∙ (or_else-none (test n y) (first_finding test (suc n) xs) e).0)
first_finding-none test n (y ∷ xs) x e (inr h) = first_finding-none test (suc n) xs x (or_else-none (test n y) (first_finding test (suc n) xs) e).1 h

-- a function makes nothing of nothing alone
pub option_map-none : {X Y : Type 0} (f : X → Y) (o : Option X) → option_map f o ≡ None → o ≡ None
option_map-none f None e = refl
option_map-none f (Some x) e = absurd (none-some (f x) (sym e))

-- a fixed constant is no constant
consts-no_fixed : (K : List Fact) (n : ℕ) → Fixed n ∈ consts K → ⊥
consts-no_fixed K n h = false≢true (∈-filter_from is_const (Fixed n) (values K) h).1

-- g on the constants of an instance moves no fixed constant
graph-keeps_fixed : (g : Val → Val) (J : List Fact) → KeepsFixed (graph g (consts J))
graph-keeps_fixed g J n = image-graph_none g (Fixed n) (consts J) (consts-no_fixed J n)

-- what agrees with g on them follows it
graph-follows : (g k : Val → Val) (J : List Fact) → ((v : Val) → v ∈ consts J → k v ≡ g v) →
    Follows k (graph g (consts J))
graph-follows g k J same v w q =
    let named = ∈-domain_of (graph g (consts J)) v w q in
    let i : v ∈ consts J = subst (λ vs. v ∈ vs) (domain_of-graph g (consts J)) named in
    same v i ∙ same_Some (g v) w (sym (get-graph g v (consts J) i) ∙ q)

is_none_of-true : (hs : List (List (Val × Val))) (h : List (Val × Val)) → is_none_of hs ≡ true → h ∈ hs → ⊥
is_none_of-true [] h t i = i
is_none_of-true (k ∷ hs) h t i = false≢true t

is_none_of-false : (hs : List (List (Val × Val))) → is_none_of hs ≡ false → (h : List (Val × Val)) × (h ∈ hs)
is_none_of-false [] t = absurd (false≢true (sym t))
is_none_of-false (h ∷ hs) t = (h, inl refl)

-- where some homomorphism is listed from that start, it agrees with g on the constants
some_hom : (g : Val → Val) (J L : List Fact) → is_none_of (homs J L (graph g (consts J))) ≡ false →
    (h : List (Val × Val)) × Hom h J L × ((v : Val) → v ∈ consts J → image h v ≡ g v)
some_hom g J L t =
    let k = is_none_of-false (homs J L (graph g (consts J))) t in
    let r = homs-sound J L (graph g (consts J)) k.0 (graph-keeps_fixed g J) k.1 in
    let named = sym (domain_of-graph g (consts J)) in
    (k.0, r.0, λ v i. r.2 v (consts-values v J i) (subst (λ vs. v ∈ vs) named i) ∙ image-graph g v (consts J) i)

-- where none is listed there is none
no_hom : (g : Val → Val) (J L : List Fact) → is_none_of (homs J L (graph g (consts J))) ≡ true →
    (h : List (Val × Val)) → Hom h J L → ((v : Val) → v ∈ consts J → image h v ≡ g v) → ⊥
no_hom g J L t h hom same = is_none_of-true (homs J L (graph g (consts J))) (graph (image h) (values J)) t
    (homs-complete J L (graph g (consts J)) (image h) hom.morphism (graph-follows g (image h) J same))

-- the test of the extension is exact: a homomorphism that is stuck does not extend
pub no_extension : (e f : DataExample) (h : List (Val × Val)) → is_stuck e f h ≡ true → Extends h e.target f.target → ⊥
no_extension e f h t x = no_hom (image h) e.target f.target t x.0 x.1 x.2

-- and one that is not stuck extends
pub an_extension : (e f : DataExample) (h : List (Val × Val)) → is_stuck e f h ≡ false → Extends h e.target f.target
an_extension e f h t = some_hom (image h) e.target f.target t

-- the test of folding is exact
pub a_fold : (J : List Fact) → has_fold J ≡ true → Folds J
a_fold J t =
    let hs = homs J (ground_part J) (constants_fixed J) in
    some_hom (λ v. v) J (ground_part J) (not-true (is_none_of hs) t)

pub no_fold : (J : List Fact) → has_fold J ≡ false → Folds J → ⊥
no_fold J t x =
    let hs = homs J (ground_part J) (constants_fixed J) in
    no_hom (λ v. v) J (ground_part J) (not-false (is_none_of hs) t) x.0 x.1 x.2

-- what is found of a target is that it does not fold
pub fold_test-some : (J : List Fact) (found r : Finding) → cond (has_fold J) None (Some found) ≡ Some r →
    (Folds J → ⊥) × (found ≡ r)
fold_test-some J found r e = elim (cases_Bool (has_fold J)) [
  | inl t ↦ (let q : None ≡ Some r = sym (rw t) ∙ e in absurd (none-some r q))
  | inr t ↦ (let q : Some found ≡ Some r = sym (rw t) ∙ e in (no_fold J t, same_Some found r q))
]

-- and where nothing is found it folds
pub fold_test-none : (J : List Fact) (found : Finding) → cond (has_fold J) None (Some found) ≡ None → Folds J
fold_test-none J found e = elim (cases_Bool (has_fold J)) [
  | inl t ↦ a_fold J t
  | inr t ↦ (let q : Some found ≡ None = sym (rw t) ∙ e in absurd (none-some found (sym q)))
]

-- the homomorphism that is found refutes
pub first_refuting-some : (e f : DataExample) (h : List (Val × Val)) → first_refuting e f ≡ Some h → Refutes e f h
first_refuting-some e f h q =
    let r = find-some (is_stuck e f) h (homs e.source f.source []) q in
    let s = homs-sound e.source f.source [] h (λ n. refl) r.0 in
    record { hom = s.0; named = s.1; stuck = no_extension e f h r.1 }

-- where none is found every homomorphism between the sources extends
pub first_refuting-none : (e f : DataExample) (h : List (Val × Val)) → first_refuting e f ≡ None → Hom h e.source f.source → domain_of h ≡ values e.source → Extends h e.target f.target
first_refuting-none e f h q hom named =
    let listed = homs-complete_map e.source f.source [] h (λ n. refl) hom named (λ v i none. absurd none) in
    an_extension e f h (find-none (is_stuck e f) h (homs e.source f.source []) q listed)

-- the constant that is found is foreign
pub first_foreign-some : (e : DataExample) (v : Val) → first_foreign e ≡ Some v → IsForeign e v
first_foreign-some e v q =
    let r = find-some (λ c. not (list_any (val_eq c) (consts e.source))) v (consts e.target) q in
    (r.0, λ i. both_ways (list_any (val_eq v) (consts e.source)) (not-true (list_any (val_eq v) (consts e.source)) r.1) (∈-list_any val_eq val_eq-decides v (consts e.source) i))

-- where none is found each constant of the target occurs in the source
pub first_foreign-none : (e : DataExample) (v : Val) → first_foreign e ≡ None → v ∈ consts e.target → v ∈ consts e.source
first_foreign-none e v q i = ∈-list_any_from val_eq val_eq-decides v (consts e.source)
    (not-false (list_any (val_eq v) (consts e.source)) (find-none (λ c. not (list_any (val_eq c) (consts e.source))) v (consts e.target) q i))

-- where no finding is of a foreign constant, no example has one
pub none-foreign : (E : List DataExample) → domain_finding E ≡ None → (e : DataExample) → e ∈ E → (c : ℕ) → Const c ∈ consts e.target → Const c ∈ consts e.source
none-foreign E q e i c =
    let r = first_finding-none (λ i e. option_map (foreign_at i) (first_foreign e)) 0 E e q i in
    first_foreign-none e (Const c) (option_map-none (foreign_at r.0) (first_foreign e) r.1)

-- where no finding is of a target that does not fold, every target folds
pub all-fold : (E : List DataExample) → fold_finding Gav E ≡ None → (e : DataExample) → e ∈ E → Folds e.target
all-fold E q e i =
    let r = first_finding-none (λ i e. cond (has_fold e.target) None (Some (no_fold_at i))) 0 E e q i in
    fold_test-none e.target (no_fold_at r.0) r.1

-- where no pair is refuted, every homomorphism between two sources extends to the targets
pub all-extend : (E : List DataExample) → refuted_finding E ≡ None → (e f : DataExample) → e ∈ E → f ∈ E → (h : List (Val × Val)) →
    Hom h e.source f.source → domain_of h ≡ values e.source → Extends h e.target f.target
all-extend E q e f i j h =
    let r = first_finding-none (λ i e. first_finding (λ j f. option_map (refuted i j) (first_refuting e f)) 0 E) 0 E e q i in
    let s = first_finding-none (λ j f. option_map (refuted r.0 j) (first_refuting e f)) 0 E f r.1 j in
    first_refuting-none e f h (option_map-none (refuted r.0 s.0) (first_refuting e f) s.1)
