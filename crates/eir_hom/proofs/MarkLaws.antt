-- Marks of known values: which there are at first, and which come with a fact that is listed.
use Rattle.std.proofs.Common.{◌≡◌, ℕ, zero, suc, ◌+◌, ◌<◌, ◌==◌, inl, inr, Bool, true, false, ◌||◌, List, [], ◌∷◌, ◌++◌, map, filter, length, get_or, take, Option, Some, None, option_map, is_some, slice_get, refl, sym, ◌∙◌, ap, ap₂, subst, arith, eq-eqb, ne_eqb}
use Rattle.std.specs.List.{list_any}
use Rattle.std.proofs.Math.ListN.{set}
use Rattle.std.proofs.Math.Bool.{or-true, or-false}
use Rattle.std.proofs.lemmas.Bool.{cases_Bool}
use Rattle.std.proofs.lemmas.List.{length-map, take_more}
use Rattle.std.proofs.lemmas.List.Folds.{list_any-append}
use Rattle.std.proofs.lemmas.Option.{same_Some, none-some, slice_get_within, slice_get-map, get_or_from_slice_get}
use Rattle.eir_term.specs.declared.val.Val.{Val}
use Rattle.eir_term.specs.declared.fact.Fact.{Fact}
use Rattle.eir_term.specs.Lists.{◌∈◌, IsDistinct, place_of}
use Rattle.eir_term.specs.Values.{val_eq, val_eq-decides, is_fixed}
use Rattle.eir_term.specs.Instances.{values}
use Rattle.eir_term.specs.Maps.{get}
use Rattle.eir_term.specs.Plans.{is_known}
use Rattle.eir_term.proofs.ListLaws.{slice_get-place_of, place_of-tail, eq-refl, apart-false, false-apart}
use Rattle.eir_term.proofs.HomLaws.{map-agree, ∈-values}
use Rattle.eir_inst.specs.Numbers.{numbers_of}
use Rattle.eir_hom.specs.Occurring.{is_marked, AreMarked}

-- ---- numbers

pub ∈-read : {X : Type 0} (xs : List X) (n : ℕ) (x : X) → slice_get xs n ≡ Some x → x ∈ xs
∈-read [] n x e = absurd (none-some x e)
∈-read (y ∷ xs) zero x e = inl (sym (same_Some y x e))
∈-read (y ∷ xs) (suc n) x e = inr (∈-read xs n x e)

-- the values of a fact are values of the list
pub args-values : (K : List Fact) (p : ℕ) (f : Fact) (v : Val) → slice_get K p ≡ Some f → v ∈ f.args → v ∈ values K
args-values K p f v e h = ∈-values v f K (∈-read K p f e) h

-- a number is below how many there are
pub place_of-below : (v : Val) (vs : List Val) → v ∈ vs → place_of val_eq v vs < length vs
place_of-below v vs h = slice_get_within vs (place_of val_eq v vs) v (slice_get-place_of val_eq val_eq-decides v vs h)

-- it is the place where the value stands
pub place_of-unique : (vs : List Val) (n : ℕ) (v : Val) → IsDistinct vs → slice_get vs n ≡ Some v → place_of val_eq v vs ≡ n
place_of-unique [] n v d e = absurd (none-some v e)
place_of-unique (u ∷ vs) zero v d e = let same = same_Some u v e in rw (same, eq-refl val_eq val_eq-decides v) refl
place_of-unique (u ∷ vs) (suc n) v d e =
    place_of-tail val_eq val_eq-decides v u vs (λ q. d.0 (subst (λ (x : Val). x ∈ vs) q (∈-read vs n v e))) ∙ ap suc (place_of-unique vs n v d.1 e)

-- or the end
pub place_of-absent : (v : Val) (vs : List Val) → (v ∈ vs → ⊥) → place_of val_eq v vs ≡ length vs
place_of-absent v [] n = refl
place_of-absent v (u ∷ vs) n = place_of-tail val_eq val_eq-decides v u vs (λ e. n (inl e)) ∙ ap suc (place_of-absent v vs (λ h. n (inr h)))

pub numbers-below : (vs us : List Val) → ((v : Val) → v ∈ us → v ∈ vs) → (k : ℕ) → k < length (numbers_of vs us) → get_or (numbers_of vs us) k 0 < length vs
numbers-below vs [] all k l = absurd (omega arith)
numbers-below vs (u ∷ us) all zero l = place_of-below u vs (all u (inl refl))
numbers-below vs (u ∷ us) all (suc k) l = numbers-below vs us (λ v h. all v (inr h)) k (omega arith)

-- two values are the same where their numbers are
number-eq : (vs : List Val) (v u : Val) → v ∈ vs → u ∈ vs → (place_of val_eq v vs == place_of val_eq u vs) ≡ val_eq v u
number-eq vs v u h k = elim (cases_Bool (val_eq v u)) [
  | inl t ↦ (let e = (val_eq-decides v u).0 t in eq-eqb (place_of val_eq v vs) (place_of val_eq u vs) (ap (λ x. place_of val_eq x vs) e) ∙ sym t)
  | inr t ↦ ne_eqb (place_of val_eq v vs) (place_of val_eq u vs) (λ e. false-apart val_eq val_eq-decides v u t (same e)) ∙ sym t
]
  where
    same : place_of val_eq v vs ≡ place_of val_eq u vs → v ≡ u
    same e = same_Some v u (sym (slice_get-place_of val_eq val_eq-decides v vs h) ∙ ap (slice_get vs) e ∙ slice_get-place_of val_eq val_eq-decides u vs k)

any-number : (vs us : List Val) (v : Val) → v ∈ vs → ((u : Val) → u ∈ us → u ∈ vs) → list_any (λ n. place_of val_eq v vs == n) (numbers_of vs us) ≡ list_any (val_eq v) us
any-number vs [] v h all = refl
any-number vs (u ∷ us) v h all = ap₂ (λ a b. a || b) (number-eq vs v u h (all u (inl refl))) (any-number vs us v h (λ x k. all x (inr k)))

-- the numbers of a fact that is read
pub record Row (K : List Fact) (p : ℕ) (row : List ℕ) : Type 0 where
  pub fact : Fact
  pub there : slice_get K p ≡ Some fact
  pub numbers : row ≡ numbers_of (values K) fact.args

pub row-read : (K : List Fact) (p : ℕ) (row : List ℕ) → Some row ≡ option_map (λ f. numbers_of (values K) f.args) (slice_get K p) → Row K p row
row-read K p row e = by (slice_get K p) refl e
  where
    by : (o : Option Fact) → slice_get K p ≡ o → Some row ≡ option_map (λ f. numbers_of (values K) f.args) o → Row K p row
    by None s e = absurd (none-some row (sym e))
    by (Some f) s e = record { fact = f; there = s; numbers = same_Some row (numbers_of (values K) f.args) e }

-- ---- the values that are given

-- one pair more
get-push : (s : List (Val × Val)) (p : Val × Val) (u : Val) → is_some (get (s ++ p ∷ []) u) ≡ (is_some (get s u) || val_eq p.0 u)
get-push [] p u = elim (cases_Bool (val_eq p.0 u)) [ inl t ↦ rw t refl | inr t ↦ rw t refl ]
get-push (q ∷ s) p u = elim (cases_Bool (val_eq q.0 u)) [ inl t ↦ rw t refl | inr t ↦ rw t (get-push s p u) ]

known-given : (s : List (Val × Val)) (p : Val × Val) (u : Val) → val_eq p.0 u ≡ true → is_known (s ++ p ∷ []) [] u ≡ true
known-given s p u t = ap (λ b. is_fixed u || (b || false)) (get-push s p u ∙ ap (λ b. is_some (get s u) || b) t ∙ or-true (is_some (get s u))) ∙ or-true (is_fixed u)

known-other : (s : List (Val × Val)) (p : Val × Val) (u : Val) → val_eq p.0 u ≡ false → is_known (s ++ p ∷ []) [] u ≡ is_known s [] u
known-other s p u t = ap (λ b. is_fixed u || (b || false)) (get-push s p u ∙ ap (λ b. is_some (get s u) || b) t ∙ or-false (is_some (get s u)))

-- the value of one pair more is marked
pub given-more : (s : List (Val × Val)) (p : Val × Val) (vs : List Val) → IsDistinct vs → set (map (is_known s []) vs) (place_of val_eq p.0 vs) true ≡ map (is_known (s ++ p ∷ []) []) vs
given-more s p [] d = refl
given-more s p (u ∷ vs) d =
    let rest = given-more s p vs d.1 in
    elim (cases_Bool (val_eq p.0 u)) [
      | inl t ↦ rw t (ap₂ (λ b bs. b ∷ bs) (sym (known-given s p u t))
          (map-agree (is_known s []) (is_known (s ++ p ∷ []) []) vs (λ x h. sym (known-other s p x (apart-false val_eq val_eq-decides p.0 x (λ e. d.0 (subst (λ (y : Val). y ∈ vs) (sym e ∙ (val_eq-decides p.0 u).0 t) h)))))))
      | inr t ↦ rw t (ap₂ (λ b bs. b ∷ bs) (sym (known-other s p u t)) rest)
    ]

pub given-step : (s : List (Val × Val)) (i : ℕ) (p : Val × Val) (vs : List Val) (known : List Bool) → IsDistinct vs → slice_get s i ≡ Some p → known ≡ map (is_known (take i s) []) vs →
    set known (place_of val_eq p.0 vs) true ≡ map (is_known (take (i + 1) s) []) vs
given-step s i p vs known d there is =
    let more : take (i + 1) s ≡ take i s ++ p ∷ [] = take_more s i p (slice_get_within s i p there) ∙ ap (λ q. take i s ++ q ∷ []) (get_or_from_slice_get s i p p there) in
    ap (λ bs. set bs (place_of val_eq p.0 vs) true) is ∙ given-more (take i s) p vs d ∙ ap (λ t. map (is_known t []) vs) (sym more)

-- ---- marks of known values

-- at first
pub marked-first : (vs : List Val) (start : List (Val × Val)) (listed : List Fact) (known : List Bool) → known ≡ map (is_known start listed) vs → AreMarked vs start listed known
marked-first vs start listed known is = record {
  as_many = ap length is ∙ length-map vs (is_known start listed);
  marks = λ v h. ap (λ bs. get_or bs (place_of val_eq v vs) false) is ∙ get_or_from_slice_get (map (is_known start listed) vs) (place_of val_eq v vs) (is_known start listed v) false
      (slice_get-map (is_known start listed) vs (place_of val_eq v vs) ∙ ap (option_map (is_known start listed)) (slice_get-place_of val_eq val_eq-decides v vs h));
}

-- as many numbers are marked as values are known
pub bound-marked : (vs : List Val) (start : List (Val × Val)) (listed : List Fact) (known : List Bool) (us : List Val) → AreMarked vs start listed known → ((v : Val) → v ∈ us → v ∈ vs) →
    length (filter (is_marked known) (numbers_of vs us)) ≡ length (filter (is_known start listed) us)
bound-marked vs start listed known [] m all = refl
bound-marked vs start listed known (u ∷ us) m all =
    let rest = bound-marked vs start listed known us m (λ v h. all v (inr h)) in
    let here = m.marks u (all u (inl refl)) in
    elim (cases_Bool (is_known start listed u)) [
      | inl t ↦ (let s : is_marked known (place_of val_eq u vs) ≡ true = here ∙ t in rw (s, t) (ap suc rest))
      | inr t ↦ (let s : is_marked known (place_of val_eq u vs) ≡ false = here ∙ t in rw (s, t) rest)
    ]

regroup : (a b c d : Bool) → ((a || (b || c)) || d) ≡ (a || (b || (c || (d || false))))
regroup true b c d = refl
regroup false true c d = refl
regroup false false true d = refl
regroup false false false true = refl
regroup false false false false = refl

-- the values of a fact that is listed are known beside those that were
pub known-more : (start : List (Val × Val)) (listed : List Fact) (f : Fact) (v : Val) → (is_known start listed v || list_any (val_eq v) f.args) ≡ is_known start (listed ++ f ∷ []) v
known-more start listed f v =
    regroup (is_fixed v) (is_some (get start v)) (list_any (λ e. list_any (val_eq v) e.args) listed) (list_any (val_eq v) f.args)
    ∙ ap (λ b. is_fixed v || (is_some (get start v) || b)) (sym (list_any-append (λ e. list_any (val_eq v) e.args) listed (f ∷ [])))

pub marked-more : (vs : List Val) (start : List (Val × Val)) (listed : List Fact) (old new : List Bool) (f : Fact) → AreMarked vs start listed old → length new ≡ length old →
    ((v : Val) → v ∈ f.args → v ∈ vs) → ((n : ℕ) → n < length old → is_marked new n ≡ (is_marked old n || list_any (λ u. n == u) (numbers_of vs f.args))) → AreMarked vs start (listed ++ f ∷ []) new
marked-more vs start listed old new f m long all now = record {
  as_many = long ∙ m.as_many;
  marks = λ v h. let below = place_of-below v vs h in let wide = m.as_many in
      now (place_of val_eq v vs) (omega arith) ∙ ap₂ (λ a b. a || b) (m.marks v h) (any-number vs f.args v h all) ∙ known-more start listed f v;
}

-- ---- for the calls

-- the numbers of a row are below how many values there are
pub row-below : (K : List Fact) (p : ℕ) (row : List ℕ) → Row K p row → (k : ℕ) → k < length row → get_or row k 0 < length (values K)
row-below K p row r k l =
    subst (λ (ns : List ℕ). k < length ns → get_or ns k 0 < length (values K)) (sym r.numbers) (λ m. numbers-below (values K) r.fact.args (λ v h. args-values K p r.fact v r.there h) k m) l

-- a row has as many numbers as its fact has columns
pub row-length : (K : List Fact) (p : ℕ) (row : List ℕ) (r : Row K p row) → length row ≡ length r.fact.args
row-length K p row r = ap length r.numbers ∙ length-map r.fact.args (λ v. place_of val_eq v (values K))

-- the fact that is read by its place
pub fact-read : (K : List Fact) (p : ℕ) (row : List ℕ) (r : Row K p row) (f d : Fact) → f ≡ get_or K p d → r.fact ≡ f
fact-read K p row r f d e = sym (e ∙ get_or_from_slice_get K p r.fact d r.there)
