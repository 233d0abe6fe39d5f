-- The rows of a table are those of the facts that a fact may go to.
use Rattle.std.proofs.Common.{◌≡◌, ◌<◌, ◌≤◌, ℕ, zero, suc, ◌+◌, Bool, true, false, cond, eqb, ◌==◌, ◌&&◌, List, [], ◌∷◌, ◌++◌, map, filter, take, drop, length, get_or, Option, Some, None, option_map, unwrap_or, slice_get, refl, sym, ap, ap₂, ◌∙◌, subst, inl, inr, append-nil, arith}
use Rattle.std.proofs.lemmas.List.{get_or-map, map-append, take-map, drop-map, take_more, length-map, length-append, length-take, length-drop}
use Rattle.std.proofs.lemmas.List.Sums.{sum_by-cons, sum_by-le-sum_by}
use Rattle.std.proofs.lemmas.List.FromFn.{length-map-range_with_len, length-range_with_len, get_or-range_with_len}
use Rattle.std.proofs.lemmas.List.Elements.{filter-append}
use Rattle.std.proofs.lemmas.Bool.{cases_Bool, cases_lt, false≢true, and_parts}
use Rattle.std.proofs.lemmas.Bool.Decides.{Decides-eqb}
use Rattle.std.proofs.lemmas.Option.{same_Some, slice_get_past}
use Rattle.std.specs.List.{range_with_len, sum_by}
use Rattle.eir_term.specs.declared.val.Val.{Val}
use Rattle.eir_term.specs.declared.fact.Fact.{Fact}
use Rattle.eir_term.specs.Lists.{◌∈◌, places}
use Rattle.eir_term.specs.Values.{val_eq, val_eq-decides}
use Rattle.eir_term.specs.Instances.{values}
use Rattle.eir_term.specs.Profiles.{Mark, has_at, profile, is_within}
use Rattle.eir_term.specs.Plans.{fits_profiles}
use Rattle.eir_term.proofs.ListLaws.{slice_get-place_of, ∈-filter_from}
use Rattle.eir_term.proofs.OrderLaws.{place_of-slice_get}
use Rattle.eir_term.proofs.HomLaws.{∈-values, IsDistinct-values}
use Rattle.eir_hom.specs.declared.course.Shape.{Shape}
use Rattle.eir_hom.specs.Levels.{number, but_at, may_go, has_number, row_of, rows_for}
use Rattle.eir_hom.specs.FactRows.{AllUnder, HaveRows, Within, numbers_at, row_at}
use Rattle.eir_hom.specs.Fits.{are_fits, fits_row}
use Rattle.eir_hom.specs.Tables.{Table}
use Rattle.eir_hom.specs.Stocks.{fact_table, shape_table, no_table, rel_of, IsShape, AreShapes, under_key, may_be_at, key_count, row_length}
use Rattle.eir_hom.proofs.FitLaws.{AllUnder-∈, map-map, eqb-apart}

-- what is found at a place
pub get_or-found : {X : Type 0} (xs : List X) (i : ℕ) (x d : X) → slice_get xs i ≡ Some x → (i < length xs) × (get_or xs i d ≡ x)
get_or-found [] i x d e = absurd (let z : Some x ≡ None = sym e in cc)
get_or-found (y ∷ xs) zero x d e = (omega arith, cc)
get_or-found (y ∷ xs) (suc i) x d e = let r = get_or-found xs i x d e in (omega (arith, r.0), r.1)

-- what is there is found
pub slice_get-there : {X : Type 0} (xs : List X) (i : ℕ) → i < length xs → (x : X) × (slice_get xs i ≡ Some x)
slice_get-there [] i h = absurd (omega arith)
slice_get-there (x ∷ xs) zero h = (x, refl)
slice_get-there (x ∷ xs) (suc i) h = slice_get-there xs i (omega arith)

pub ∈-found : {X : Type 0} (xs : List X) (i : ℕ) (x : X) → slice_get xs i ≡ Some x → x ∈ xs
∈-found [] i x e = absurd (let z : Some x ≡ None = sym e in cc)
∈-found (y ∷ xs) zero x e = inl (let z : Some y ≡ Some x = e in cc)
∈-found (y ∷ xs) (suc i) x e = inr (∈-found xs i x e)

-- the number of a value
pub number-found : (K : List Fact) (v : Val) → v ∈ values K → slice_get (values K) (number K v) ≡ Some v
number-found K v h = slice_get-place_of val_eq val_eq-decides v (values K) h

pub number-under : (K : List Fact) (vs : List Val) → ((v : Val) → v ∈ vs → v ∈ values K) → AllUnder (length (values K)) (map (number K) vs)
number-under K [] all = tt
number-under K (v ∷ vs) all = ((get_or-found (values K) (number K v) v v (number-found K v (all v (inl refl)))).0, number-under K vs (λ w h. all w (inr h)))

-- a fact's values are values
pub args-among : (K : List Fact) (p : ℕ) (f : Fact) → slice_get K p ≡ Some f → (v : Val) → v ∈ f.args → v ∈ values K
args-among K p f e v h = ∈-values v f K (∈-found K p f e) h

pub numbers-are : (K : List Fact) (p : ℕ) (f : Fact) → slice_get K p ≡ Some f → numbers_at K p ≡ map (number K) f.args
numbers-are K p f e = ap (λ o. unwrap_or (option_map (λ f. map (number K) f.args) o) []) e

pub numbers-under : (K : List Fact) (p : ℕ) → AllUnder (length (values K)) (numbers_at K p)
numbers-under K p = by (slice_get K p) refl
  where
    by : (o : Option Fact) → slice_get K p ≡ o → AllUnder (length (values K)) (unwrap_or (option_map (λ f. map (number K) f.args) o) [])
    by None e = tt
    by (Some f) e = number-under K f.args (args-among K p f e)

-- the answers are for all values
pub length-fits : (A B : List Fact) → length (are_fits A B) ≡ length (values A)
length-fits A B = length-map (map (profile A) (values A)) (λ p. map (is_within p) (map (profile B) (values B))) ∙ length-map (values A) (profile A)

module _ (A B : List Fact) where
  row : List Mark → List Bool
  row p = map (is_within p) (map (profile B) (values B))

  answers-row : (v : Val) (n : ℕ) → slice_get (values A) n ≡ Some v → get_or (are_fits A B) n [] ≡ map (is_within (profile A v)) (map (profile B) (values B))
  answers-row v n e =
      let r = get_or-found (values A) n v v e in
      ap (λ xs. get_or xs n []) (map-map (λ p. map (is_within p) (map (profile B) (values B))) (profile A) (values A)) ∙ get_or-map (λ v. map (is_within (profile A v)) (map (profile B) (values B))) (values A) n v [] r.0 ∙ ap (λ v. map (is_within (profile A v)) (map (profile B) (values B))) r.1

  pub length-answers : (n : ℕ) → n < length (values A) → length (get_or (are_fits A B) n []) ≡ length (values B)
  length-answers n h =
      let f = slice_get-there (values A) n h in
      ap length (answers-row f.0 n f.1) ∙ length-map (map (profile B) (values B)) (is_within (profile A f.0)) ∙ length-map (values B) (profile B)

  answer-is : (v w : Val) → v ∈ values A → w ∈ values B → get_or (get_or (are_fits A B) (number A v) []) (number B w) false ≡ is_within (profile A v) (profile B w)
  answer-is v w h g =
      let r = get_or-found (values B) (number B w) w w (number-found B w g) in
      ap (λ xs. get_or xs (number B w) false) (answers-row v (number A v) (number-found A v h) ∙ map-map (is_within (profile A v)) (profile B) (values B)) ∙ get_or-map (λ w. is_within (profile A v) (profile B w)) (values B) (number B w) w false r.0 ∙ ap (λ w. is_within (profile A v) (profile B w)) r.1

  -- rows of numbers fit where the profiles do
  fits-are : (vs ws : List Val) → ((v : Val) → v ∈ vs → v ∈ values A) → ((w : Val) → w ∈ ws → w ∈ values B) → fits_row (are_fits A B) (map (number A) vs) (map (number B) ws) ≡ fits_profiles A B vs ws
  fits-are [] [] a b = refl
  fits-are [] (w ∷ ws) a b = refl
  fits-are (v ∷ vs) [] a b = refl
  fits-are (v ∷ vs) (w ∷ ws) a b =
      ap₂ (λ x y. x && y) (answer-is v w (a v (inl refl)) (b w (inl refl))) (fits-are vs ws (λ u h. a u (inr h)) (λ u h. b u (inr h)))

pub fits-length : (t : List (List Bool)) (ns ms : List ℕ) → fits_row t ns ms ≡ true → length ns ≡ length ms
fits-length t [] [] e = refl
fits-length t [] (m ∷ ms) e = absurd (false≢true e)
fits-length t (n ∷ ns) [] e = absurd (false≢true e)
fits-length t (n ∷ ns) (m ∷ ms) e = ap suc (fits-length t ns ms (and_parts (get_or (get_or t n []) m false) (fits_row t ns ms) e).1)

-- filters
filter-same : {X : Type 0} (p q : X → Bool) (xs : List X) → ((x : X) → x ∈ xs → p x ≡ q x) → filter p xs ≡ filter q xs
filter-same p q [] same = refl
filter-same p q (x ∷ xs) same =
    rw (same x (inl refl)) (ap (λ ys. cond (q x) (x ∷ ys) ys) (filter-same p q xs (λ y h. same y (inr h))))

filter-filter : {X : Type 0} (p q : X → Bool) (xs : List X) → filter p (filter q xs) ≡ filter (λ x. q x && p x) xs
filter-filter p q [] = refl
filter-filter p q (x ∷ xs) = elim (cases_Bool (q x)) [ inl t ↦ rw t (ap (λ ys. cond (p x) (x ∷ ys) ys) (filter-filter p q xs)) | inr f ↦ rw f (filter-filter p q xs) ]

-- what is said of places is said of facts
places-rows : {X : Type 0} (F : ℕ → X) (G : Fact → X) (q : ℕ → Bool) (q' r : Fact → Bool) (n : ℕ) (xs : List Fact) → ((k : ℕ) (g : Fact) → slice_get xs k ≡ Some g → (F (n + k) ≡ G g) × (q (n + k) ≡ q' g)) → map F (filter q (places r n xs)) ≡ map G (filter (λ g. r g && q' g) xs)
places-rows F G q q' r n [] all = refl
places-rows F G q q' r n (x ∷ xs) all =
    let here = all 0 x refl in
    let z : n + 0 ≡ n = omega arith in
    let f : F n ≡ G x = ap F (sym z) ∙ here.0 in
    let t : q n ≡ q' x = ap q (sym z) ∙ here.1 in
    let rest = places-rows F G q q' r (suc n) xs (λ k g e. let s : suc n + k ≡ n + suc k = omega arith in let a = all (suc k) g e in (ap F s ∙ a.0, ap q s ∙ a.1)) in
    elim (cases_Bool (r x)) [
      | inl a ↦ elim (cases_Bool (q' x)) [ inl b ↦ rw (a, t, b) (ap₂ (λ y ys. y ∷ ys) f rest) | inr b ↦ rw (a, t, b) rest ]
      | inr a ↦ rw a rest
    ]

-- the columns but one are as many in lists of one length
but_at-map : {X Y : Type 0} (i : Option ℕ) (h : X → Y) (xs : List X) → but_at i (map h xs) ≡ map h (but_at i xs)
but_at-map None h xs = refl
but_at-map (Some i) h xs =
    ap₂ (λ a b. a ++ b) (take-map h i xs) (drop-map h (suc i) xs) ∙ sym (map-append h (take i xs) (drop (suc i) xs))

pub length-but_at : {X Y : Type 0} (i : Option ℕ) (xs : List X) (ys : List Y) → length xs ≡ length ys → length (but_at i xs) ≡ length (but_at i ys)
length-but_at None xs ys e = e
length-but_at (Some i) xs ys e =
    omega (arith, length-append (take i xs) (drop (suc i) xs), length-append (take i ys) (drop (suc i) ys), length-take i xs, length-take i ys, length-drop (suc i) xs, length-drop (suc i) ys)

pub Within-same : (i : Option ℕ) (ns ms : List ℕ) → length ns ≡ length ms → Within i ns → Within i ms
Within-same None ns ms e w = tt
Within-same (Some i) ns ms e w = omega arith

eqb-sym : (m n : ℕ) → eqb m n ≡ eqb n m
eqb-sym m n = elim (cases_Bool (eqb n m))
    [ inl t ↦ (Decides-eqb m n).1 (sym ((Decides-eqb n m).0 t)) ∙ sym t | inr f ↦ eqb-apart m n (λ e. false≢true (sym f ∙ (Decides-eqb n m).1 (sym e))) ∙ sym f ]

∈-places : (r : Fact → Bool) (n p : ℕ) (xs : List Fact) → p ∈ places r n xs → (k : ℕ) × (g : Fact) × (p ≡ n + k) × (slice_get xs k ≡ Some g)
∈-places r n p [] h = elim h [ ]
∈-places r n p (x ∷ xs) h = by (r x) (λ k. let t = ∈-places r (suc n) p xs k in (suc t.0, t.1, t.2 ∙ (omega arith), t.3)) h
  where
    by : (b : Bool) → (p ∈ places r (suc n) xs → (k : ℕ) × (g : Fact) × (p ≡ n + k) × (slice_get (x ∷ xs) k ≡ Some g)) → p ∈ cond b (n ∷ places r (suc n) xs) (places r (suc n) xs) → (k : ℕ) × (g : Fact) × (p ≡ n + k) × (slice_get (x ∷ xs) k ≡ Some g)
    by true later (inl e) = (0, x, e ∙ (omega arith), refl)
    by true later (inr h) = later h
    by false later h = later h

and-apart : (a b c : Bool) → (a && (b && c)) ≡ ((a && b) && c)
and-apart true b c = refl
and-apart false b c = refl

and-false : (a : Bool) → (a && false) ≡ false
and-false true = refl
and-false false = refl

and-swap : (a b c : Bool) → ((a && b) && c) ≡ ((a && c) && b)
and-swap true true true = refl
and-swap true true false = refl
and-swap true false true = refl
and-swap true false false = refl
and-swap false b c = refl

filter-none : {X : Type 0} (p : X → Bool) (xs : List X) → ((x : X) → x ∈ xs → p x ≡ false) → filter p xs ≡ []
filter-none p [] all = refl
filter-none p (x ∷ xs) all = rw (all x (inl refl)) (filter-none p xs (λ y h. all y (inr h)))

-- a place under a key is that of a fact
under-there : (B : List Fact) (rel : ℕ) (i : Option ℕ) (key p : ℕ) → p ∈ under_key B rel i key → (g : Fact) × (slice_get B p ≡ Some g)
under-there B rel None key p h = there (λ g. g.rel == rel) B p h
  where
    there : (r : Fact → Bool) (B : List Fact) (p : ℕ) → p ∈ places r 0 B → (g : Fact) × (slice_get B p ≡ Some g)
    there r B p h =
        let t = ∈-places r 0 p B h in
        let z : p ≡ t.0 = t.2 ∙ (omega arith) in
        (t.1, ap (slice_get B) z ∙ t.3)
under-there B rel (Some i) key p h = by (slice_get (values B) key) h
  where
    by : (o : Option Val) → p ∈ unwrap_or (option_map (λ v. places (has_at rel i v) 0 B) o) [] → (g : Fact) × (slice_get B p ≡ Some g)
    by None h = absurd h
    by (Some v) h =
        let t = ∈-places (has_at rel i v) 0 p B h in
        let z : p ≡ t.0 = t.2 ∙ (omega arith) in
        (t.1, ap (slice_get B) z ∙ t.3)

-- a value has its number
number-test : (B : List Fact) (w : ℕ) (v u : Val) → slice_get (values B) w ≡ Some v → u ∈ values B → val_eq v u ≡ (number B u == w)
number-test B w v u e h =
    let at = number-found B u h in
    elim (cases_Bool (val_eq v u)) [
      | inl t ↦ (let same : v ≡ u = (val_eq-decides v u).0 t in
          let n : number B u ≡ w = place_of-slice_get val_eq val_eq-decides u (values B) w (IsDistinct-values B) (e ∙ ap Some same) in
          t ∙ sym ((Decides-eqb (number B u) w).1 n))
      | inr t ↦ t ∙ sym (eqb-apart (number B u) w (λ n. let same : v ≡ u = same_Some v u (sym e ∙ ap (slice_get (values B)) (sym n) ∙ at) in false≢true (sym t ∙ (val_eq-decides v u).1 same)))
    ]

-- a fact has the value at a column where it has its number there
number-same : (B : List Fact) (i w : ℕ) (v : Val) (g : Fact) → slice_get (values B) w ≡ Some v → g ∈ B → unwrap_or (option_map (val_eq v) (slice_get g.args i)) false ≡ has_number B i w g
number-same B i w v g e h = by (slice_get g.args i) refl
  where
    by : (o : Option Val) → slice_get g.args i ≡ o → unwrap_or (option_map (val_eq v) o) false ≡ unwrap_or (option_map (λ u. number B u == w) o) false
    by None k = refl
    by (Some u) k = number-test B w v u e (∈-values u g B h (∈-found g.args i u k))

number-past : (B : List Fact) (i w : ℕ) (g : Fact) → length (values B) ≤ w → g ∈ B → has_number B i w g ≡ false
number-past B i w g past h = by (slice_get g.args i) refl
  where
    by : (o : Option Val) → slice_get g.args i ≡ o → unwrap_or (option_map (λ u. number B u == w) o) false ≡ false
    by None k = refl
    by (Some u) k =
        let below = (get_or-found (values B) (number B u) u u (number-found B u (∈-values u g B h (∈-found g.args i u k)))).0 in
        eqb-apart (number B u) w (λ n. absurd (omega arith))

module _ (A B : List Fact) (s : Shape) (f : Fact) (found : slice_get A s.place ≡ Some f) where
  ns : numbers_at A s.place ≡ map (number A) f.args
  ns = numbers-are A s.place f found

  -- whether a place is one that the fact may go to
  goes : (p : ℕ) (g : Fact) → slice_get B p ≡ Some g → fits_row (are_fits A B) (numbers_at A s.place) (numbers_at B p) ≡ fits_profiles A B f.args g.args
  goes p g e =
      ap₂ (λ a b. fits_row (are_fits A B) a b) ns (numbers-are B p g e) ∙ fits-are A B f.args g.args (args-among A s.place f found) (args-among B p g e)

  fits-args : (g : Fact) → fits_profiles A B f.args g.args ≡ true → (p : ℕ) → slice_get B p ≡ Some g → length f.args ≡ length g.args
  fits-args g t p e =
      let l = fits-length (are_fits A B) (map (number A) f.args) (map (number B) g.args) (fits-are A B f.args g.args (args-among A s.place f found) (args-among B p g e) ∙ t) in
      omega (arith, length-map f.args (number A), length-map g.args (number B))

  rel-is : rel_of A s.place ≡ f.rel
  rel-is = ap (λ o. unwrap_or (option_map (λ f. f.rel) o) 0) found

  abbrev q : ℕ → Bool
  q p = fits_row (are_fits A B) (numbers_at A s.place) (numbers_at B p)

  -- a place that the fact may go to
  gone-to : (key p : ℕ) → p ∈ may_be_at A B (are_fits A B) s key → (g : Fact) × (slice_get B p ≡ Some g) × (length f.args ≡ length g.args)
  gone-to key p h =
      let m = ∈-filter_from q p (under_key B (rel_of A s.place) s.column key) h in
      let g = under-there B (rel_of A s.place) s.column key p m.0 in
      (g.0, g.1, fits-args g.0 (sym (goes p g.0 g.1) ∙ m.1) p g.1)

  -- it has the column, and a row of the same length
  pub have_rows : Within s.column (numbers_at A s.place) → (key stride : ℕ) → stride ≡ length (but_at s.column (numbers_at A s.place)) → HaveRows B s.column stride (may_be_at A B (are_fits A B) s key)
  have_rows column key stride e p h =
      let g = gone-to key p h in
      let l : length (numbers_at A s.place) ≡ length (numbers_at B p) =
      ap length ns ∙ length-map f.args (number A) ∙ g.2 ∙ sym (ap length (numbers-are B p g.0 g.1) ∙ length-map (g.0).args (number B)) in
      (((get_or-found B p g.0 g.0 g.1).0, Within-same s.column (numbers_at A s.place) (numbers_at B p) l column), sym (e ∙ length-but_at s.column (numbers_at A s.place) (numbers_at B p) l))

  row-is_of : (i : Option ℕ) (p : ℕ) (g : Fact) → slice_get B p ≡ Some g → row_at B i p ≡ row_of B i g
  row-is_of i p g e = ap (but_at i) (numbers-are B p g e)

  -- the rows of the facts at places, of those that pass a test, are those of the facts that do
  rows-of : (i : Option ℕ) (r test : Fact → Bool) → ((g : Fact) → g ∈ B → (r g && fits_profiles A B f.args g.args) ≡ test g) →
      map (row_at B i) (filter q (places r 0 B)) ≡ map (row_of B i) (filter test B)
  rows-of i r test same =
      places-rows (row_at B i) (row_of B i) q (λ g. fits_profiles A B f.args g.args) r 0 B (λ k g h. let z : 0 + k ≡ k = omega arith in (ap (row_at B i) z ∙ row-is_of i k g h, ap q z ∙ goes k g h)) ∙ ap (map (row_of B i)) (filter-same (λ g. r g && fits_profiles A B f.args g.args) test B same)

  rel-same : (g : Fact) → (g.rel == rel_of A s.place) ≡ (f.rel == g.rel)
  rel-same g = ap (λ n. g.rel == n) rel-is ∙ eqb-sym g.rel f.rel

  -- where no column is named all have one key
  all-rows : map (row_at B None) (filter q (under_key B (rel_of A s.place) None 0)) ≡ map (row_of B None) (filter (may_go A B f) B)
  all-rows = rows-of None (λ g. g.rel == rel_of A s.place) (may_go A B f) (λ g h. ap (λ b. b && fits_profiles A B f.args g.args) (rel-same g))

  -- the rows under the number of a value
  value-rows : (i w : ℕ) (v : Val) → slice_get (values B) w ≡ Some v →
      map (row_at B (Some i)) (filter q (under_key B (rel_of A s.place) (Some i) w)) ≡ map (row_of B (Some i)) (filter (λ g. may_go A B f g && has_number B i w g) B)
  value-rows i w v e =
      let under : under_key B (rel_of A s.place) (Some i) w ≡ places (has_at (rel_of A s.place) i v) 0 B =
      ap (λ o. unwrap_or (option_map (λ v. places (has_at (rel_of A s.place) i v) 0 B) o) []) e in
      ap (λ ps. map (row_at B (Some i)) (filter q ps)) under ∙ rows-of (Some i) (has_at (rel_of A s.place) i v) (λ g. may_go A B f g && has_number B i w g) (λ g h. ap₂ (λ a b. (a && b) && fits_profiles A B f.args g.args) (rel-same g) (number-same B i w v g e h) ∙ and-swap (f.rel == g.rel) (has_number B i w g) (fits_profiles A B f.args g.args))

  -- and under what is no value's
  past-rows : (i w : ℕ) → length (values B) ≤ w →
      map (row_at B (Some i)) (filter q (under_key B (rel_of A s.place) (Some i) w)) ≡ map (row_of B (Some i)) (filter (λ g. may_go A B f g && has_number B i w g) B)
  past-rows i w past =
      let under : under_key B (rel_of A s.place) (Some i) w ≡ [] =
      ap (λ o. unwrap_or (option_map (λ v. places (has_at (rel_of A s.place) i v) 0 B) o) []) (slice_get_past (values B) w past) in
      let none = filter-none (λ g. may_go A B f g && has_number B i w g) B (λ g h. ap (λ b. may_go A B f g && b) (number-past B i w g past h) ∙ and-false (may_go A B f g)) in
      ap (λ ps. map (row_at B (Some i)) (filter q ps)) under ∙ sym (ap (map (row_of B (Some i))) none)

  -- the rows of the facts at the places under a key are those that the search goes through
  key-rows : (i : Option ℕ) (w : ℕ) → w < key_count B i → map (row_at B i) (filter q (under_key B (rel_of A s.place) i w)) ≡ get_or (rows_for A B f i) w []
  key-rows None w h =
      let z : w ≡ 0 = omega arith in
      subst (λ k. map (row_at B None) (filter q (under_key B (rel_of A s.place) None k)) ≡ get_or (rows_for A B f None) k []) (sym z) all-rows
  key-rows (Some i) w h =
      let F : ℕ → List (List ℕ) = λ w. map (row_of B (Some i)) (filter (λ g. may_go A B f g && has_number B i w g) B) in
      let n = suc (length (values B)) in
      let below : w < n = omega arith in
      let at : get_or (rows_for A B f (Some i)) w [] ≡ F w =
      get_or-map F (range_with_len 0 n) w 0 [] (omega (arith, length-range_with_len 0 n)) ∙ ap F (get_or-range_with_len 0 n w 0 below ∙ (omega arith)) in
      elim (cases_lt w (length (values B))) [
        | inl l ↦ (let v = slice_get-there (values B) w l in value-rows i w v.0 v.1 ∙ sym at)
        | inr g ↦ past-rows i w g ∙ sym at
      ]

length-rows_for : (A B : List Fact) (f : Fact) (i : Option ℕ) → length (rows_for A B f i) ≡ key_count B i
length-rows_for A B f None = refl
length-rows_for A B f (Some i) =
    length-map-range_with_len (λ w. map (row_of B (Some i)) (filter (λ g. may_go A B f g && has_number B i w g) B)) 0 (suc (length (values B))) ∙ (omega arith)

table-of : (A B : List Fact) (s : Shape) (f : Fact) → slice_get A s.place ≡ Some f → shape_table A B s ≡ fact_table A B s.column f
table-of A B s f e = ap (λ o. unwrap_or (option_map (fact_table A B s.column) o) no_table) e

-- the rows under a key of a table
pub key-rows-are : (A B : List Fact) (s : Shape) (key : ℕ) → IsShape A s → key < length (shape_table A B s).rows → map (row_at B s.column) (may_be_at A B (are_fits A B) s key) ≡ get_or (shape_table A B s).rows key []
key-rows-are A B s key shape h =
    let f = slice_get-there A s.place shape.0 in
    let t = table-of A B s f.0 f.1 in
    let wide : length (shape_table A B s).rows ≡ key_count B s.column = ap (λ (x : Table). length x.rows) t ∙ length-rows_for A B f.0 s.column in
    key-rows A B s f.0 f.1 s.column key (omega arith) ∙ sym (ap (λ (x : Table). get_or x.rows key []) t)

-- a table has a list of rows for each key
pub key_count-is : (A B : List Fact) (s : Shape) → IsShape A s → length (shape_table A B s).rows ≡ key_count B s.column
key_count-is A B s shape =
    let f = slice_get-there A s.place shape.0 in
    ap (λ (x : Table). length x.rows) (table-of A B s f.0 f.1) ∙ length-rows_for A B f.0 s.column

-- its rows are as long as those of its shape
pub stride-is : (A B : List Fact) (s : Shape) → IsShape A s → (shape_table A B s).stride ≡ row_length A s
stride-is A B s h =
    let t = slice_get-there A s.place h.0 in
    let wide : length (numbers_at A s.place) ≡ length (t.0).args = ap length (numbers-are A s.place t.0 t.1) ∙ length-map (t.0).args (number A) in
    ap (λ (x : Table). x.stride) (table-of A B s t.0 t.1) ∙ sym (length-but_at s.column (numbers_at A s.place) (t.0).args wide)

-- the places under a key have rows
pub shape-rows : (A B : List Fact) (s : Shape) (key : ℕ) → IsShape A s → HaveRows B s.column (shape_table A B s).stride (may_be_at A B (are_fits A B) s key)
shape-rows A B s key shape =
    let f = slice_get-there A s.place shape.0 in
    have_rows A B s f.0 f.1 shape.1 key (shape_table A B s).stride (stride-is A B s shape)

-- values by number have their answers
pub answered : (A B : List Fact) (p r n m : ℕ) → n ∈ numbers_at A p → m ∈ numbers_at B r → m < length (get_or (are_fits A B) n [])
answered A B p r n m h k =
    let a = AllUnder-∈ (length (values A)) (numbers_at A p) n (numbers-under A p) h in
    let b = AllUnder-∈ (length (values B)) (numbers_at B r) m (numbers-under B r) k in
    omega (arith, length-answers A B n a)

-- one element more passes, or not
pub filter-more : (t : ℕ → Bool) (xs : List ℕ) (i : ℕ) (b : Bool) → i < length xs → t (get_or xs i 0) ≡ b → filter t (take (i + 1) xs) ≡ filter t (take i xs) ++ cond b (get_or xs i 0 ∷ []) []
filter-more t xs i b h e =
    ap (filter t) (take_more xs i 0 h) ∙ filter-append t (take i xs) (get_or xs i 0 ∷ []) ∙ ap (λ b. filter t (take i xs) ++ cond b (get_or xs i 0 ∷ []) []) e

pub under-below : (B : List Fact) (rel : ℕ) (i : Option ℕ) (key p : ℕ) → p ∈ under_key B rel i key → p < length B
under-below B rel i key p h =
    let g = under-there B rel i key p h in
    (get_or-found B p g.0 g.0 g.1).0

pub AreShapes-at : (A : List Fact) (ss : List Shape) (i : ℕ) (d : Shape) → i < length ss → AreShapes A ss → IsShape A (get_or ss i d)
AreShapes-at A [] i d h all = absurd (omega arith)
AreShapes-at A (s ∷ ss) zero d h all = all.0
AreShapes-at A (s ∷ ss) (suc i) d h all = AreShapes-at A ss i d (omega arith) all.1

-- a turn of the loop over places
pub gathered-yes : (t : ℕ → Bool) (items ps : List ℕ) (i : ℕ) → i < length items → t (get_or items i 0) ≡ true → ps ≡ filter t (take i items) → ps ++ get_or items i 0 ∷ [] ≡ filter t (take (i + 1) items)
gathered-yes t items ps i h e p = ap (λ xs. xs ++ get_or items i 0 ∷ []) p ∙ sym (filter-more t items i true h e)

pub gathered-no : (t : ℕ → Bool) (items ps : List ℕ) (i : ℕ) → i < length items → t (get_or items i 0) ≡ false → ps ≡ filter t (take i items) → ps ≡ filter t (take (i + 1) items)
gathered-no t items ps i h e p = p ∙ sym (filter-more t items i false h e ∙ append-nil (filter t (take i items)))

-- what passes is no more than what there is
length-filter-le : {X : Type 0} (t : X → Bool) (xs : List X) → length (filter t xs) ≤ length xs
length-filter-le t [] = omega arith
length-filter-le t (x ∷ xs) = elim (cases_Bool (t x)) [ inl h ↦ rw h (omega (arith, length-filter-le t xs)) | inr h ↦ rw h (omega (arith, length-filter-le t xs)) ]

pub length-places-le : (r : Fact → Bool) (n : ℕ) (B : List Fact) → length (places r n B) ≤ length B
length-places-le r n [] = omega arith
length-places-le r n (g ∷ B) = elim (cases_Bool (r g)) [ inl h ↦ rw h (omega (arith, length-places-le r (suc n) B)) | inr h ↦ rw h (omega (arith, length-places-le r (suc n) B)) ]

-- under a key are no more places than there are facts
length-under_key : (B : List Fact) (rel : ℕ) (i : Option ℕ) (key : ℕ) → length (under_key B rel i key) ≤ length B
length-under_key B rel None key = length-places-le (λ g. g.rel == rel) 0 B
length-under_key B rel (Some i) key = by (slice_get (values B) key)
  where
    by : (o : Option Val) → length (unwrap_or (option_map (λ v. places (has_at rel i v) 0 B) o) []) ≤ length B
    by None = omega arith
    by (Some v) = length-places-le (has_at rel i v) 0 B

-- as far as a loop over places has come there is room for one more
pub gathered-room : (t : ℕ → Bool) (B : List Fact) (rel : ℕ) (column : Option ℕ) (key : ℕ) (items ps : List ℕ) (i : ℕ) → items ≡ under_key B rel column key → i < length items → ps ≡ filter t (take i items) → length ps < length B
gathered-room t B rel column key items ps i e h p =
    omega (arith, ap length e, length-under_key B rel column key, ap length p, length-filter-le t (take i items), length-take i items)

pub key_count-le : (B : List Fact) (i : Option ℕ) → key_count B i ≤ length (values B) + 1
key_count-le B None = omega arith
key_count-le B (Some i) = omega arith

-- ---- a fact stands under one key at most

one : Bool → ℕ
one b = cond b 1 0

length-filter-cons : {X : Type 0} (t : X → Bool) (x : X) (xs : List X) → length (filter t (x ∷ xs)) ≡ one (t x) + length (filter t xs)
unfolding one
length-filter-cons t x xs = elim (cases_Bool (t x)) [ inl h ↦ rw h (omega arith) | inr h ↦ rw h (omega arith) ]

sum_by-none : (ws : List ℕ) → sum_by (λ w. one false) ws ≡ 0
unfolding one
sum_by-none [] = refl
sum_by-none (w ∷ ws) = let z : one false ≡ 0 = refl in omega (arith, sum_by-cons (λ w. one false) w ws, sum_by-none ws)

-- of the numbers from a on at most one is m
none-below : (m a n : ℕ) → m < a → sum_by (λ w. one (eqb m w)) (range_with_len a n) ≡ 0
unfolding one
none-below m a zero h = refl
none-below m a (suc n) h =
    let apart : eqb m a ≡ false = eqb-apart m a (λ e. absurd (omega arith)) in
    sum_by-cons (λ w. one (eqb m w)) a (range_with_len (a + 1) n) ∙ ap₂ (λ b k. one b + k) apart (none-below m (a + 1) n (omega arith))

one-is : (m a n : ℕ) → sum_by (λ w. one (eqb m w)) (range_with_len a n) ≤ 1
unfolding one
one-is m a zero = omega arith
one-is m a (suc n) =
    let c = sum_by-cons (λ w. one (eqb m w)) a (range_with_len (a + 1) n) in
    elim (cases_Bool (eqb m a)) [
      | inl t ↦ (let e : m ≡ a = (Decides-eqb m a).0 t in let o : one (eqb m a) ≡ 1 = ap one t in omega (arith, c, o, none-below m (a + 1) n (omega arith)))
      | inr t ↦ (let o : one (eqb m a) ≡ 0 = ap one t in omega (arith, c, o, one-is m (a + 1) n))
    ]

one-le : (a b : Bool) → one (a && b) ≤ one b
unfolding one
one-le true b = omega arith
one-le false true = omega arith
one-le false false = omega arith

-- a fact has at most one of the numbers from a on
one-number : (K : List Fact) (i : ℕ) (p : Fact → Bool) (g : Fact) (a n : ℕ) → sum_by (λ w. one (p g && has_number K i w g)) (range_with_len a n) ≤ 1
one-number K i p g a n = by (slice_get g.args i) refl
  where
    by : (o : Option Val) → slice_get g.args i ≡ o → sum_by (λ w. one (p g && unwrap_or (option_map (λ v. number K v == w) o) false)) (range_with_len a n) ≤ 1
    by None e =
        let less = sum_by-le-sum_by (λ w. one (p g && false)) (λ w. one false) (range_with_len a n) (λ w. one-le (p g) false) in
        let none = sum_by-none (range_with_len a n) in
        omega arith
    by (Some u) e =
        let less = sum_by-le-sum_by (λ w. one (p g && (number K u == w))) (λ w. one (eqb (number K u) w)) (range_with_len a n) (λ w. one-le (p g) (eqb (number K u) w)) in
        omega (arith, one-is (number K u) a n)

-- all rows are no more than the facts
module _ (A B : List Fact) (f : Fact) (i : ℕ) where
  row_count : List Fact → ℕ → ℕ
  row_count gs w = length (filter (λ g. may_go A B f g && has_number B i w g) gs)

  counted : (ws : List ℕ) → sum_by length (map (λ w. map (row_of B (Some i)) (filter (λ g. may_go A B f g && has_number B i w g) B)) ws) ≡ sum_by (row_count B) ws
  unfolding row_count
  counted [] = refl
  counted (w ∷ ws) =
      let F : ℕ → List (List ℕ) = λ w. map (row_of B (Some i)) (filter (λ g. may_go A B f g && has_number B i w g) B) in
      sum_by-cons length (F w) (map F ws) ∙ ap₂ (λ m n. m + n) (length-map (filter (λ g. may_go A B f g && has_number B i w g) B) (row_of B (Some i))) (counted ws) ∙ sym (sum_by-cons (row_count B) w ws)

  count-none : (ws : List ℕ) → sum_by (row_count []) ws ≡ 0
  unfolding row_count
  count-none [] = refl
  count-none (w ∷ ws) = let z : row_count [] w ≡ 0 = refl in omega (arith, sum_by-cons (row_count []) w ws, count-none ws)

  count-cons : (g : Fact) (gs : List Fact) (ws : List ℕ) → sum_by (row_count (g ∷ gs)) ws ≡ sum_by (λ w. one (may_go A B f g && has_number B i w g)) ws + sum_by (row_count gs) ws
  unfolding row_count
  count-cons g gs [] = refl
  count-cons g gs (w ∷ ws) =
      let t : ℕ → ℕ = λ w. one (may_go A B f g && has_number B i w g) in
      let here : row_count (g ∷ gs) w ≡ t w + row_count gs w = length-filter-cons (λ g. may_go A B f g && has_number B i w g) g gs in
      omega (arith, here, count-cons g gs ws, sum_by-cons (row_count (g ∷ gs)) w ws, sum_by-cons t w ws, sum_by-cons (row_count gs) w ws)

  count-le : (gs : List Fact) (a n : ℕ) → sum_by (row_count gs) (range_with_len a n) ≤ length gs
  count-le [] a n = omega (arith, count-none (range_with_len a n))
  count-le (g ∷ gs) a n =
      omega (arith, count-cons g gs (range_with_len a n), one-number B i (may_go A B f) g a n, count-le gs a n)

rows_for-le : (A B : List Fact) (f : Fact) (i : Option ℕ) → sum_by length (rows_for A B f i) ≤ length B
rows_for-le A B f None =
    omega (arith, sum_by-cons length (map (row_of B None) (filter (may_go A B f) B)) [], length-map (filter (may_go A B f) B) (row_of B None), length-filter-le (may_go A B f) B)
rows_for-le A B f (Some i) =
    omega (arith, counted A B f i (range_with_len 0 (suc (length (values B)))), count-le A B f i B 0 (suc (length (values B))))

pub table-rows-le : (A B : List Fact) (s : Shape) → IsShape A s → sum_by length (shape_table A B s).rows ≤ length B
table-rows-le A B s shape =
    let f = slice_get-there A s.place shape.0 in
    omega (arith, ap (λ (x : Table). sum_by length x.rows) (table-of A B s f.0 f.1), rows_for-le A B f.0 s.column)
