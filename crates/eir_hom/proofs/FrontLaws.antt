-- Fronts: the first lightest fact, and what becomes of the seats when a value becomes known.
use Rattle.std.proofs.Common.{◌≡◌, ◌⊎◌, ℕ, zero, suc, ◌+◌, ◌<◌, ◌≤◌, nat_eq, inl, inr, Bool, true, false, cond, List, [], ◌∷◌, map, length, get_or, take, refl, sym, ◌∙◌, ap, subst, zero-add, arith, eq-eqb, ne_eqb, lt-ltb, le-ltb}
use Rattle.std.proofs.Math.ListN.{set}
use Rattle.std.proofs.lemmas.Bool.{cases_Bool, cases_lt, cases_eq, false≢true}
use Rattle.std.proofs.lemmas.List.{get_or-set_same, get_or-set_other, length-set, map-set, length-map, get_or-map, take_all}
use Rattle.eir_term.specs.Lists.{places}
use Rattle.eir_term.specs.Plans.{lightest, without_place}
use Rattle.eir_hom.specs.declared.atom_view.AtomView.{AtomView}
use Rattle.eir_hom.specs.declared.front.Seat.{Seat}
use Rattle.eir_hom.specs.declared.occurrences.Column.{Column}
use Rattle.eir_hom.specs.Views.{IsView, view_weight}
use Rattle.eir_hom.specs.Races.{IsFirstLeast}
use Rattle.eir_hom.specs.Occurring.{column_at, IsNextOf, occurring, is_marked, known_columns, columns_at}
use Rattle.eir_hom.specs.Fronts.{seat_at, seat_weight, AreViews, with_bound, raised_by, listed, raised_from, raised, seated_from, seated, is_free, free_places, IsLightestFree}
use Rattle.eir_hom.proofs.OccurringLaws.{occurring-here, occurring-elsewhere, occurring-next, occurring-take, known_columns-set, known_columns-most}

-- what there is past the end
blank : Seat
blank = record { view = record { rel = 0; arity = 0; bound = 0; count = 0 }; is_listed = true }

-- ---- views and weights

-- another seat at a place
pub AreViews-set : (ss : List Seat) (p : ℕ) (s : Seat) → AreViews ss → IsView s.view → AreViews (set ss p s)
AreViews-set ss p s all here q l = let long = length-set ss p s in elim (cases_eq q p) [
  | inl e ↦ (let m : p < length ss = omega arith in subst (λ (x : Seat). IsView x.view) (sym (ap (λ i. seat_at (set ss p s) i) e ∙ get_or-set_same ss p s (record { view = record { rel = 0; arity = 0; bound = 0; count = 0 }; is_listed = true }) m)) here)
  | inr ne ↦ subst (λ (x : Seat). IsView x.view) (sym (get_or-set_other ss p q s (record { view = record { rel = 0; arity = 0; bound = 0; count = 0 }; is_listed = true }) ne)) (all q (omega arith))
]

-- the weight of a fact that can be is far below that of a listed one
view_weight-small : (v : AtomView) → IsView v → view_weight v < 18446744073709551615
view_weight-small v is = let few = is.few in elim (cases_Bool (nat_eq v.bound 0)) [
  | inl t ↦ rw t (omega arith)
  | inr t ↦ rw t (omega arith)
]

-- the weight at a place
weight-at : (ss : List Seat) (p : ℕ) → p < length ss → get_or (map seat_weight ss) p 0 ≡ seat_weight (seat_at ss p)
weight-at ss p l = get_or-map seat_weight ss p (record { view = record { rel = 0; arity = 0; bound = 0; count = 0 }; is_listed = true }) 0 l

free-weight : (ss : List Seat) (p : ℕ) → is_free (seat_at ss p) ≡ true → seat_weight (seat_at ss p) ≡ view_weight (seat_at ss p).view
free-weight ss p t = by (seat_at ss p) t
  where
    by : (s : Seat) → is_free s ≡ true → seat_weight s ≡ view_weight s.view
    by s t = elim (cases_Bool s.is_listed) [ inl e ↦ (let k : false ≡ true = rw e at t in absurd (false≢true k)) | inr e ↦ rw e refl ]

-- where no seat is free, no place is
places-none : (ss : List Seat) (n : ℕ) → ((k : ℕ) → k < length ss → is_free (seat_at ss k) ≡ false) → places is_free n ss ≡ []
places-none [] n none = refl
places-none (s ∷ ss) n none = rw (none 0 (omega arith)) (places-none ss (suc n) (λ k l. none (suc k) (omega arith)))

-- where the least weight is that of a listed fact, all are listed
pub all-listed : (ss : List Seat) (ws : List ℕ) (p : ℕ) → ws ≡ map seat_weight ss → AreViews ss → IsFirstLeast ws p → (seat_at ss p).is_listed ≡ true → free_places ss ≡ []
all-listed ss ws p is views first t = places-none ss 0 (λ k l. by k l (cases_Bool (is_free (seat_at ss k))))
  where
    long : length ws ≡ length ss
    long = ap length is ∙ length-map ss seat_weight

    by : (k : ℕ) → k < length ss → (is_free (seat_at ss k) ≡ true) ⊎ (is_free (seat_at ss k) ≡ false) → is_free (seat_at ss k) ≡ false
    by k l (inr f) = f
    by k l (inl f) =
        let within = first.within in
        let e = long in
        let here : get_or ws p 0 ≡ 18446744073709551615 = ap (λ xs. get_or xs p 0) is ∙ weight-at ss p (omega arith) ∙ rw t refl in
        let there : get_or ws k 0 ≡ view_weight (seat_at ss k).view = ap (λ xs. get_or xs k 0) is ∙ weight-at ss k l ∙ free-weight ss k f in
        let small = view_weight-small (seat_at ss k).view (views k l) in
        let le = first.least k (omega arith) in
        absurd (omega arith)

-- otherwise it is the first lightest that is not
pub lightest-free : (ss : List Seat) (ws : List ℕ) (p : ℕ) → ws ≡ map seat_weight ss → AreViews ss → IsFirstLeast ws p → (seat_at ss p).is_listed ≡ false → IsLightestFree ss p
lightest-free ss ws p is views first t =
    let long : length ws ≡ length ss = ap length is ∙ length-map ss seat_weight in
    let w = first.within in
    let free : is_free (seat_at ss p) ≡ true = rw t refl in
    let at = λ (q : ℕ) (l : q < length ss) (f : is_free (seat_at ss q) ≡ true). ap (λ (xs : List ℕ). get_or xs q 0) is ∙ weight-at ss q l ∙ free-weight ss q f in
    record {
      within = omega arith;
      free = free;
      least = λ q l f. let a = at p (omega arith) free in let b = at q l f in let le = first.least q (omega arith) in omega arith;
      first = λ q l f. let a = at p (omega arith) free in let b = at q (omega arith) f in let lt = first.first q l in omega arith;
    }

-- ---- a value becomes known

-- the seats stay as many
pub length-raised : (cs : List Column) (v n : ℕ) (ss : List Seat) → length (raised_from cs v n ss) ≡ length ss
length-raised cs v n [] = refl
length-raised cs v n (s ∷ ss) = ap suc (length-raised cs v (suc n) ss)

-- the seat at a place
pub raised-at : (cs : List Column) (v n : ℕ) (ss : List Seat) (k : ℕ) → k < length ss → seat_at (raised_from cs v n ss) k ≡ raised_by (occurring cs v (n + k)) (seat_at ss k)
raised-at cs v n [] k l = absurd (omega arith)
raised-at cs v n (s ∷ ss) zero l = let e : n + 0 ≡ n = omega arith in rw e refl
raised-at cs v n (s ∷ ss) (suc k) l = let e : n + suc k ≡ suc n + k = omega arith in rw e (raised-at cs v (suc n) ss k (omega arith))

-- columns that have the value as often raise alike
raised-agree : (cs ds : List Column) (v n : ℕ) (ss : List Seat) → ((p : ℕ) → occurring cs v p ≡ occurring ds v p) → raised_from cs v n ss ≡ raised_from ds v n ss
raised-agree cs ds v n [] same = refl
raised-agree cs ds v n (s ∷ ss) same = rw (same n) (ap (λ xs. raised_by (occurring ds v n) s ∷ xs) (raised-agree cs ds v (suc n) ss same))

-- no columns raise nothing
raised-none : (v n : ℕ) (ss : List Seat) → raised_from [] v n ss ≡ ss
raised-none v n [] = refl
raised-none v n (s ∷ ss) = let e : s.view.bound + 0 ≡ s.view.bound = omega arith in rw e (ap (λ xs. s ∷ xs) (raised-none v (suc n) ss))

-- one column more raises its fact by one
raised-more : (cs : List Column) (v k : ℕ) (n : ℕ) (ss : List Seat) (p : ℕ) → k < length cs → (column_at cs k).value ≡ v → (column_at cs k).fact ≡ n + p → p < length ss →
    set (raised_from (take k cs) v n ss) p (raised_by 1 (seat_at (raised_from (take k cs) v n ss) p)) ≡ raised_from (take (k + 1) cs) v n ss
raised-more cs v k n [] p l e f m = absurd (omega arith)
raised-more cs v k n (s ∷ ss) zero l e f m =
    let here : (column_at cs k).fact ≡ n = f ∙ omega arith in
    let sum : s.view.bound + occurring (take k cs) v n + 1 ≡ s.view.bound + (occurring (take k cs) v n + 1) = omega arith in
    rw (occurring-here cs v n k l e here, ← sum) (ap (λ xs. raised_by 1 (raised_by (occurring (take k cs) v n) s) ∷ xs) (later (suc n) ss (λ j q. let h = here in omega arith)))
  where
    later : (n : ℕ) (ss : List Seat) → ((j : ℕ) → (column_at cs k).fact ≡ n + j → ⊥) → raised_from (take k cs) v n ss ≡ raised_from (take (k + 1) cs) v n ss
    later n [] ne = refl
    later n (s ∷ ss) ne =
        let apart : (column_at cs k).fact ≡ n → ⊥ = λ q. ne 0 (q ∙ omega arith) in
        rw (occurring-elsewhere cs v n k l apart) (ap (λ xs. raised_by (occurring (take k cs) v n) s ∷ xs) (later (suc n) ss (λ j q. ne (suc j) (q ∙ omega arith))))
raised-more cs v k n (s ∷ ss) (suc p) l e f m =
    let apart : (column_at cs k).fact ≡ n → ⊥ = λ q. absurd (omega arith) in
    rw (occurring-elsewhere cs v n k l apart) (ap (λ xs. raised_by (occurring (take k cs) v n) s ∷ xs) (raised-more cs v k (suc n) ss p l e (f ∙ omega arith) (omega arith)))

-- before the first column with the value nothing is raised
pub raised-begin : (cs : List Column) (v k : ℕ) (ss : List Seat) → IsNextOf cs v 0 k → ss ≡ raised (take k cs) v ss
raised-begin cs v k ss n = sym (raised-agree (take k cs) [] v 0 ss (λ p. occurring-next cs v p 0 k n) ∙ raised-none v 0 ss)

-- from one column with the value to the next one fact is raised
pub raised-step : (cs : List Column) (v k p j : ℕ) (ss rs : List Seat) → k < length cs → (column_at cs k).value ≡ v → (column_at cs k).fact ≡ p → p < length ss → IsNextOf cs v (k + 1) j →
    rs ≡ raised (take k cs) v ss → set rs p (raised_by 1 (seat_at rs p)) ≡ raised (take j cs) v ss
raised-step cs v k p j ss rs l e f m n is =
    rw is (raised-more cs v k 0 ss p l e (f ∙ omega arith) m ∙ raised-agree (take (k + 1) cs) (take j cs) v 0 ss (λ q. sym (occurring-next cs v q (k + 1) j n)))

-- at the end all are raised
pub raised-end : (cs : List Column) (v k : ℕ) (ss rs : List Seat) → length cs ≤ k → rs ≡ raised (take k cs) v ss → rs ≡ raised cs v ss
raised-end cs v k ss rs l is = is ∙ ap (λ ds. raised ds v ss) (take_all k cs l)

-- a fact that is raised once more has a column that is not known
pub raised-room : (cs : List Column) (v k p : ℕ) (ss rs : List Seat) → k < length cs → (column_at cs k).value ≡ v → (column_at cs k).fact ≡ p → p < length ss →
    (seat_at ss p).view.bound + occurring cs v p ≤ (seat_at ss p).view.arity → rs ≡ raised (take k cs) v ss → (seat_at rs p).view.bound < (seat_at rs p).view.arity
raised-room cs v k p ss rs l e f m room is =
    let more = occurring-here cs v p k l e f in
    let part = occurring-take cs v p (k + 1) (omega arith) in
    let seat : seat_at rs p ≡ raised_by (occurring (take k cs) v p) (seat_at ss p) = ap (λ xs. seat_at xs p) is ∙ raised-at (take k cs) v 0 ss p m ∙ (let z : 0 + p ≡ p = omega arith in rw z refl) in
    rw seat (omega arith)

-- ---- for the calls

-- a seat that is read
pub seat-read : (ss : List Seat) (p : ℕ) (s d : Seat) → p < length ss → s ≡ get_or ss p d → s ≡ seat_at ss p
seat-read [] p s d l e = absurd (omega arith)
seat-read (x ∷ ss) zero s d l e = e
seat-read (x ∷ ss) (suc p) s d l e = seat-read ss p s d (omega arith) e

-- the place that wins is one of a fact
pub first-within : (ss : List Seat) (ws : List ℕ) (p : ℕ) → ws ≡ map seat_weight ss → IsFirstLeast ws p → p < length ss
first-within ss ws p is first = let long : length ws ≡ length ss = ap length is ∙ length-map ss seat_weight in let w = first.within in omega arith

-- another weight for another seat
pub weights-set : (ss : List Seat) (ws : List ℕ) (p w : ℕ) (s : Seat) → ws ≡ map seat_weight ss → w ≡ seat_weight s → set ws p w ≡ map seat_weight (set ss p s)
weights-set ss ws p w s is e = rw (is, e) (sym (map-set seat_weight ss p s))

-- the view of a fact with one known column more is one that can be
pub IsView-raised : (v : AtomView) → IsView v → v.bound < v.arity → IsView (record { rel = v.rel; arity = v.arity; bound = v.bound + 1; count = v.count })
IsView-raised v is room = record { relation = is.relation; some = is.some; few = is.few; known = omega arith; facts = is.facts }

-- ---- counted seats

-- the seats stay as many
pub length-seated : (cs : List Column) (known : List Bool) (n : ℕ) (ss : List Seat) → length (seated_from cs known n ss) ≡ length ss
length-seated cs known n [] = refl
length-seated cs known n (s ∷ ss) = ap suc (length-seated cs known (suc n) ss)

-- the seat at a place
seated-at : (cs : List Column) (known : List Bool) (n : ℕ) (ss : List Seat) (k : ℕ) → k < length ss → seat_at (seated_from cs known n ss) k ≡ with_bound (known_columns cs known (n + k)) (seat_at ss k)
seated-at cs known n [] k l = absurd (omega arith)
seated-at cs known n (s ∷ ss) zero l = let e : n + 0 ≡ n = omega arith in rw e refl
seated-at cs known n (s ∷ ss) (suc k) l = let e : n + suc k ≡ suc n + k = omega arith in rw e (seated-at cs known (suc n) ss k (omega arith))

-- a value that becomes known raises counted seats to counted ones
raised-seated_from : (cs : List Column) (known : List Bool) (v n : ℕ) (ss : List Seat) → is_marked known v ≡ false → v < length known →
    raised_from cs v n (seated_from cs known n ss) ≡ seated_from cs (set known v true) n ss
raised-seated_from cs known v n [] new l = refl
raised-seated_from cs known v n (s ∷ ss) new l = rw (known_columns-set cs known v n new l) (ap (λ xs. with_bound (known_columns cs known n + occurring cs v n) s ∷ xs) (raised-seated_from cs known v (suc n) ss new l))

pub raised-seated : (cs : List Column) (known : List Bool) (v : ℕ) (ss rs : List Seat) → is_marked known v ≡ false → v < length known → rs ≡ seated cs known ss → raised cs v rs ≡ seated cs (set known v true) ss
raised-seated cs known v ss rs new l is = rw is (raised-seated_from cs known v 0 ss new l)

-- so there is room for it
pub seated-room : (cs : List Column) (known : List Bool) (v p : ℕ) (ss rs : List Seat) → is_marked known v ≡ false → v < length known → p < length ss → columns_at cs p ≤ (seat_at ss p).view.arity →
    rs ≡ seated cs known ss → (seat_at rs p).view.bound + occurring cs v p ≤ (seat_at rs p).view.arity
seated-room cs known v p ss rs new l m fit is =
    let seat : seat_at rs p ≡ with_bound (known_columns cs known p) (seat_at ss p) = ap (λ xs. seat_at xs p) is ∙ seated-at cs known 0 ss p m ∙ (let z : 0 + p ≡ p = omega arith in rw z refl) in
    let more = known_columns-set cs known v p new l in
    let most = known_columns-most cs (set known v true) p in
    rw seat (omega arith)

-- counting takes no seat
free-seated_from : (cs : List Column) (known : List Bool) (n : ℕ) (ss : List Seat) → places is_free n (seated_from cs known n ss) ≡ places is_free n ss
free-seated_from cs known n [] = refl
free-seated_from cs known n (s ∷ ss) = elim (cases_Bool s.is_listed) [
  | inl t ↦ rw t (free-seated_from cs known (suc n) ss)
  | inr t ↦ rw t (ap (λ xs. n ∷ xs) (free-seated_from cs known (suc n) ss))
]

pub free-seated : (cs : List Column) (known : List Bool) (ss : List Seat) → free_places (seated cs known ss) ≡ free_places ss
free-seated cs known ss = free-seated_from cs known 0 ss

-- ---- the first lightest fact, as the definition picks it

-- p stays where it is lightest
lightest-stays : (w : ℕ → ℕ) (p n : ℕ) (ss : List Seat) → ((j : ℕ) → j < length ss → is_free (seat_at ss j) ≡ true → w p ≤ w (n + j)) → lightest w p (places is_free n ss) ≡ p
lightest-stays w p n [] least = refl
lightest-stays w p n (s ∷ ss) least =
    let rest = lightest-stays w p (suc n) ss (λ j l f. let e : suc n + j ≡ n + suc j = omega arith in rw e (least (suc j) (omega arith) f)) in
    by (is_free s) refl rest
  where
    by : (b : Bool) → is_free s ≡ b → lightest w p (places is_free (suc n) ss) ≡ p → lightest w p (cond b (n ∷ places is_free (suc n) ss) (places is_free (suc n) ss)) ≡ p
    by false t rest = rest
    by true t rest =
        let here : w p ≤ w n = let e : n + 0 ≡ n = omega arith in subst (λ (k : ℕ). w p ≤ w k) e (least 0 (omega arith) t) in
        ap (λ (b : Bool). lightest w (cond b n p) (places is_free (suc n) ss)) (le-ltb (w n) (w p) here) ∙ rest

-- and is found behind one that is heavier
lightest-comes : (w : ℕ → ℕ) (q n k : ℕ) (ss : List Seat) → k < length ss → is_free (seat_at ss k) ≡ true → w (n + k) < w q →
    ((j : ℕ) → j < length ss → is_free (seat_at ss j) ≡ true → w (n + k) ≤ w (n + j)) → ((j : ℕ) → j < k → is_free (seat_at ss j) ≡ true → w (n + k) < w (n + j)) →
    lightest w q (places is_free n ss) ≡ n + k
lightest-comes w q n k [] l free lt least first = absurd (omega arith)
lightest-comes w q n zero (s ∷ ss) l free lt least first =
    let e : n + 0 ≡ n = omega arith in
    let here : w n < w q = subst (λ (x : ℕ). w x < w q) e lt in
    rw free (ap (λ (b : Bool). lightest w (cond b n q) (places is_free (suc n) ss)) (lt-ltb (w n) (w q) here)
    ∙ lightest-stays w n (suc n) ss (λ j m f. let a : suc n + j ≡ n + suc j = omega arith in rw a (subst (λ (x : ℕ). w x ≤ w (n + suc j)) e (least (suc j) (omega arith) f))) ∙ sym e)
lightest-comes w q n (suc k) (s ∷ ss) l free lt least first =
    let e : n + suc k ≡ suc n + k = omega arith in
    let then = λ (r : ℕ) (h : w (suc n + k) < w r).
    lightest-comes w r (suc n) k ss (omega arith) free h (λ j m f. let a : suc n + j ≡ n + suc j = omega arith in rw (a, ← e) (least (suc j) (omega arith) f))
    (λ j m f. let a : suc n + j ≡ n + suc j = omega arith in rw (a, ← e) (first (suc j) (omega arith) f)) in
    by (is_free s) refl then
  where
    by : (b : Bool) → is_free s ≡ b → ((r : ℕ) → w (suc n + k) < w r → lightest w r (places is_free (suc n) ss) ≡ suc n + k) →
        lightest w q (cond b (n ∷ places is_free (suc n) ss) (places is_free (suc n) ss)) ≡ n + suc k
    by false t then = let e : n + suc k ≡ suc n + k = omega arith in rw e (then q (subst (λ (x : ℕ). w x < w q) e lt))
    by true t then =
        let e : n + suc k ≡ suc n + k = omega arith in
        let z : n + 0 ≡ n = omega arith in
        elim (cases_lt (w n) (w q)) [
          | inl h ↦ ap (λ (b : Bool). lightest w (cond b n q) (places is_free (suc n) ss)) (lt-ltb (w n) (w q) h)
              ∙ then n (subst (λ (x : ℕ). w x < w n) e (subst (λ (x : ℕ). w (n + suc k) < w x) z (first 0 (omega arith) t))) ∙ sym e
          | inr h ↦ ap (λ (b : Bool). lightest w (cond b n q) (places is_free (suc n) ss)) (le-ltb (w n) (w q) h) ∙ then q (subst (λ (x : ℕ). w x < w q) e lt) ∙ sym e
        ]

-- what the definition picks of the free places, which are counted on from n
pub record Next (w : ℕ → ℕ) (n : ℕ) (ss : List Seat) (p : ℕ) : Type 0 where
  pub head : ℕ
  pub tail : List ℕ
  pub free : places is_free n ss ≡ head ∷ tail
  pub lightest_is : lightest w head tail ≡ p

next-from : (w : ℕ → ℕ) (n k : ℕ) (ss : List Seat) → k < length ss → is_free (seat_at ss k) ≡ true →
    ((j : ℕ) → j < length ss → is_free (seat_at ss j) ≡ true → w (n + k) ≤ w (n + j)) → ((j : ℕ) → j < k → is_free (seat_at ss j) ≡ true → w (n + k) < w (n + j)) → Next w n ss (n + k)
next-from w n k [] l free least first = absurd (omega arith)
next-from w n zero (s ∷ ss) l free least first =
    let e : n + 0 ≡ n = omega arith in
    record {
      head = n;
      tail = places is_free (suc n) ss;
      free = rw free refl;
      lightest_is = rw e (lightest-stays w n (suc n) ss (λ j m f. let a : suc n + j ≡ n + suc j = omega arith in rw a (subst (λ (x : ℕ). w x ≤ w (n + suc j)) e (least (suc j) (omega arith) f))));
    }
next-from w n (suc k) (s ∷ ss) l free least first =
    let e : n + suc k ≡ suc n + k = omega arith in
    by (is_free s) refl (next-from w (suc n) k ss (omega arith) free (λ j m f. let a : suc n + j ≡ n + suc j = omega arith in rw (a, ← e) (least (suc j) (omega arith) f))
    (λ j m f. let a : suc n + j ≡ n + suc j = omega arith in rw (a, ← e) (first (suc j) (omega arith) f)))
  where
    by : (b : Bool) → is_free s ≡ b → Next w (suc n) ss (suc n + k) → Next w n (s ∷ ss) (n + suc k)
    by false t r = let e : n + suc k ≡ suc n + k = omega arith in record { head = r.head; tail = r.tail; free = rw t r.free; lightest_is = r.lightest_is ∙ sym e }
    by true t r =
        let e : n + suc k ≡ suc n + k = omega arith in
        let z : n + 0 ≡ n = omega arith in
        record {
          head = n;
          tail = places is_free (suc n) ss;
          free = rw t refl;
          lightest_is = lightest-comes w n (suc n) k ss (omega arith) free (subst (λ (x : ℕ). w x < w n) e (subst (λ (x : ℕ). w (n + suc k) < w x) z (first 0 (omega arith) t)))
              (λ j m f. let a : suc n + j ≡ n + suc j = omega arith in rw (a, ← e) (least (suc j) (omega arith) f))
              (λ j m f. let a : suc n + j ≡ n + suc j = omega arith in rw (a, ← e) (first (suc j) (omega arith) f)) ∙ sym e;
        }

-- it is the first lightest fact
pub next-lightest : (w : ℕ → ℕ) (ss : List Seat) (p : ℕ) → ((q : ℕ) → q < length ss → w q ≡ view_weight (seat_at ss q).view) → IsLightestFree ss p → Next w 0 ss p
next-lightest w ss p weighs is = subst (λ (x : ℕ). Next w 0 ss x) (zero-add p) (next-from w 0 p ss is.within is.free least first)
  where
    least : (j : ℕ) → j < length ss → is_free (seat_at ss j) ≡ true → w (0 + p) ≤ w (0 + j)
    least j l f = rw (zero-add p, zero-add j, weighs p is.within, weighs j l) (is.least j l f)

    first : (j : ℕ) → j < p → is_free (seat_at ss j) ≡ true → w (0 + p) < w (0 + j)
    first j l f = let within = is.within in rw (zero-add p, zero-add j, weighs p is.within, weighs j (omega arith)) (is.first j l f)

-- ---- a fact is listed

without-above : (p n : ℕ) (ss : List Seat) → p < n → without_place p (places is_free n ss) ≡ places is_free n ss
without-above p n [] l = refl
without-above p n (s ∷ ss) l =
    let rest = without-above p (suc n) ss (omega arith) in
    elim (cases_Bool s.is_listed) [ inl t ↦ rw t rest | inr t ↦ (let ne : n ≡ p → ⊥ = λ e. absurd (omega arith) in rw (t, ne_eqb n p ne) (ap (λ xs. n ∷ xs) rest)) ]

free-listed_from : (n k : ℕ) (ss : List Seat) → k < length ss → places is_free n (set ss k (listed (seat_at ss k))) ≡ without_place (n + k) (places is_free n ss)
free-listed_from n k [] l = absurd (omega arith)
free-listed_from n zero (s ∷ ss) l =
    let e : n + 0 ≡ n = omega arith in
    let rest = without-above n (suc n) ss (omega arith) in
    subst (λ (x : ℕ). places is_free (suc n) ss ≡ without_place x (places is_free n (s ∷ ss))) (sym e)
    (elim (cases_Bool s.is_listed) [ inl t ↦ rw t (sym rest) | inr t ↦ rw (t, eq-eqb n n refl) (sym rest) ])
free-listed_from n (suc k) (s ∷ ss) l =
    let e : n + suc k ≡ suc n + k = omega arith in
    let rest = free-listed_from (suc n) k ss (omega arith) in
    let ne : n ≡ suc n + k → ⊥ = λ q. absurd (omega arith) in
    subst (λ (x : ℕ). places is_free n (set (s ∷ ss) (suc k) (listed (seat_at ss k))) ≡ without_place x (places is_free n (s ∷ ss))) (sym e)
    (elim (cases_Bool s.is_listed) [ inl t ↦ rw t rest | inr t ↦ rw (t, ne_eqb n (suc n + k) ne) (ap (λ xs. n ∷ xs) rest) ])

-- it is free no more
pub free-listed : (ss : List Seat) (p : ℕ) → p < length ss → free_places (set ss p (listed (seat_at ss p))) ≡ without_place p (free_places ss)
free-listed ss p l = let e : 0 + p ≡ p = omega arith in free-listed_from 0 p ss l ∙ rw e refl

length-listed_from : (n k : ℕ) (ss : List Seat) → k < length ss → is_free (seat_at ss k) ≡ true → suc (length (places is_free n (set ss k (listed (seat_at ss k))))) ≡ length (places is_free n ss)
length-listed_from n k [] l free = absurd (omega arith)
length-listed_from n zero (s ∷ ss) l free = rw free refl
length-listed_from n (suc k) (s ∷ ss) l free =
    let rest = length-listed_from (suc n) k ss (omega arith) free in
    elim (cases_Bool s.is_listed) [ inl t ↦ rw t rest | inr t ↦ rw t (ap suc rest) ]

pub length-listed : (ss : List Seat) (p : ℕ) → p < length ss → is_free (seat_at ss p) ≡ true → suc (length (free_places (set ss p (listed (seat_at ss p))))) ≡ length (free_places ss)
length-listed ss p l free = length-listed_from 0 p ss l free
