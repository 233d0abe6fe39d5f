-- The plan as it is made: the columns of the facts, the views, and what is listed next.
use Rattle.std.proofs.Common.{◌≡◌, ℕ, zero, suc, ◌+◌, ◌-◌, ◌<◌, ◌≤◌, ◌==◌, inl, inr, Bool, true, false, ◌&&◌, List, [], ◌∷◌, ◌++◌, map, filter, length, get_or, take, drop, Option, Some, None, option_map, slice_get, refl, sym, ◌∙◌, ap, ap₂, subst, arith, eq-eqb, ne_eqb, unwrap_or, append_assoc, length-append}
use Rattle.std.proofs.Math.ListN.{set}
use Rattle.std.proofs.Math.Seq.{drop-cons, map-set_same, get_or-append_right}
use Rattle.std.proofs.lemmas.Bool.{cases_Bool, cases_lt}
use Rattle.std.proofs.lemmas.List.{length-map, map-append, take_more, get_or_append_left}
use Rattle.std.proofs.lemmas.List.Elements.{filter-append, filter_map-append}
use Rattle.std.proofs.lemmas.Option.{same_Some, none-some, slice_get_within, slice_get-map, slice_get-get_or, get_or_from_slice_get}
use Rattle.eir_term.specs.declared.val.Val.{Val}
use Rattle.eir_term.specs.declared.fact.Fact.{Fact}
use Rattle.eir_term.specs.Lists.{◌∈◌, place_of, places}
use Rattle.eir_term.specs.Values.{val_eq}
use Rattle.eir_term.specs.Instances.{values}
use Rattle.eir_term.specs.Bind.{facts_at}
use Rattle.eir_term.specs.Plans.{is_known, bound_of, count_of, weight_of, weight_at, lightest, without_place, plan_from, plan}
use Rattle.eir_term.proofs.HomLaws.{map-compose}
use Rattle.eir_inst.specs.Numbers.{numbers_of}
use Rattle.eir_hom.specs.declared.atom_view.AtomView.{AtomView}
use Rattle.eir_hom.specs.declared.front.Seat.{Seat}
use Rattle.eir_hom.specs.declared.occurrences.Column.{Column}
use Rattle.eir_hom.specs.Views.{IsView, view_weight, view_of}
use Rattle.eir_hom.specs.Occurring.{column_at, is_marked, known_columns, columns_at, columns_with, columns_from, columns_of, AreMarked}
use Rattle.eir_hom.specs.Fronts.{seat_at, with_bound, listed, seated_from, seated, is_free, free_places, IsLightestFree, first_seat, AreViews}
use Rattle.eir_hom.proofs.MarkLaws.{args-values, bound-marked, marked-first}
use Rattle.eir_hom.proofs.FrontLaws.{next-lightest, free-listed, length-listed}

-- ---- the columns of the facts

-- those of one fact more
pub columns-more : (vs : List Val) (K : List Fact) (p : ℕ) (f : Fact) (cs all : List Column) → slice_get K p ≡ Some f → cs ++ columns_from vs p (drop p K) ≡ all →
    (cs ++ columns_with p (numbers_of vs f.args)) ++ columns_from vs (p + 1) (drop (p + 1) K) ≡ all
columns-more vs K p f cs all there so_far =
    let l = slice_get_within K p f there in
    let up : p + 1 ≡ suc p = omega arith in
    let here = drop-cons K p f l ∙ ap (λ g. g ∷ drop (suc p) K) (get_or_from_slice_get K p f f there) in
    rw up (append_assoc cs (columns_with p (numbers_of vs f.args)) (columns_from vs (suc p) (drop (suc p) K)) ∙ ap (λ ds. cs ++ columns_from vs p ds) (sym here) ∙ so_far)

-- a column is one of a value of a fact
pub record Origin (vs : List Val) (n : ℕ) (K : List Fact) (c : Column) : Type 0 where
  pub place : ℕ
  pub fact : Fact
  pub value : Val
  pub there : slice_get K place ≡ Some fact
  pub among : value ∈ fact.args
  pub its_fact : c.fact ≡ n + place
  pub its_value : c.value ≡ place_of val_eq value vs

with-origin : (vs us : List Val) (n k : ℕ) → k < length (columns_with n (numbers_of vs us)) →
    (v : Val) × (v ∈ us) × (column_at (columns_with n (numbers_of vs us)) k ≡ record { fact = n; value = place_of val_eq v vs })
with-origin vs [] n k l = absurd (omega arith)
with-origin vs (u ∷ us) n zero l = (u, inl refl, refl)
with-origin vs (u ∷ us) n (suc k) l = let r = with-origin vs us n k (omega arith) in (r.0, inr r.1, r.2)

pub origin : (vs : List Val) (n : ℕ) (K : List Fact) (k : ℕ) → k < length (columns_from vs n K) → Origin vs n K (column_at (columns_from vs n K) k)
origin vs n [] k l = absurd (omega arith)
origin vs n (f ∷ K) k l = by (origin vs (suc n) K (k - length (columns_with n (numbers_of vs f.args))))
  where
    by : (k - length (columns_with n (numbers_of vs f.args)) < length (columns_from vs (suc n) K) →
        Origin vs (suc n) K (column_at (columns_from vs (suc n) K) (k - length (columns_with n (numbers_of vs f.args))))) → Origin vs n (f ∷ K) (column_at (columns_from vs n (f ∷ K)) k)
    by rest =
        let long = length-append (columns_with n (numbers_of vs f.args)) (columns_from vs (suc n) K) in
        elim (cases_lt k (length (columns_with n (numbers_of vs f.args)))) [
          | inl h ↦ (let r = with-origin vs f.args n k h in
              let e = get_or_append_left (columns_with n (numbers_of vs f.args)) (columns_from vs (suc n) K) (record { fact = 0; value = 0 }) k h ∙ r.2 in
              record { place = 0; fact = f; value = r.0; there = refl; among = r.1; its_fact = ap (λ (c : Column). c.fact) e ∙ omega arith; its_value = ap (λ (c : Column). c.value) e })
          | inr h ↦ (let r = rest (omega arith) in
              let e = get_or-append_right (columns_with n (numbers_of vs f.args)) (columns_from vs (suc n) K) k (record { fact = 0; value = 0 }) h in
              record {
                place = suc r.place;
                fact = r.fact;
                value = r.value;
                there = r.there;
                among = r.among;
                its_fact = ap (λ (c : Column). c.fact) e ∙ r.its_fact ∙ omega arith;
                its_value = ap (λ (c : Column). c.value) e ∙ r.its_value;
              })
        ]

-- ---- how many there are

-- the columns of the fact at p whose value passes
abbrev passing : (ℕ → Bool) → ℕ → List Column → ℕ
passing t p cs = length (filter (λ c. (c.fact == p) && t c.value) cs)

passing-append : (t : ℕ → Bool) (p : ℕ) (cs ds : List Column) → passing t p (cs ++ ds) ≡ passing t p cs + passing t p ds
passing-append t p cs ds = ap length (filter-append (λ c. (c.fact == p) && t c.value) cs ds) ∙ length-append (filter (λ c. (c.fact == p) && t c.value) cs) (filter (λ c. (c.fact == p) && t c.value) ds)

passing-here : (t : ℕ → Bool) (n : ℕ) (row : List ℕ) → passing t n (columns_with n row) ≡ length (filter t row)
passing-here t n [] = refl
passing-here t n (v ∷ row) =
    let rest = passing-here t n row in
    elim (cases_Bool (t v)) [ inl s ↦ rw (eq-eqb n n refl, s) (ap suc rest) | inr s ↦ rw (eq-eqb n n refl, s) rest ]

passing-apart : (t : ℕ → Bool) (n p : ℕ) (row : List ℕ) → (n ≡ p → ⊥) → passing t p (columns_with n row) ≡ 0
passing-apart t n p [] ne = refl
passing-apart t n p (v ∷ row) ne = rw (ne_eqb n p ne) (passing-apart t n p row ne)

passing-past : (t : ℕ → Bool) (vs : List Val) (n p : ℕ) (K : List Fact) → p < n → passing t p (columns_from vs n K) ≡ 0
passing-past t vs n p [] l = refl
passing-past t vs n p (f ∷ K) l =
    let a = passing-apart t n p (numbers_of vs f.args) (λ e. absurd (omega arith)) in
    let b = passing-past t vs (suc n) p K (omega arith) in
    passing-append t p (columns_with n (numbers_of vs f.args)) (columns_from vs (suc n) K) ∙ omega arith

passing-at : (t : ℕ → Bool) (vs : List Val) (n k : ℕ) (K : List Fact) (f : Fact) → slice_get K k ≡ Some f → passing t (n + k) (columns_from vs n K) ≡ length (filter t (numbers_of vs f.args))
passing-at t vs n k [] f e = absurd (none-some f e)
passing-at t vs n zero (g ∷ K) f e =
    let z : n + 0 ≡ n = omega arith in
    let a = passing-here t n (numbers_of vs g.args) in
    let b = passing-past t vs (suc n) n K (omega arith) in
    let same = ap (λ h. length (filter t (numbers_of vs h.args))) (same_Some g f e) in
    ap (λ p. passing t p (columns_from vs n (g ∷ K))) z ∙ passing-append t n (columns_with n (numbers_of vs g.args)) (columns_from vs (suc n) K) ∙ omega arith
passing-at t vs n (suc k) (g ∷ K) f e =
    let z : n + suc k ≡ suc n + k = omega arith in
    let a = passing-apart t n (suc n + k) (numbers_of vs g.args) (λ q. absurd (omega arith)) in
    let b = passing-at t vs (suc n) k K f e in
    ap (λ p. passing t p (columns_from vs n (g ∷ K))) z ∙ passing-append t (suc n + k) (columns_with n (numbers_of vs g.args)) (columns_from vs (suc n) K) ∙ omega arith

-- the columns of a fact whose value is known
pub known-count : (A : List Fact) (start : List (Val × Val)) (seen : List Fact) (known : List Bool) (k : ℕ) (f : Fact) → AreMarked (values A) start seen known → slice_get A k ≡ Some f →
    known_columns (columns_of A) known k ≡ bound_of start seen f
known-count A start seen known k f m e =
    (let z : 0 + k ≡ k = omega arith in ap (λ p. passing (is_marked known) p (columns_of A)) (sym z)) ∙ passing-at (is_marked known) (values A) 0 k A f e
    ∙ bound-marked (values A) start seen known f.args m (λ v h. args-values A k f v e h)

all-pass : (row : List ℕ) → length (filter (λ v. true) row) ≡ length row
all-pass [] = refl
all-pass (v ∷ row) = ap suc (all-pass row)

columns_at-is : (cs : List Column) (p : ℕ) → columns_at cs p ≡ passing (λ v. true) p cs
columns_at-is [] p = refl
columns_at-is (c ∷ cs) p = let rest = columns_at-is cs p in elim (cases_Bool (c.fact == p)) [ inl t ↦ rw t (ap suc rest) | inr t ↦ rw t rest ]

-- all of them
pub columns-count : (A : List Fact) (k : ℕ) (f : Fact) → slice_get A k ≡ Some f → columns_at (columns_of A) k ≡ length f.args
columns-count A k f e =
    columns_at-is (columns_of A) k ∙ (let z : 0 + k ≡ k = omega arith in ap (λ p. passing (λ v. true) p (columns_of A)) (sym z)) ∙ passing-at (λ v. true) (values A) 0 k A f e
    ∙ all-pass (numbers_of (values A) f.args) ∙ length-map f.args (λ v. place_of val_eq v (values A))

-- ---- views

-- the view at a place
pub view-at : (A B : List Fact) (start : List (Val × Val)) (seen : List Fact) (ss : List Seat) (k : ℕ) (f : Fact) → map (λ s. s.view) ss ≡ map (view_of B start seen) A → slice_get A k ≡ Some f →
    (seat_at ss k).view ≡ view_of B start seen f
view-at A B start seen ss k f views e =
    let long = sym (length-map ss (λ s. s.view)) ∙ ap length views ∙ length-map A (view_of B start seen) in
    let l = slice_get_within A k f e in
    let there : slice_get ss k ≡ Some (seat_at ss k) = slice_get-get_or ss k (record { view = record { rel = 0; arity = 0; bound = 0; count = 0 }; is_listed = true }) (omega arith) in
    same_Some _ _ (sym (ap (option_map (λ s. s.view)) there) ∙ sym (slice_get-map (λ s. s.view) ss k) ∙ ap (λ xs. slice_get xs k) views ∙ slice_get-map (view_of B start seen) A k
    ∙ ap (option_map (view_of B start seen)) e)

-- where the known columns are counted, the seats are
counted-from : (B : List Fact) (start : List (Val × Val)) (seen : List Fact) (cs : List Column) (known : List Bool) (n : ℕ) (K : List Fact) (ss : List Seat) →
    map (λ s. s.view) ss ≡ map (view_of B start seen) K → ((k : ℕ) (f : Fact) → slice_get K k ≡ Some f → known_columns cs known (n + k) ≡ bound_of start seen f) → ss ≡ seated_from cs known n ss
counted-from B start seen cs known n K [] views counts = refl
counted-from B start seen cs known n [] (s ∷ ss) views counts = absurd (let h = ap length views in omega arith)
counted-from B start seen cs known n (f ∷ K) (s ∷ ss) views counts =
    let z : n + 0 ≡ n = omega arith in
    let head : s.view ≡ view_of B start seen f = cc in
    let tail : map (λ s. s.view) ss ≡ map (view_of B start seen) K = cc in
    let here : s.view.bound ≡ known_columns cs known n = ap (λ v. v.bound) head ∙ sym (counts 0 f refl) ∙ ap (known_columns cs known) z in
    ap₂ (λ x xs. x ∷ xs) (ap (λ k. with_bound k s) here)
    (counted-from B start seen cs known (suc n) K ss tail (λ k g e. let a : suc n + k ≡ n + suc k = omega arith in ap (known_columns cs known) a ∙ counts (suc k) g e))

pub counted : (A B : List Fact) (start : List (Val × Val)) (seen : List Fact) (known : List Bool) (ss : List Seat) → map (λ s. s.view) ss ≡ map (view_of B start seen) A →
    AreMarked (values A) start seen known → ss ≡ seated (columns_of A) known ss
counted A B start seen known ss views m =
    counted-from B start seen (columns_of A) known 0 A ss views (λ k f e. let z : 0 + k ≡ k = omega arith in ap (known_columns (columns_of A) known) z ∙ known-count A start seen known k f m e)

-- counted seats have the views
viewed-from : (B : List Fact) (start : List (Val × Val)) (seen more : List Fact) (cs : List Column) (known : List Bool) (n : ℕ) (K : List Fact) (ss : List Seat) →
    map (λ s. s.view) ss ≡ map (view_of B start seen) K → ((k : ℕ) (f : Fact) → slice_get K k ≡ Some f → known_columns cs known (n + k) ≡ bound_of start more f) →
    map (λ s. s.view) (seated_from cs known n ss) ≡ map (view_of B start more) K
viewed-from B start seen more cs known n [] [] views counts = refl
viewed-from B start seen more cs known n (f ∷ K) [] views counts = absurd (let h = ap length views in omega arith)
viewed-from B start seen more cs known n [] (s ∷ ss) views counts = absurd (let h = ap length views in omega arith)
viewed-from B start seen more cs known n (f ∷ K) (s ∷ ss) views counts =
    let z : n + 0 ≡ n = omega arith in
    let head : s.view ≡ view_of B start seen f = cc in
    let tail : map (λ s. s.view) ss ≡ map (view_of B start seen) K = cc in
    let here : known_columns cs known n ≡ bound_of start more f = ap (known_columns cs known) (sym z) ∙ counts 0 f refl in
    let view : (with_bound (known_columns cs known n) s).view ≡ view_of B start more f =
    ap₂ (λ (v : AtomView) (k : ℕ). let x : AtomView = record { rel = v.rel; arity = v.arity; bound = k; count = v.count } in x) head here in
    ap₂ (λ x xs. x ∷ xs) view (viewed-from B start seen more cs known (suc n) K ss tail (λ k g e. let a : suc n + k ≡ n + suc k = omega arith in ap (known_columns cs known) a ∙ counts (suc k) g e))

pub viewed : (A B : List Fact) (start : List (Val × Val)) (seen more : List Fact) (known : List Bool) (ss : List Seat) → map (λ s. s.view) ss ≡ map (view_of B start seen) A →
    AreMarked (values A) start more known → map (λ s. s.view) (seated (columns_of A) known ss) ≡ map (view_of B start more) A
viewed A B start seen more known ss views m =
    viewed-from B start seen more (columns_of A) known 0 A ss views (λ k f e. let z : 0 + k ≡ k = omega arith in ap (known_columns (columns_of A) known) z ∙ known-count A start more known k f m e)

-- to list a fact changes no view
pub listed-views : (ss : List Seat) (p : ℕ) → map (λ s. s.view) (set ss p (listed (seat_at ss p))) ≡ map (λ s. s.view) ss
listed-views ss p = map-set_same (λ (s : Seat). s.view) ss p (listed (seat_at ss p)) (record { view = record { rel = 0; arity = 0; bound = 0; count = 0 }; is_listed = true }) refl

-- ---- at first

first-free : (B : List Fact) (start : List (Val × Val)) (n : ℕ) (K : List Fact) → places is_free n (map (first_seat B start) K) ≡ places (λ f. true) n K
first-free B start n [] = refl
first-free B start n (f ∷ K) = ap (λ ps. n ∷ ps) (first-free B start (suc n) K)

length-places : (n : ℕ) (K : List Fact) → length (places (λ f. true) n K) ≡ length K
length-places n [] = refl
length-places n (f ∷ K) = ap suc (length-places (suc n) K)

pub plan-first : (A B : List Fact) (start : List (Val × Val)) (ss : List Seat) → ss ≡ map (first_seat B start) A → plan A B start ≡ plan_from A B start (length (free_places ss)) [] (free_places ss)
plan-first A B start ss is =
    let free : free_places ss ≡ places (λ f. true) 0 A = ap free_places is ∙ first-free B start 0 A in
    ap₂ (λ n ps. plan_from A B start n [] ps) (sym (ap length free ∙ length-places 0 A)) (sym free)

pub views-first : (A B : List Fact) (start : List (Val × Val)) (ss : List Seat) → ss ≡ map (first_seat B start) A → map (λ s. s.view) ss ≡ map (view_of B start []) A
views-first A B start ss is = ap (map (λ s. s.view)) is ∙ map-compose (λ (s : Seat). s.view) (first_seat B start) A

-- ---- what is listed next

-- the facts that are listed, with one more
pub facts-more : (A : List Fact) (order : List ℕ) (p : ℕ) (f : Fact) → slice_get A p ≡ Some f → facts_at A (order ++ p ∷ []) ≡ facts_at A order ++ f ∷ []
facts-more A order p f e = filter_map-append (slice_get A) order (p ∷ []) ∙ ap (λ fs. facts_at A order ++ fs) (rw e refl)

step : (A B : List Fact) (start : List (Val × Val)) (seen : List Fact) (p m : ℕ) (free left : List ℕ) (head : ℕ) (tail : List ℕ) → free ≡ head ∷ tail →
    lightest (weight_at A B start seen) head tail ≡ p → length tail ≡ m → without_place p free ≡ left →
    plan_from A B start (length free) seen free ≡ p ∷ plan_from A B start m (seen ++ facts_at A (p ∷ [])) left
step A B start seen p m free left head tail e l long rest =
    ap (λ ps. plan_from A B start (length ps) seen ps) e
    ∙ ap (λ q. q ∷ plan_from A B start (length tail) (seen ++ facts_at A (q ∷ [])) (without_place q (head ∷ tail))) l
    ∙ ap₂ (λ n ps. p ∷ plan_from A B start n (seen ++ facts_at A (p ∷ [])) ps) long (ap (without_place p) (sym e) ∙ rest)

-- the first lightest fact is what the plan lists next
pub plan-next : (A B : List Fact) (start : List (Val × Val)) (seen : List Fact) (ss : List Seat) (p : ℕ) → map (λ s. s.view) ss ≡ map (view_of B start seen) A → IsLightestFree ss p →
    plan_from A B start (length (free_places ss)) seen (free_places ss)
    ≡ p ∷ plan_from A B start (length (free_places (set ss p (listed (seat_at ss p))))) (seen ++ facts_at A (p ∷ [])) (free_places (set ss p (listed (seat_at ss p))))
plan-next A B start seen ss p views is =
    let r = next-lightest (weight_at A B start seen) ss p weighs is in
    let shorter = length-listed ss p is.within is.free in
    let long = ap length r.free in
    step A B start seen p (length (free_places (set ss p (listed (seat_at ss p))))) (free_places ss) (free_places (set ss p (listed (seat_at ss p)))) r.head r.tail r.free r.lightest_is (omega arith)
    (sym (free-listed ss p is.within))
  where
    weighs : (q : ℕ) → q < length ss → weight_at A B start seen q ≡ view_weight (seat_at ss q).view
    weighs q l =
        let long = sym (length-map ss (λ s. s.view)) ∙ ap length views ∙ length-map A (view_of B start seen) in
        by (slice_get A q) refl (omega arith)
      where
        by : (o : Option Fact) → slice_get A q ≡ o → q < length A → unwrap_or (option_map (weight_of B start seen) o) 0 ≡ view_weight (seat_at ss q).view
        by None e h = absurd (none-some (get_or A q (record { rel = 0; args = [] })) (sym e ∙ slice_get-get_or A q (record { rel = 0; args = [] }) h))
        by (Some f) e h = ap view_weight (sym (view-at A B start seen ss q f views e))

-- so the order goes on
pub plan-more : (A B : List Fact) (start : List (Val × Val)) (order : List ℕ) (ss : List Seat) (p : ℕ) → map (λ s. s.view) ss ≡ map (view_of B start (facts_at A order)) A → IsLightestFree ss p →
    plan A B start ≡ order ++ plan_from A B start (length (free_places ss)) (facts_at A order) (free_places ss) →
    plan A B start
    ≡ (order ++ p ∷ []) ++ plan_from A B start (length (free_places (set ss p (listed (seat_at ss p))))) (facts_at A (order ++ p ∷ [])) (free_places (set ss p (listed (seat_at ss p))))
plan-more A B start order ss p views is so_far =
    let free = free_places (set ss p (listed (seat_at ss p))) in
    so_far ∙ ap (λ ps. order ++ ps) (plan-next A B start (facts_at A order) ss p views is) ∙ sym (append_assoc order (p ∷ []) (plan_from A B start (length free) (facts_at A order ++ facts_at A (p ∷ [])) free))
    ∙ ap (λ fs. (order ++ p ∷ []) ++ plan_from A B start (length free) fs free) (sym (filter_map-append (slice_get A) order (p ∷ [])))

-- ---- seats

-- one seat more with a view that can be
pub AreViews-push : (ss : List Seat) (s : Seat) → AreViews ss → IsView s.view → AreViews (ss ++ s ∷ [])
AreViews-push ss s all is p l =
    let long = length-append ss (s ∷ []) in
    elim (cases_lt p (length ss)) [
      | inl h ↦ subst (λ (x : Seat). IsView x.view) (sym (get_or_append_left ss (s ∷ []) (record { view = record { rel = 0; arity = 0; bound = 0; count = 0 }; is_listed = true }) p h)) (all p h)
      | inr h ↦ (let z : p - length ss ≡ 0 = omega arith in
          subst (λ (x : Seat). IsView x.view) (sym (get_or-append_right ss (s ∷ []) p (record { view = record { rel = 0; arity = 0; bound = 0; count = 0 }; is_listed = true }) h
          ∙ ap (λ k. seat_at (s ∷ []) k) z)) is)
    ]

-- one fact more has its first seat
pub seats-more : (A B : List Fact) (start : List (Val × Val)) (known : List Bool) (p n : ℕ) (f : Fact) (row : List ℕ) (ss : List Seat) → known ≡ map (is_known start []) (values A) → slice_get A p ≡ Some f →
    row ≡ numbers_of (values A) f.args → n ≡ length (filter (is_marked known) row) → ss ≡ map (first_seat B start) (take p A) →
    ss ++ record { view = record { rel = f.rel; arity = length f.args; bound = n; count = count_of f.rel B }; is_listed = false } ∷ [] ≡ map (first_seat B start) (take (p + 1) A)
seats-more A B start known p n f row ss marks there numbers counts so_far =
    let l = slice_get_within A p f there in
    let bound : n ≡ bound_of start [] f = counts ∙ ap (λ r. length (filter (is_marked known) r)) numbers
    ∙ bound-marked (values A) start [] known f.args (marked-first (values A) start [] known marks) (λ v h. args-values A p f v there h) in
    let more : take (p + 1) A ≡ take p A ++ f ∷ [] = take_more A p f l ∙ ap (λ g. take p A ++ g ∷ []) (get_or_from_slice_get A p f f there) in
    rw (so_far, more, bound) (sym (map-append (first_seat B start) (take p A) (f ∷ [])))

-- a view that is filled in is one that can be
pub IsView-filled : (r n m k : ℕ) → r < 4294967296 → 1 ≤ m → m ≤ 16 → n ≤ m → k < 18446744073709551616 → IsView (record { rel = r; arity = m; bound = n; count = k })
IsView-filled r n m k a b d e h = record { relation = a; some = b; few = d; known = e; facts = h }
