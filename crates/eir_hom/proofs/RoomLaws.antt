-- The memory that the shapes of a plan take together at most. The points are `columns-room`, `cells-room` and `ranges-room`.
use Rattle.std.proofs.Common.{◌≡◌, ◌≢◌, ℕ, zero, suc, ◌+◌, ◌*◌, ◌≤◌, Bool, true, List, [], ◌∷◌, ◌++◌, map, length, take, drop, Option, Some, None, slice_get, inl, inr, refl, sym, ap, ◌∙◌, length-append, ne_eqb, eq-eqb, mul-le-mul_left, mul-add, arith}
use Rattle.std.specs.List.{sum_by}
use Rattle.std.proofs.lemmas.Bool.{cases_eq}
use Rattle.std.proofs.lemmas.List.{length-map}
use Rattle.std.proofs.lemmas.List.Sums.{sum_by-cons}
use Rattle.eir_term.specs.declared.val.Val.{Val}
use Rattle.eir_term.specs.declared.fact.Fact.{Fact}
use Rattle.eir_term.specs.Lists.{◌∈◌, places}
use Rattle.eir_term.specs.Instances.{values}
use Rattle.eir_term.specs.Bind.{facts_at}
use Rattle.eir_term.specs.Plans.{is_known, lightest, weight_at, without_place, plan_from, plan}
use Rattle.eir_term.proofs.PlanLaws.{∈-lightest}
use Rattle.eir_inst.specs.Numbers.{numbers_of}
use Rattle.eir_hom.specs.declared.course.Shape.{Shape}
use Rattle.eir_hom.specs.FactRows.{numbers_at}
use Rattle.eir_hom.specs.Levels.{number, but_at}
use Rattle.eir_hom.specs.Occurring.{columns_with, columns_from, columns_of}
use Rattle.eir_hom.specs.Compiling.{first_set, marked, shapes_by}
use Rattle.eir_hom.specs.Courses.{shapes_of}
use Rattle.eir_hom.specs.Stocks.{row_length, cells_for, cells_needed, key_count, ranges_needed}
use Rattle.eir_hom.proofs.StockLaws.{key_count-le, numbers-are}

-- ---- places

without-one : (w : ℕ → ℕ) (q p : ℕ) (ps : List ℕ) → p ≢ q → sum_by w (without_place q (p ∷ ps)) ≡ w p + sum_by w (without_place q ps)
without-one w q p ps ne =
    let e : without_place q (p ∷ ps) ≡ p ∷ without_place q ps = rw (ne_eqb p q ne) refl in
    ap (sum_by w) e ∙ sum_by-cons w p (without_place q ps)

without-it : (w : ℕ → ℕ) (q p : ℕ) (ps : List ℕ) → p ≡ q → sum_by w (without_place q (p ∷ ps)) ≡ sum_by w (without_place q ps)
without-it w q p ps same =
    let e : without_place q (p ∷ ps) ≡ without_place q ps = rw (eq-eqb p q same) refl in
    ap (sum_by w) e

without-absent : (w : ℕ → ℕ) (q : ℕ) (ps : List ℕ) → sum_by w (without_place q ps) ≤ sum_by w ps
without-absent w q [] = omega arith
without-absent w q (p ∷ ps) =
    let rest = without-absent w q ps in
    let all = sum_by-cons w p ps in
    elim (cases_eq p q) [
      | inl e ↦ omega (arith, rest, all, without-it w q p ps e)
      | inr ne ↦ omega (arith, rest, all, without-one w q p ps ne)
    ]

-- without one of them they weigh so much less
without-weighs : (w : ℕ → ℕ) (q : ℕ) (ps : List ℕ) → q ∈ ps → w q + sum_by w (without_place q ps) ≤ sum_by w ps
without-weighs w q [] h = absurd h
without-weighs w q (p ∷ ps) (inl e) =
    let rest = without-absent w q ps in
    let same : w q ≡ w p = ap w e in
    omega (arith, rest, same, sum_by-cons w p ps, without-it w q p ps (sym e))
without-weighs w q (p ∷ ps) (inr h) =
    let rest = without-weighs w q ps h in
    let all = sum_by-cons w p ps in
    elim (cases_eq p q) [
      | inl e ↦ (let less = without-absent w q ps in let same : w q ≡ w p = ap w (sym e) in omega (arith, less, same, all, without-it w q p ps e))
      | inr ne ↦ omega (arith, rest, all, without-one w q p ps ne)
    ]

-- what is planned weighs no more than what is left
plan-weighs : (w : ℕ → ℕ) (A B : List Fact) (start : List (Val × Val)) (n : ℕ) (listed : List Fact) (left : List ℕ) →
    sum_by w (plan_from A B start n listed left) ≤ sum_by w left
plan-weighs w A B start zero listed left = omega arith
plan-weighs w A B start (suc n) listed [] = omega arith
plan-weighs w A B start (suc n) listed (p ∷ ps) =
    let q = lightest (weight_at A B start listed) p ps in
    let rest = plan-weighs w A B start n (listed ++ facts_at A (q ∷ [])) (without_place q (p ∷ ps)) in
    let all = without-weighs w q (p ∷ ps) (∈-lightest (weight_at A B start listed) p ps) in
    omega (arith, rest, all, sum_by-cons w q (plan_from A B start n (listed ++ facts_at A (q ∷ [])) (without_place q (p ∷ ps))))

-- ---- columns

-- each fact has as many columns as its row has numbers
columns-weigh : (A : List Fact) (n : ℕ) (fs : List Fact) → ((k : ℕ) (f : Fact) → slice_get fs k ≡ Some f → slice_get A (n + k) ≡ Some f) →
    sum_by (λ p. length (numbers_at A p)) (places (λ (f : Fact). true) n fs) ≡ length (columns_from (values A) n fs)
columns-weigh A n [] at = refl
columns-weigh A n (f ∷ fs) at =
    let z : n + 0 ≡ n = omega arith in
    let here : slice_get A n ≡ Some f = ap (slice_get A) (sym z) ∙ at 0 f refl in
    let one : length (numbers_at A n) ≡ length f.args = ap length (numbers-are A n f here) ∙ length-map f.args (number A) in
    let two : length (columns_with n (numbers_of (values A) f.args)) ≡ length f.args = length-map (numbers_of (values A) f.args) _ ∙ length-map f.args _ in
    let rest = columns-weigh A (suc n) fs (λ k g e. let m : suc n + k ≡ n + suc k = omega arith in ap (slice_get A) m ∙ at (suc k) g e) in
    omega (arith, one, two, rest, sum_by-cons (λ p. length (numbers_at A p)) n (places (λ (g : Fact). true) (suc n) fs), length-append (columns_with n (numbers_of (values A) f.args)) (columns_from (values A) (suc n) fs))

-- ---- shapes

but_at-le : (c : Option ℕ) (xs : List ℕ) → length (but_at c xs) ≤ length xs
but_at-le None xs = omega arith
but_at-le (Some i) xs = at i xs
  where
    at : (i : ℕ) (xs : List ℕ) → length (take i xs ++ drop (suc i) xs) ≤ length xs
    at zero [] = omega arith
    at zero (x ∷ xs) = omega arith
    at (suc i) [] = omega arith
    at (suc i) (x ∷ xs) = omega (arith, at i xs)

shapes-weigh : (A : List Fact) (known : List Bool) (ps : List ℕ) → sum_by (row_length A) (shapes_by A known ps) ≤ sum_by (λ p. length (numbers_at A p)) ps
shapes-weigh A known [] = omega arith
shapes-weigh A known (p ∷ ps) =
    let s : Shape = record { place = p; column = first_set known 0 (numbers_at A p) } in
    omega (arith, but_at-le (first_set known 0 (numbers_at A p)) (numbers_at A p), shapes-weigh A (marked known (numbers_at A p)) ps, sum_by-cons (row_length A) s (shapes_by A (marked known (numbers_at A p)) ps), sum_by-cons (λ q. length (numbers_at A q)) p ps)

-- all rows have no more numbers than the facts have columns
pub columns-room : (A B : List Fact) (start : List (Val × Val)) → sum_by (row_length A) (shapes_of A B start) ≤ length (columns_of A)
columns-room A B start =
    let w : ℕ → ℕ = λ p. length (numbers_at A p) in
    let one = shapes-weigh A (map (is_known start []) (values A)) (plan A B start) in
    let two = plan-weighs w A B start (length A) [] (places (λ (f : Fact). true) 0 A) in
    let three = columns-weigh A 0 A (λ k f e. (let z : 0 + k ≡ k = omega arith in ap (slice_get A) z ∙ e)) in
    omega (arith, one, two, three)

-- ---- cells and ranges

cells-times : (A B : List Fact) (ss : List Shape) → cells_needed A B ss ≡ length B * sum_by (row_length A) ss
cells-times A B [] = omega arith
cells-times A B (s ∷ ss) =
    sum_by-cons (cells_for A B) s ss ∙ ap (λ n. length B * row_length A s + n) (cells-times A B ss) ∙ sym (mul-add (length B) (row_length A s) (sum_by (row_length A) ss)) ∙ ap (λ n. length B * n) (sym (sum_by-cons (row_length A) s ss))

pub cells-room : (A B : List Fact) (ss : List Shape) → sum_by (row_length A) ss ≤ length (columns_of A) → cells_needed A B ss ≤ length B * length (columns_of A)
cells-room A B ss h = rw (cells-times A B ss) (mul-le-mul_left (length B) h)

ranges-times : (B : List Fact) (ss : List Shape) → ranges_needed B ss ≤ length ss * (length (values B) + 1)
ranges-times B [] = omega arith
ranges-times B (s ∷ ss) =
    let n = length (values B) + 1 in
    let one : suc (length ss) * (length (values B) + 1) ≡ (length (values B) + 1) + length ss * (length (values B) + 1) = omega arith in
    omega (arith, ranges-times B ss, key_count-le B s.column, sum_by-cons (λ (r : Shape). key_count B r.column) s ss, one)

pub ranges-room : (A B : List Fact) (ss : List Shape) → length ss ≡ length A → ranges_needed B ss ≤ length A * (length (values B) + 1)
ranges-room A B ss e = rw (← e) (ranges-times B ss)
