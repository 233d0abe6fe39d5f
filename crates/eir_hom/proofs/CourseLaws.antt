-- One step of a course: the lightest fact is listed with its key column.
use Rattle.std.proofs.Common.{◌≡◌, ℕ, ◌+◌, ◌<◌, ◌≤◌, ◌==◌, ◌||◌, Bool, true, false, List, [], ◌∷◌, ◌++◌, map, take, drop, length, set, get_or, Option, inl, inr, refl, sym, ap, ap₂, ◌∙◌, append-nil, append_assoc, length-append, eq-eqb, ne_eqb, arith}
use Rattle.std.specs.List.{list_any}
use Rattle.std.proofs.Math.Seq.{get_or-append_seam}
use Rattle.std.proofs.lemmas.Bool.{cases_eq}
use Rattle.std.proofs.lemmas.List.{length-map, length_push, map_push, get_or-set_same, get_or-set_other, length-set, ext_get_or, length-take}
use Rattle.eir_term.specs.declared.val.Val.{Val}
use Rattle.eir_term.specs.declared.fact.Fact.{Fact}
use Rattle.eir_term.specs.Instances.{values}
use Rattle.eir_term.specs.Bind.{facts_at}
use Rattle.eir_term.specs.Plans.{is_known, plan_from, plan}
use Rattle.eir_term.proofs.PlanLaws.{length-plan}
use Rattle.eir_hom.specs.declared.front.Seat.{Seat}
use Rattle.eir_hom.specs.declared.course.Shape.{Shape}
use Rattle.eir_hom.specs.Occurring.{Occurring, is_marked}
use Rattle.eir_hom.specs.Fronts.{free_places}
use Rattle.eir_hom.specs.FactRows.{numbers_at}
use Rattle.eir_hom.specs.Compiling.{first_set, marked, shapes_by}
use Rattle.eir_hom.specs.Courses.{shapes_of, IsListed, IsCourse}
use Rattle.eir_hom.proofs.DraftLaws.{length-marked, length-shapes, take-step, rest-step}

pub length-course : (A B : List Fact) (start : List (Val × Val)) → length (shapes_of A B start) ≡ length A
length-course A B start = length-shapes A (map (is_known start []) (values A)) (plan A B start) ∙ length-plan A B start

-- the places of shapes are the places that they are made from
pub places-of : (A : List Fact) (known : List Bool) (ps : List ℕ) → map (λ (s : Shape). s.place) (shapes_by A known ps) ≡ ps
places-of A known [] = refl
places-of A known (p ∷ ps) = ap (λ xs. p ∷ xs) (places-of A (marked known (numbers_at A p)) ps)

or-true : (a b : Bool) → (a || (true || b)) ≡ true
or-true true b = refl
or-true false b = refl

-- after marking, a number is marked where it was or is one of these
marked-at : (known : List Bool) (ns : List ℕ) (v : ℕ) → v < length known →
    get_or (marked known ns) v false ≡ (get_or known v false || list_any (λ u. v == u) ns)
marked-at known [] v h = or-none (get_or known v false)
  where
    or-none : (a : Bool) → a ≡ (a || false)
    or-none true = refl
    or-none false = refl
marked-at known (n ∷ ns) v h =
    let rest = marked-at (set known n true) ns v (omega (arith, length-set known n true)) in
    elim (cases_eq v n) [
      | inl e ↦ (
          let lt : n < length known = omega (arith, e) in
          let here : get_or (set known n true) v false ≡ true = ap (λ k. get_or (set known n true) k false) e ∙ get_or-set_same known n true false lt in
          rest ∙ rw (here, eq-eqb v n e) (sym (or-true (get_or known v false) (list_any (λ u. v == u) ns))))
      | inr ne ↦ rest ∙ rw (get_or-set_other known n v true false ne, ne_eqb v n ne) refl
    ]

-- so flags that say this are those
pub marked-same : (known after : List Bool) (ns row : List ℕ) → row ≡ ns → length after ≡ length known →
    ((v : ℕ) → v < length known → is_marked after v ≡ (is_marked known v || list_any (λ u. v == u) row)) → after ≡ marked known ns
marked-same known after ns row e long marks =
    ext_get_or false after (marked known ns) (long ∙ sym (length-marked known ns))
    (λ v h. marks v (omega (arith, long)) ∙ ap (λ r. get_or known v false || list_any (λ u. v == u) r) e ∙ sym (marked-at known ns v (omega (arith, long))))

module _ (A B : List Fact) (start : List (Val × Val)) (seats : List Seat) (occurs : Occurring) (known : List Bool) (made : List Shape) (capacity : ℕ) (c : IsCourse A B start seats occurs known made capacity) where
  -- no more shapes are made than there are
  pub made-within : length made ≤ length (shapes_of A B start)
  made-within = omega (arith, ap length c.shapes, length-take (length made) (shapes_of A B start))

  -- where no fact is free, all shapes are made
  pub all-made : free_places seats ≡ [] → length made ≡ length (shapes_of A B start)
  all-made none =
      let order = map (λ (s : Shape). s.place) made in
      let e : plan A B start ≡ map (λ (s : Shape). s.place) made ++ [] = rw none at c.listed.order in
      sym (length-map made (λ (s : Shape). s.place)) ∙ ap length (sym (append-nil (map (λ (s : Shape). s.place) made)) ∙ sym e) ∙ length-plan A B start ∙ sym (length-course A B start)

  -- the next shape is made
  pub course-next : (p : ℕ) (row : List ℕ) → row ≡ numbers_at A p → (column : Option ℕ) → column ≡ first_set known 0 row →
      (ms : List Seat) (now : Occurring) → now ≡ occurs → (after kept : List Bool) → length after ≡ length known →
      ((v : ℕ) → v < length known → is_marked after v ≡ (is_marked known v || list_any (λ u. v == u) row)) → kept ≡ after →
      (more : List Shape) → more ≡ made ++ record { place = p; column = column } ∷ [] →
      IsListed A B start kept ms (map (λ (s : Shape). s.place) made ++ p ∷ []) → (room : ℕ) → capacity ≤ room →
      IsCourse A B start ms now kept more room
  course-next p row row_is column column_is ms now now_is after kept long marks kept_is more more_is listed room le =
      let places : List Shape → List ℕ = map (λ (s : Shape). s.place) in
      let i = length made in
      let plan_is : plan A B start ≡ (map (λ (s : Shape). s.place) made ++ p ∷ []) ++ plan_from A B start (length (free_places ms)) (facts_at A (map (λ (s : Shape). s.place) made ++ p ∷ [])) (free_places ms) = listed.order in
      let rest = plan_from A B start (length (free_places ms)) (facts_at A (map (λ (s : Shape). s.place) made ++ p ∷ [])) (free_places ms) in
      let count : length (map (λ (s : Shape). s.place) made) ≡ length made = length-map made (λ (s : Shape). s.place) in
      let h : length made < length (plan A B start) = omega (arith, ap length plan_is, length-append (map (λ (s : Shape). s.place) made ++ p ∷ []) rest, length_push (map (λ (s : Shape). s.place) made) p, count) in
      let at : get_or (plan A B start) (length made) 0 ≡ p =
      ap₂ (λ xs k. get_or xs k 0) (plan_is ∙ append_assoc (map (λ (s : Shape). s.place) made) (p ∷ []) rest) (sym count) ∙ get_or-append_seam (map (λ (s : Shape). s.place) made) p rest 0 in
      let S = shapes_of A B start in
      let all : length (shapes_of A B start) ≡ length (plan A B start) = length-shapes A (map (is_known start []) (values A)) (plan A B start) in
      let taken = take-step A known (shapes_of A B start) (plan A B start) (length made) h c.rest all in
      let left = rest-step A known (shapes_of A B start) (plan A B start) (length made) h c.rest all in
      let one : length more ≡ length made + 1 = ap length more_is ∙ length_push made _ in
      let flags : kept ≡ marked known (numbers_at A p) = kept_is ∙ marked-same known after (numbers_at A p) row row_is long marks in
      record {
        listed = rw (more_is, map_push (λ (s : Shape). s.place) made (record { place = p; column = column })) listed;
        columns = ap (λ (o : Occurring). o.columns) now_is ∙ c.columns;
        numbers = ap (λ (o : Occurring). o.values) now_is ∙ c.numbers;
        shapes = more_is
            ∙ ap₂ (λ xs s. xs ++ s ∷ []) c.shapes (ap₂ (λ (q : ℕ) (o : Option ℕ). let r : Shape = record { place = q; column = o } in r) (sym at) (column_is ∙ ap (first_set known 0) (row_is ∙ ap (numbers_at A) (sym at))))
            ∙ sym taken ∙ ap (λ n. take n (shapes_of A B start)) (sym one);
        rest = ap (λ n. drop n (shapes_of A B start)) one ∙ left
            ∙ ap₂ (λ k n. shapes_by A k (drop n (plan A B start))) (ap (λ q. marked known (numbers_at A q)) at ∙ sym flags) (sym one);
        room = omega (arith, c.room, le);
      }
