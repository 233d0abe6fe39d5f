-- One step of the plan: the lightest fact is listed, and its values become known.
use Rattle.std.proofs.Common.{◌≡◌, ℕ, ◌<◌, ◌≤◌, ◌==◌, ◌||◌, Bool, List, [], ◌∷◌, ◌++◌, map, length, get_or, take, drop, Some, slice_get, sym, ◌∙◌, ap, ap₂, subst, arith}
use Rattle.std.specs.List.{list_any}
use Rattle.std.proofs.Math.ListN.{set}
use Rattle.std.proofs.Math.Seq.{take-append_seam}
use Rattle.std.proofs.lemmas.List.{length-map}
use Rattle.std.proofs.lemmas.Option.{slice_get-get_or}
use Rattle.eir_term.specs.declared.val.Val.{Val}
use Rattle.eir_term.specs.declared.fact.Fact.{Fact}
use Rattle.eir_term.specs.Instances.{values}
use Rattle.eir_term.specs.Bind.{facts_at}
use Rattle.eir_term.specs.Plans.{plan_from}
use Rattle.eir_hom.specs.declared.atom_view.AtomView.{AtomView}
use Rattle.eir_hom.specs.declared.front.Seat.{Seat}
use Rattle.eir_hom.specs.declared.occurrences.Column.{Column}
use Rattle.eir_hom.specs.Views.{view_of}
use Rattle.eir_hom.specs.Occurring.{column_at, is_marked, columns_at, columns_of, AreMarked}
use Rattle.eir_hom.specs.Fronts.{seat_at, listed, seated, free_places, IsLightestFree}
use Rattle.eir_hom.specs.Courses.{IsListed}
use Rattle.eir_hom.proofs.MarkLaws.{Row, args-values, place_of-below, marked-more}
use Rattle.eir_hom.proofs.FrontLaws.{free-seated}
use Rattle.eir_hom.proofs.OrderLaws.{origin, columns-count, view-at, counted, viewed, listed-views, facts-more, plan-more}
use Rattle.std.proofs.lemmas.Option.{slice_get_within}

-- the values of the columns are numbered
pub columns-numbered : (A : List Fact) (cs : List Column) → cs ≡ columns_of A → (k : ℕ) → k < length cs → (column_at cs k).value < length (values A)
columns-numbered A cs is k l =
    let within : k < length (columns_of A) = let e = ap length is in omega arith in
    let o = origin (values A) 0 A k within in
    let below = place_of-below o.value (values A) (args-values A o.place o.fact o.value o.there o.among) in
    let value : (column_at cs k).value ≡ (column_at (columns_of A) k).value = ap (λ (ds : List Column). (column_at ds k).value) is in
    let its = o.its_value in
    omega arith

-- as there are as many seats as facts
pub as-many : (A B : List Fact) (start : List (Val × Val)) (seen : List Fact) (ss : List Seat) → map (λ s. s.view) ss ≡ map (view_of B start seen) A → length ss ≡ length A
as-many A B start seen ss views = sym (length-map ss (λ s. s.view)) ∙ ap length views ∙ length-map A (view_of B start seen)

module _ (A B : List Fact) (start : List (Val × Val)) (known : List Bool) (ss : List Seat) (order : List ℕ) (stands : IsListed A B start known ss order)
    (cs : List Column) (cols : cs ≡ columns_of A) (p : ℕ) (is : IsLightestFree ss p) (ns : List Seat) (now : ns ≡ set ss p (listed (seat_at ss p))) where
  pub place-within : p < length A
  place-within = let long = as-many A B start (facts_at A order) ss stands.views in let l = is.within in omega arith

  pub now-views : map (λ s. s.view) ns ≡ map (view_of B start (facts_at A order)) A
  now-views = ap (map (λ s. s.view)) now ∙ listed-views ss p ∙ stands.views

  pub now-placed : (k : ℕ) → k < length cs → (column_at cs k).fact < length ns
  now-placed k l =
      let long = as-many A B start (facts_at A order) ns now-views in
      let within : k < length (columns_of A) = let e = ap length cols in omega arith in
      let o = origin (values A) 0 A k within in
      let there = slice_get_within A o.place o.fact o.there in
      let fact : (column_at cs k).fact ≡ (column_at (columns_of A) k).fact = ap (λ (ds : List Column). (column_at ds k).fact) cols in
      let its = o.its_fact in
      omega arith

  pub now-fitting : (q : ℕ) → q < length ns → columns_at cs q ≤ (seat_at ns q).view.arity
  now-fitting q l =
      let long = as-many A B start (facts_at A order) ns now-views in
      let f = get_or A q (record { rel = 0; args = [] }) in
      let there : slice_get A q ≡ Some (get_or A q (record { rel = 0; args = [] })) = slice_get-get_or A q (record { rel = 0; args = [] }) (omega arith) in
      let arity : (seat_at ns q).view.arity ≡ length (get_or A q (record { rel = 0; args = [] })).args = ap (λ (v : AtomView). v.arity) (view-at A B start (facts_at A order) ns q f now-views there) in
      let many : columns_at cs q ≡ length (get_or A q (record { rel = 0; args = [] })).args = ap (λ (ds : List Column). columns_at ds q) cols ∙ columns-count A q f there in
      omega arith

  pub now-counted : (marked : List Bool) → marked ≡ known → ns ≡ seated cs marked ns
  now-counted marked same = counted A B start (facts_at A order) known ns now-views stands.marks ∙ ap₂ (λ (ds : List Column) (bs : List Bool). seated ds bs ns) (sym cols) (sym same)

  -- and the plan goes on
  pub now-stands : (row : List ℕ) → Row A p row → (old marked : List Bool) → old ≡ known → length marked ≡ length old →
      ((n : ℕ) → n < length old → is_marked marked n ≡ (is_marked old n || list_any (λ u. n == u) row)) → (ms : List Seat) → ms ≡ seated cs marked ns →
      (more : List ℕ) → more ≡ order ++ p ∷ [] → (kept : List Bool) → kept ≡ marked → IsListed A B start kept ms more
  now-stands row read old marked same long marks ms made more is_more kept is_kept =
      let facts = ap (facts_at A) is_more ∙ facts-more A order p read.fact read.there in
      let marked_now : AreMarked (values A) start (facts_at A order ++ read.fact ∷ []) marked =
      marked-more (values A) start (facts_at A order) old marked read.fact (subst (λ (bs : List Bool). AreMarked (values A) start (facts_at A order) bs) (sym same) stands.marks) long
      (λ v h. args-values A p read.fact v read.there h)
      (subst (λ (r : List ℕ). (n : ℕ) → n < length old → is_marked marked n ≡ (is_marked old n || list_any (λ u. n == u) r)) read.numbers marks) in
      let free : free_places ms ≡ free_places (set ss p (listed (seat_at ss p))) = ap free_places made ∙ free-seated cs marked ns ∙ ap free_places now in
      record {
        views = ap (map (λ s. s.view)) (made ∙ ap (λ (ds : List Column). seated ds marked ns) cols)
            ∙ viewed A B start (facts_at A order) (facts_at A order ++ read.fact ∷ []) marked ns now-views marked_now ∙ ap (λ (fs : List Fact). map (view_of B start fs) A) (sym facts);
        marks = subst (λ (bs : List Bool). AreMarked (values A) start (facts_at A more) bs) (sym is_kept) (subst (λ (fs : List Fact). AreMarked (values A) start fs marked) (sym facts) marked_now);
        order = plan-more A B start order ss p stands.views is stands.order
            ∙ ap₂ (λ (os : List ℕ) (ps : List ℕ). os ++ plan_from A B start (length ps) (facts_at A os) ps) (sym is_more) (sym free);
      }

-- what a vector holds after it was lent whole
pub lent-back : (xs ys : List Bool) (n : ℕ) → length xs ≡ n → take n (xs ++ drop (length xs) ys) ≡ xs
lent-back xs ys n e = rw (← e) (take-append_seam xs (drop (length xs) ys))
