-- Drafts of levels, one by one.
use Rattle.std.proofs.Common.{◌≡◌, ◌<◌, ℕ, zero, suc, ◌+◌, Bool, true, false, cond, List, [], ◌∷◌, ◌++◌, map, take, drop, set, length, get_or, Some, refl, sym, ap, ◌∙◌, add-one, drop-cons, arith}
use Rattle.std.proofs.lemmas.List.{take_more, length-set}
use Rattle.eir_term.specs.declared.fact.Fact.{Fact}
use Rattle.eir_hom.specs.declared.course.Shape.{Shape}
use Rattle.eir_hom.specs.Compiling.{Draft}
use Rattle.eir_hom.specs.FactRows.{numbers_at, row_at}
use Rattle.eir_hom.specs.Tables.{Table}
use Rattle.eir_hom.specs.Columns.{seen_after, bound_slots}
use Rattle.eir_hom.specs.Compiling.{first_set, marked, shapes_by, AreReadyDrafts, draft_level}

-- a column more
pub first_set-step : (known : List Bool) (ns : List ℕ) (i : ℕ) → i < length ns → first_set known i (drop i ns) ≡ cond (get_or known (get_or ns i 0) false) (Some i) (first_set known (i + 1) (drop (i + 1) ns))
first_set-step known ns i h = rw (add-one, drop-cons ns i 0 h) refl

pub length-marked : (known : List Bool) (ns : List ℕ) → length (marked known ns) ≡ length known
length-marked known [] = refl
length-marked known (n ∷ ns) = length-marked (set known n true) ns ∙ length-set known n true

pub length-shapes : (A : List Fact) (known : List Bool) (ps : List ℕ) → length (shapes_by A known ps) ≡ length ps
length-shapes A known [] = refl
length-shapes A known (p ∷ ps) = ap suc (length-shapes A (marked known (numbers_at A p)) ps)

-- a turn of the loop over the plan
module _ (A : List Fact) (known : List Bool) (S : List Shape) (ps : List ℕ) (i : ℕ) (h : i < length ps) (rest : drop i S ≡ shapes_by A known (drop i ps)) (long : length S ≡ length ps) where
  abbrev it : Shape
  it = record { place = get_or ps i 0; column = first_set known 0 (numbers_at A (get_or ps i 0)) }

  split : drop i S ≡ it ∷ shapes_by A (marked known (numbers_at A (get_or ps i 0))) (drop (i + 1) ps)
  split = rest ∙ ap (shapes_by A known) (drop-cons ps i 0 h ∙ ap (λ n. get_or ps i 0 ∷ drop n ps) (sym (add-one i)))

  here : get_or S i it ≡ it
  here = let c = drop-cons S i it (omega arith) in let z : get_or S i it ∷ drop (suc i) S ≡ it ∷ shapes_by A (marked known (numbers_at A (get_or ps i 0))) (drop (i + 1) ps) = sym c ∙ split in cc

  pub rest-step : drop (i + 1) S ≡ shapes_by A (marked known (numbers_at A (get_or ps i 0))) (drop (i + 1) ps)
  rest-step =
      let c = drop-cons S i it (omega arith) in
      let z : get_or S i it ∷ drop (suc i) S ≡ it ∷ shapes_by A (marked known (numbers_at A (get_or ps i 0))) (drop (i + 1) ps) = sym c ∙ split in
      ap (λ n. drop n S) (add-one i) ∙ cc

  pub take-step : take (i + 1) S ≡ take i S ++ it ∷ []
  take-step = take_more S i it (omega arith) ∙ ap (λ s. take i S ++ s ∷ []) here

-- the drafts that are left are ready after the levels of those before
pub ready-drop : (A : List Fact) (ts : List Table) (seen : List ℕ) (ds : List Draft) (i : ℕ) → AreReadyDrafts A ts seen ds → AreReadyDrafts A ts (bound_slots seen (map (draft_level A ts) (take i ds))) (drop i ds)
ready-drop A ts seen ds zero r = r
ready-drop A ts seen [] (suc i) r = r
ready-drop A ts seen (d ∷ ds) (suc i) r = ready-drop A ts (seen_after seen (row_at A d.shape.column d.shape.place)) ds i r.4
