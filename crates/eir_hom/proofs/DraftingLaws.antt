-- Drafts of levels: each names the table of its shape, and its shape is that of a fact.
use Rattle.std.proofs.Common.{◌≡◌, ◌<◌, ℕ, suc, ◌+◌, Bool, false, List, [], ◌∷◌, ◌++◌, map, length, get_or, Option, Some, None, inl, inr, refl, ap, ◌∙◌, subst, append_assoc, length-append, add-one, arith}
use Rattle.std.proofs.lemmas.List.{get_or-map, length-map, length_push}
use Rattle.std.proofs.Math.Seq.{get_or-append_seam}
use Rattle.std.proofs.lemmas.Bool.{cases_Bool}
use Rattle.eir_term.specs.declared.fact.Fact.{Fact}
use Rattle.eir_hom.specs.declared.course.Shape.{Shape}
use Rattle.eir_hom.specs.FactRows.{numbers_at, Within}
use Rattle.eir_hom.specs.Stocks.{no_table, shape_table, AreShapes}
use Rattle.eir_hom.specs.Compiling.{first_set, marked, shapes_by, drafts_of, ArePlaces, AreDrafts}

-- the column that is found is one of the row
found-under : (known : List Bool) (p : ℕ) (ns : List ℕ) (i : ℕ) → first_set known p ns ≡ Some i → i < p + length ns
found-under known p [] i e = absurd (cc)
found-under known p (n ∷ ns) i e = elim (cases_Bool (get_or known n false)) [
  | inl t ↦ (let h : Some p ≡ Some i = rw t at e in let s : p ≡ i = cc in omega (arith, s))
  | inr f ↦ omega (arith, found-under known (suc p) ns i (rw f at e))
]

pub first_set-within : (known : List Bool) (ns : List ℕ) → Within (first_set known 0 ns) ns
first_set-within known ns = by (first_set known 0 ns) refl
  where
    by : (o : Option ℕ) → first_set known 0 ns ≡ o → Within o ns
    by None e = tt
    by (Some i) e = omega (arith, found-under known 0 ns i e)

-- they name the tables of their shapes
drafts-from : (A B : List Fact) (before ss : List Shape) → AreDrafts A B (map (shape_table A B) (before ++ ss)) (drafts_of (length before) ss) ss
drafts-from A B before [] = tt
drafts-from A B before (s ∷ ss) =
    let all = before ++ s ∷ ss in
    let long : length (map (shape_table A B) all) ≡ length before + suc (length ss) = length-map all (shape_table A B) ∙ length-append before (s ∷ ss) in
    let at : get_or (map (shape_table A B) all) (length before) no_table ≡ shape_table A B s =
    get_or-map (shape_table A B) all (length before) s no_table (omega (arith, length-append before (s ∷ ss))) ∙ ap (shape_table A B) (get_or-append_seam before s ss s) in
    let next = drafts-from A B (before ++ s ∷ []) ss in
    let tail : AreDrafts A B (map (shape_table A B) all) (drafts_of (suc (length before)) ss) ss =
    subst (λ xs. AreDrafts A B (map (shape_table A B) xs) (drafts_of (suc (length before)) ss) ss) (append_assoc before (s ∷ []) ss) (subst (λ n. AreDrafts A B (map (shape_table A B) ((before ++ s ∷ []) ++ ss)) (drafts_of n ss) ss) (length_push before s ∙ add-one (length before)) next) in
    (refl, omega arith, at, tail)

pub drafts-are : (A B : List Fact) (ss : List Shape) → AreDrafts A B (map (shape_table A B) ss) (drafts_of 0 ss) ss
drafts-are A B ss = drafts-from A B [] ss

-- the shapes of a plan are those of facts
pub shapes-are : (A : List Fact) (known : List Bool) (ps : List ℕ) → ArePlaces A ps → AreShapes A (shapes_by A known ps)
shapes-are A known [] all = tt
shapes-are A known (p ∷ ps) all = ((all.0, first_set-within known (numbers_at A p)), shapes-are A (marked known (numbers_at A p)) ps all.1)
