-- Pushing of levels, one by one.
use Rattle.std.proofs.Common.{◌≡◌, ◌<◌, ℕ, zero, suc, true, List, [], ◌∷◌, ◌++◌, map, take, drop, length, get_or, Option, Some, None, ap, ◌∙◌, subst, drop-cons, arith}
use Rattle.eir_term.specs.declared.fact.Fact.{Fact}
use Rattle.eir_term.specs.Instances.{values}
use Rattle.eir_hom.specs.Compiling.{Draft}
use Rattle.eir_hom.specs.FactRows.{numbers_at, row_at}
use Rattle.eir_hom.specs.FactRows.{AllUnder}
use Rattle.eir_hom.specs.Levels.{but_at}
use Rattle.eir_hom.specs.Tables.{Table}
use Rattle.eir_hom.specs.Columns.{is_among, bound_slots, AreBelow}
use Rattle.eir_hom.specs.Stocks.{no_table, IsShape}
use Rattle.eir_hom.specs.Compiling.{AreReadyDrafts, draft_level}
use Rattle.eir_hom.proofs.FitLaws.{AllUnder-at}
use Rattle.eir_hom.proofs.StockLaws.{numbers-under}
use Rattle.eir_hom.proofs.DraftLaws.{ready-drop}

under-append : (n : ℕ) (xs ys : List ℕ) → AllUnder n xs → AllUnder n ys → AllUnder n (xs ++ ys)
under-append n [] ys a b = b
under-append n (x ∷ xs) ys a b = (a.0, under-append n xs ys a.1 b)

under-take : (n k : ℕ) (xs : List ℕ) → AllUnder n xs → AllUnder n (take k xs)
under-take n zero xs a = tt
under-take n (suc k) [] a = tt
under-take n (suc k) (x ∷ xs) a = (a.0, under-take n k xs a.1)

under-drop : (n k : ℕ) (xs : List ℕ) → AllUnder n xs → AllUnder n (drop k xs)
under-drop n zero xs a = a
under-drop n (suc k) [] a = tt
under-drop n (suc k) (x ∷ xs) a = under-drop n k xs a.1

under-but_at : (n : ℕ) (i : Option ℕ) (xs : List ℕ) → AllUnder n xs → AllUnder n (but_at i xs)
under-but_at n None xs a = a
under-but_at n (Some i) xs a = under-append n (take i xs) (drop (suc i) xs) (under-take n i xs a) (under-drop n (suc i) xs a)

-- the slots of a row are those of values
pub row-below : (A : List Fact) (i : Option ℕ) (p slots : ℕ) → length (values A) < slots → AreBelow (row_at A i p) slots
row-below A i p slots h =
    λ k l. (let b : get_or (row_at A i p) k 0 < length (values A) = AllUnder-at (length (values A)) (row_at A i p) k 0 (under-but_at (length (values A)) i (numbers_at A p) (numbers-under A p)) l in omega arith)

-- what is read of a fact's row, but for the column
pub row-read : (A : List Fact) (i : Option ℕ) (p : ℕ) (ns cleared pushed : List ℕ) → ns ≡ numbers_at A p → cleared ≡ [] → pushed ≡ cleared ++ but_at i ns → pushed ≡ row_at A i p
row-read A i p ns cleared pushed n e h = h ∙ ap (λ xs. xs ++ but_at i ns) e ∙ ap (but_at i) n

-- what stands past the last draft
abbrev pub no_draft : Draft
no_draft = record { shape = record { place = 0; column = None }; table = 0 }

-- the draft is ready after the levels that bind these slots
pub record IsReady (A : List Fact) (ts : List Table) (seen : List ℕ) (d : Draft) : Type 0 where
  pub shape : IsShape A d.shape
  pub table : d.table < length ts
  pub stride : (get_or ts d.table no_table).stride ≡ length (row_at A d.shape.column d.shape.place)
  pub key : is_among (draft_level A ts d).key seen ≡ true

pub ready-at : (A : List Fact) (ts : List Table) (seen : List ℕ) (ds : List Draft) (i : ℕ) → AreReadyDrafts A ts seen ds → i < length ds → IsReady A ts (bound_slots seen (map (draft_level A ts) (take i ds))) (get_or ds i no_draft)
ready-at A ts seen ds i r h =
    let now = bound_slots seen (map (draft_level A ts) (take i ds)) in
    let a : AreReadyDrafts A ts now (get_or ds i no_draft ∷ drop (suc i) ds) = subst (AreReadyDrafts A ts now) (drop-cons ds i no_draft h) (ready-drop A ts seen ds i r) in
    record { shape = a.0; table = a.1; stride = a.2; key = a.3 }
