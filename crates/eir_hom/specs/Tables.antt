-- Rows of numbers in flat memory (this project's own).
--   Table                       == rows of one length, key by key
--   TablesView                  == what a contract sees of tables: their cells, the tables, and their shapes
--   LaidTable                   == rows of one length under the keys that are laid
--   LaidView                    == what a contract sees of tables of which some keys are laid: also how many ranges
--                                  they have, and for how many cells, ranges and tables there is room
--   rows_in cells stride range  == the rows that a range of cells has
--   table_at ts t               == the table of a number
--   laid_at ts t                == the same of tables of which some keys are laid
--   with_rows t k rows          == a table with these rows laid under a key
use Rattle.std.specs.Prelude.{ℕ, ◌+◌, ◌*◌, List, [], Option, Some, map, take, drop, slice_index_or, slice_set}
use Rattle.std.specs.List.{range_with_len}
use Rattle.eir_hom.specs.declared.tables.Range.{Range}
use Rattle.eir_hom.specs.declared.course.Shape.{Shape}

-- rows of one length, key by key
pub record Table : Type 0 where
  pub stride : ℕ
  pub rows : List (List (List ℕ))

-- what a contract sees of tables
pub record TablesView : Type 0 where
  pub cells : List ℕ
  pub tables : List Table
  pub shapes : List Shape

-- rows of one length under the keys that are laid
pub record LaidTable : Type 0 where
  pub stride : ℕ
  pub rows : List (Option (List (List ℕ)))

-- what a contract sees of tables of which some keys are laid
pub record LaidView : Type 0 where
  pub cells : List ℕ
  pub tables : List LaidTable
  pub ranges : ℕ
  pub cells_room : ℕ
  pub ranges_room : ℕ
  pub tables_room : ℕ

-- the rows that a range of cells has
abbrev pub rows_in : List ℕ → ℕ → Range → List (List ℕ)
rows_in cells stride range =
    map (λ c. take stride (drop (range.first + c * stride) cells)) (range_with_len 0 range.count)

-- the table of a number; past the last an empty one
abbrev pub table_at : List Table → ℕ → Table
table_at ts t = slice_index_or ts t (record { stride = 0; rows = [] })

-- the same of tables of which some keys are laid
abbrev pub laid_at : List LaidTable → ℕ → LaidTable
laid_at ts t = slice_index_or ts t (record { stride = 0; rows = [] })

-- a table with these rows laid under a key
abbrev pub with_rows : LaidTable → ℕ → List (List ℕ) → LaidTable
with_rows t k rows = record { stride = t.stride; rows = slice_set t.rows k (Some rows) }
