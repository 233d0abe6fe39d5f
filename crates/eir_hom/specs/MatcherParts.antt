-- What a matcher keeps (this project's own).
--   columns_at cs l             == the columns of a level
--   level_in ts cs l            == a level
--   levels_in ts cs ls          == all levels
--   start_in given images       == the bindings at the start
--   IsCompiled ts cs n seen l   == the parts of a level are there, and its columns follow on these slots
--   AreCompiled ts cs n seen ls == this of each level
--   IsRangeFor ts l w r         == the range has the rows of the level's table for a number
--   IsRange ts l level r m      == the range has the rows of the level after m
--   Stands ls start placed images  == the bindings after what is placed, and that their numbers are kept
--   HasLevelRoom ts ..          == there is room for a level for each table
--   IsMatcher ts cs ls given images flags ranges placed depth  == all this of the parts of a matcher
use Rattle.std.specs.Prelude.{◌≡◌, ℕ, ◌+◌, ◌*◌, ◌<◌, ◌≤◌, Bool, true, false, List, [], ◌∷◌, map, length, take, drop}
use Rattle.std.specs.Prelude.{get_or, slice_get, Some}
use Rattle.std.specs.List.{sum_by}
use Rattle.eir_hom.specs.declared.columns.Column.{Column}
use Rattle.eir_hom.specs.declared.tables.Range.{Range}
use Rattle.eir_hom.specs.declared.matching.CompiledLevel.{CompiledLevel}
use Rattle.eir_hom.specs.Tables.{Table, TablesView, table_at, rows_in}
use Rattle.eir_hom.specs.Matching.{Level, Bindings, rows_at, matched}
use Rattle.eir_hom.specs.Columns.{is_among, seen_after, bound_slots, slots_of, AreBelow, AreColumns, Holds}

-- the columns of a level
abbrev pub columns_at : List Column → CompiledLevel → List Column
columns_at cs l = take l.stride (drop l.first_column cs)

-- a level
abbrev pub level_in : TablesView → List Column → CompiledLevel → Level
level_in ts cs l = record { key = l.key; slots = slots_of (columns_at cs l); rows = (table_at ts.tables l.table).rows }

-- all levels
abbrev pub levels_in : TablesView → List Column → List CompiledLevel → List Level
levels_in ts cs ls = map (level_in ts cs) ls

-- the bindings at the start
abbrev pub start_in : List ℕ → List ℕ → Bindings
start_in given images = map (λ s. (s, get_or images s 0)) given

-- the parts of a level are there, and its columns follow on these slots
pub record IsCompiled (ts : TablesView) (cs : List Column) (n : ℕ) (seen : List ℕ) (l : CompiledLevel) : Type 0 where
  pub table : l.table < length ts.tables
  pub stride : (table_at ts.tables l.table).stride ≡ l.stride
  pub columns : l.first_column + l.stride ≤ length cs
  pub key_seen : is_among l.key seen ≡ true
  pub key_below : l.key < n
  pub slots_below : AreBelow (slots_of (columns_at cs l)) n
  pub are_columns : AreColumns seen (columns_at cs l)

-- this of each level
abbrev pub AreCompiled : TablesView → List Column → ℕ → List ℕ → List CompiledLevel → Type 0
AreCompiled ts cs n seen [] = Unit {0}
AreCompiled ts cs n seen (l ∷ ls) = IsCompiled ts cs n seen l
    × AreCompiled ts cs n (seen_after seen (slots_of (columns_at cs l))) ls

-- the range has the rows of the level's table for the number w
pub record IsRangeFor (ts : TablesView) (l : CompiledLevel) (w : ℕ) (r : Range) : Type 0 where
  pub rows : rows_in ts.cells (table_at ts.tables l.table).stride r ≡ get_or (table_at ts.tables l.table).rows w []
  pub within : r.first + r.count * (table_at ts.tables l.table).stride ≤ length ts.cells

-- the range has the rows of the level after m
pub record IsRange (ts : TablesView) (cs : List Column) (l : CompiledLevel) (r : Range) (m : Bindings) : Type 0 where
  pub rows : rows_in ts.cells l.stride r ≡ rows_at (level_in ts cs l) m
  pub within : r.first + r.count * l.stride ≤ length ts.cells

-- the bindings after what is placed, and that their numbers are kept
pub record Stands (ls : List Level) (start : Bindings) (placed images : List ℕ) : Type 0 where
  pub reached : Bindings
  pub matches : matched ls start placed ≡ Some reached
  pub holds : Holds images reached

-- there is room for a level for each table: for the level and its columns, its range and its choice
pub record HasLevelRoom (tables : List Table) (levels columns levels_capacity columns_capacity ranges placed : ℕ)
    : Type 0 where
  pub levels_room : length tables ≤ levels_capacity
  pub columns_room : sum_by (λ t. t.stride) tables ≤ columns_capacity
  pub ranges_room : length tables ≤ ranges
  pub placed_room : length tables ≤ placed
  pub filled : columns ≡ sum_by (λ t. t.stride) (take levels tables)

-- the parts of a matcher: there is room, each level is compiled, the flags say what is bound, the images are those
-- after what is placed, and the ranges up to the next level have its rows
pub record IsMatcher (ts : TablesView) (cs : List Column) (ls : List CompiledLevel) (given images : List ℕ)
    (flags : List Bool) (ranges : List Range) (placed : List ℕ) (depth : ℕ) : Type 0 where
  pub flags_room : length flags ≡ length images
  pub ranges_room : length ls ≤ length ranges
  pub placed_room : length ls ≤ length placed
  pub deep : depth ≤ length ls
  pub given_below : AreBelow given (length images)
  pub compiled : AreCompiled ts cs (length images) given ls
  pub bound : (s : ℕ) → get_or flags s false ≡ is_among s (bound_slots given (levels_in ts cs ls))
  pub stands : Stands (levels_in ts cs ls) (start_in given images) (take depth placed) images
  pub ranges_are : (k : ℕ) (l : CompiledLevel) (r : Range) (m : Bindings) → k ≤ depth
      → slice_get ls k ≡ Some l → slice_get ranges k ≡ Some r →
      matched (levels_in ts cs ls) (start_in given images) (take k placed) ≡ Some m → IsRange ts cs l r m
