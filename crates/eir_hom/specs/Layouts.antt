-- How tables lie in flat memory (this project's own).
--   table_of cells ranges l     == the table that a layout places
--   IsLaid cells ranges l       == the ranges of a layout are there, and the rows of those that are laid
--   AreLaid cells ranges n ls   == this of each layout, and each begins behind those before it, from the range n on
use Rattle.std.specs.Prelude.{ℕ, ◌+◌, ◌*◌, ◌≤◌, List, [], ◌∷◌, Option, Some, None, option_map, map, take, drop, length}
use Rattle.eir_hom.specs.declared.tables.Range.{Range}
use Rattle.eir_hom.specs.declared.tables.Layout.{Layout}
use Rattle.eir_hom.specs.Tables.{LaidTable, rows_in}

-- the ranges of a layout's keys
abbrev pub ranges_of : List (Option Range) → Layout → List (Option Range)
ranges_of ranges l = take l.keys (drop l.first ranges)

-- the table that a layout places
abbrev pub table_of : List ℕ → List (Option Range) → Layout → LaidTable
table_of cells ranges l = record {
  stride = l.stride;
  rows = map (option_map (rows_in cells l.stride)) (ranges_of ranges l);
}

-- the rows of the ranges that are laid are within the cells
abbrev pub AreWithin : List ℕ → ℕ → List (Option Range) → Type 0
AreWithin cells stride [] = Unit {0}
AreWithin cells stride (None ∷ rs) = AreWithin cells stride rs
AreWithin cells stride (Some r ∷ rs) = (r.first + r.count * stride ≤ length cells) × AreWithin cells stride rs

-- the ranges of a layout are there, and the rows of those that are laid within the cells
abbrev pub IsLaid : List ℕ → List (Option Range) → Layout → Type 0
IsLaid cells ranges l = (l.first + l.keys ≤ length ranges) × AreWithin cells l.stride (ranges_of ranges l)

-- this of each layout, and each begins behind those before it
abbrev pub AreLaid : List ℕ → List (Option Range) → ℕ → List Layout → Type 0
AreLaid cells ranges n [] = Unit {0}
AreLaid cells ranges n (l ∷ ls) = (n ≤ l.first) × IsLaid cells ranges l × AreLaid cells ranges (l.first + l.keys) ls
