-- The tables that facts of A need, and the room to lay them (this project's own).
--   shape_table A B s      == the table of the facts that a fact of A may go to, by its key column
--   IsShape A s            == the shape is that of a fact, which has the column
--   under_key B rel i key  == the places of the facts of a relation under a key
--   may_be_at A B t s key  == those that the fact of a shape may go to
--   row_length A s         == how many numbers a row of a table has
--   cells_for A B s        == how many cells a table has at most; cells_needed those of many together
--   ranges_needed B ss     == how many ranges the tables of these shapes have
--   cells_of t             == how many cells the rows take that are laid in a table
--   IsFilled t l           == a table of which some keys are laid is this one
--   AreTables A B ls ss    == the tables are those of the first shapes
--   IsStocked A B ss laid  == the tables of the first shapes are there, and there is room for the others and all rows
use Rattle.std.specs.Prelude.{◌≡◌, ℕ, ◌+◌, ◌*◌, ◌≤◌, ◌==◌, Bool, List, [], ◌∷◌, filter, length, drop, Option, Some}
use Rattle.std.specs.Prelude.{None, option_map, unwrap_or, slice_get}
use Rattle.std.specs.List.{sum_by}
use Rattle.eir_term.specs.declared.fact.Fact.{Fact}
use Rattle.eir_term.specs.Lists.{places}
use Rattle.eir_term.specs.Instances.{values}
use Rattle.eir_term.specs.Profiles.{has_at}
use Rattle.eir_hom.specs.declared.course.Shape.{Shape}
use Rattle.eir_hom.specs.Levels.{but_at, rows_for}
use Rattle.eir_hom.specs.FactRows.{IsPlace, numbers_at, row_at}
use Rattle.eir_hom.specs.Tables.{Table, LaidTable, LaidView}
use Rattle.eir_hom.specs.Fits.{fits_row}

-- a table with no row
abbrev pub no_table : Table
no_table = record { stride = 0; rows = [] }

-- the table for a fact of A and a key column
abbrev pub fact_table : List Fact → List Fact → Option ℕ → Fact → Table
fact_table A B i f = record { stride = length (but_at i f.args); rows = rows_for A B f i }

-- the table of the facts that a fact of A may go to, by its key column
abbrev pub shape_table : List Fact → List Fact → Shape → Table
shape_table A B s = unwrap_or (option_map (fact_table A B s.column) (slice_get A s.place)) no_table

-- the shape is that of a fact, which has the column
abbrev pub IsShape : List Fact → Shape → Type 0
IsShape A s = IsPlace A s.column s.place

-- this of each shape
abbrev pub AreShapes : List Fact → List Shape → Type 0
AreShapes A [] = Unit {0}
AreShapes A (s ∷ ss) = IsShape A s × AreShapes A ss

-- the relation of the fact at a place
abbrev pub rel_of : List Fact → ℕ → ℕ
rel_of A p = unwrap_or (option_map (λ f. f.rel) (slice_get A p)) 0

-- the places of the facts of a relation under a key: those that have the value with this number at the column, or all
-- where no column is named
abbrev pub under_key : List Fact → ℕ → Option ℕ → ℕ → List ℕ
under_key B rel None key = places (λ g. g.rel == rel) 0 B
under_key B rel (Some i) key = unwrap_or (option_map (λ v. places (has_at rel i v) 0 B) (slice_get (values B) key)) []

-- those that the fact of a shape may go to
abbrev pub may_be_at : List Fact → List Fact → List (List Bool) → Shape → ℕ → List ℕ
may_be_at A B t s key =
    filter (λ p. fits_row t (numbers_at A s.place) (numbers_at B p)) (under_key B (rel_of A s.place) s.column key)

-- how many keys a table has
abbrev pub key_count : List Fact → Option ℕ → ℕ
key_count B None = 1
key_count B (Some i) = length (values B) + 1

-- how many numbers a row of a table has
abbrev pub row_length : List Fact → Shape → ℕ
row_length A s = length (row_at A s.column s.place)

-- how many cells a table has at most: as many rows as B has facts
abbrev pub cells_for : List Fact → List Fact → Shape → ℕ
cells_for A B s = length B * length (but_at s.column (numbers_at A s.place))

-- how many the tables of these shapes have at most together
abbrev pub cells_needed : List Fact → List Fact → List Shape → ℕ
cells_needed A B ss = sum_by (cells_for A B) ss

-- how many ranges the tables of these shapes have
abbrev pub ranges_needed : List Fact → List Shape → ℕ
ranges_needed B ss = sum_by (λ s. key_count B s.column) ss

-- how many cells the rows take that are laid under these keys
abbrev pub cells_of : LaidTable → ℕ
cells_of t = sum_by (λ rows. length (unwrap_or rows [])) t.rows * t.stride

-- the rows that are laid are these
abbrev pub AreFilled : List (Option (List (List ℕ))) → List (List (List ℕ)) → Type 0
AreFilled [] [] = Unit {0}
AreFilled [] (rows ∷ all) = ⊥
AreFilled (key ∷ keys) [] = ⊥
AreFilled (None ∷ keys) (rows ∷ all) = AreFilled keys all
AreFilled (Some laid ∷ keys) (rows ∷ all) = (laid ≡ rows) × AreFilled keys all

-- a table of which some keys are laid is this one
abbrev pub IsFilled : Table → LaidTable → Type 0
IsFilled t l = (l.stride ≡ t.stride) × AreFilled l.rows t.rows

-- the tables are those of the first shapes
abbrev pub AreTables : List Fact → List Fact → List LaidTable → List Shape → Type 0
AreTables A B [] ss = Unit {0}
AreTables A B (l ∷ ls) [] = ⊥
AreTables A B (l ∷ ls) (s ∷ ss) = IsFilled (shape_table A B s) l × AreTables A B ls ss

-- the tables of the first shapes are there, with some keys laid, and there is room for all rows and for the others
pub record IsStocked (A B : List Fact) (ss : List Shape) (laid : LaidView) : Type 0 where
  pub shapes : AreShapes A ss
  pub tables : AreTables A B laid.tables ss
  pub cells : length laid.cells ≡ sum_by cells_of laid.tables
  pub cells_room : cells_needed A B ss ≤ laid.cells_room
  pub ranges_room : laid.ranges + ranges_needed B (drop (length laid.tables) ss) ≤ laid.ranges_room
  pub tables_room : length ss ≤ laid.tables_room
