-- Tables of which some keys are laid, and the room for their rows. The points are `stocked-added` and `stocked-laid`: what
-- holds of them holds with one table more, and with one key more.
use Rattle.std.proofs.Common.{◌≡◌, ◌<◌, ◌≤◌, ℕ, zero, suc, ◌+◌, ◌*◌, List, [], ◌∷◌, ◌++◌, map, set, drop, replicate, length, get_or, Option, Some, None, unwrap_or, slice_get, refl, sym, ap, ◌∙◌, subst, length-append, mul-le-mul_right, arith}
use Rattle.std.proofs.lemmas.List.{get_or-map, length-map, length_push, length-set}
use Rattle.std.proofs.lemmas.List.Sums.{sum_by-append, sum_by-cons, sum_by-drop_more, sum_by-set}
use Rattle.std.proofs.lemmas.Option.{get_or_from_slice_get}
use Rattle.std.proofs.lemmas.List.Folds.{sum_by-replicate}
use Rattle.std.specs.List.{flat_map, sum_by}
use Rattle.eir_term.specs.declared.fact.Fact.{Fact}
use Rattle.eir_hom.specs.declared.course.Shape.{Shape}
use Rattle.eir_hom.specs.declared.tables.Range.{Range}
use Rattle.eir_hom.specs.Levels.{but_at}
use Rattle.eir_hom.specs.FactRows.{HaveRows, numbers_at, row_at}
use Rattle.eir_hom.specs.Fits.{are_fits}
use Rattle.eir_hom.specs.Tables.{LaidTable, LaidView, Table, laid_at, rows_in, table_at, with_rows}
use Rattle.eir_hom.specs.Stocks.{shape_table, IsShape, AreShapes, may_be_at, key_count, cells_for, cells_needed, ranges_needed, cells_of, AreFilled, IsFilled, AreTables, IsStocked}
use Rattle.eir_hom.proofs.TableLaws.{length-rows}
use Rattle.eir_hom.proofs.StockLaws.{AreShapes-at, key-rows-are, key_count-is, shape-rows, stride-is, table-rows-le}

-- ---- keys

-- how many rows are laid under a key
abbrev laid_count : Option (List (List ℕ)) → ℕ
laid_count rows = length (unwrap_or rows [])

filled-none : (xs : List (List (List ℕ))) (n : ℕ) → n ≡ length xs → AreFilled (replicate n None) xs
filled-none [] zero e = tt
filled-none [] (suc n) e = absurd (omega arith)
filled-none (x ∷ xs) zero e = absurd (omega arith)
filled-none (x ∷ xs) (suc n) e = filled-none xs n (omega arith)

filled-count : (ks : List (Option (List (List ℕ)))) (xs : List (List (List ℕ))) → AreFilled ks xs → length ks ≡ length xs
filled-count [] [] all = refl
filled-count [] (x ∷ xs) all = absurd all
filled-count (k ∷ ks) [] all = absurd all
filled-count (None ∷ ks) (x ∷ xs) all = ap suc (filled-count ks xs all)
filled-count (Some y ∷ ks) (x ∷ xs) all = ap suc (filled-count ks xs all.1)

-- rows that are laid are those of the key
filled-at : (ks : List (Option (List (List ℕ)))) (xs : List (List (List ℕ))) (k : ℕ) (rows : List (List ℕ)) → AreFilled ks xs → Some rows ≡ get_or ks k (Some []) → rows ≡ get_or xs k []
filled-at [] [] k rows all e = cc
filled-at [] (x ∷ xs) k rows all e = absurd all
filled-at (o ∷ ks) [] k rows all e = absurd all
filled-at (None ∷ ks) (x ∷ xs) zero rows all e = absurd (cc)
filled-at (Some y ∷ ks) (x ∷ xs) zero rows all e = let same : rows ≡ y = cc in same ∙ all.0
filled-at (None ∷ ks) (x ∷ xs) (suc k) rows all e = filled-at ks xs k rows all e
filled-at (Some y ∷ ks) (x ∷ xs) (suc k) rows all e = filled-at ks xs k rows all.1 e

-- a key that is not laid is there
none-there : (ks : List (Option (List (List ℕ)))) (k : ℕ) → get_or ks k (Some []) ≡ None → k < length ks
none-there [] k e = absurd (cc)
none-there (o ∷ ks) zero e = omega arith
none-there (o ∷ ks) (suc k) e = let h = none-there ks k e in omega arith

-- with its rows laid
filled-set : (ks : List (Option (List (List ℕ)))) (xs : List (List (List ℕ))) (k : ℕ) (rows : List (List ℕ)) → AreFilled ks xs → k < length xs → rows ≡ get_or xs k [] → AreFilled (set ks k (Some rows)) xs
filled-set [] [] k rows all h e = absurd (omega arith)
filled-set [] (x ∷ xs) k rows all h e = absurd all
filled-set (o ∷ ks) [] k rows all h e = absurd all
filled-set (None ∷ ks) (x ∷ xs) zero rows all h e = (e, all)
filled-set (Some y ∷ ks) (x ∷ xs) zero rows all h e = (e, all.1)
filled-set (None ∷ ks) (x ∷ xs) (suc k) rows all h e = filled-set ks xs k rows all (omega arith) e
filled-set (Some y ∷ ks) (x ∷ xs) (suc k) rows all h e = (all.0, filled-set ks xs k rows all.1 (omega arith) e)

-- rows that are laid are no more than all
filled-le : (ks : List (Option (List (List ℕ)))) (xs : List (List (List ℕ))) → AreFilled ks xs → sum_by laid_count ks ≤ sum_by length xs
filled-le [] [] all = omega arith
filled-le [] (x ∷ xs) all = absurd all
filled-le (k ∷ ks) [] all = absurd all
filled-le (None ∷ ks) (x ∷ xs) all =
    omega (arith, sum_by-cons laid_count None ks, sum_by-cons length x xs, filled-le ks xs all)
filled-le (Some y ∷ ks) (x ∷ xs) all =
    omega (arith, sum_by-cons laid_count (Some y) ks, sum_by-cons length x xs, filled-le ks xs all.1, ap length all.0)

-- ---- tables

-- the cells of a table with the rows of one key more
cells-more : (t : LaidTable) (k : ℕ) (rows : List (List ℕ)) → get_or t.rows k (Some []) ≡ None → cells_of (with_rows t k rows) ≡ cells_of t + length rows * t.stride
cells-more t k rows none =
    let before : laid_count (get_or t.rows k (Some [])) ≡ 0 = ap laid_count none in
    let one = sum_by-set laid_count t.rows k (Some rows) (Some []) (none-there t.rows k none) in
    let sum : sum_by laid_count (set t.rows k (Some rows)) ≡ sum_by laid_count t.rows + length rows = omega (arith, one, before) in
    let apart : (sum_by laid_count t.rows + length rows) * t.stride ≡ sum_by laid_count t.rows * t.stride + length rows * t.stride = grind arith in
    ap (λ n. n * t.stride) sum ∙ apart

module _ (A B : List Fact) where
  tables-count : (ls : List LaidTable) (ss : List Shape) → AreTables A B ls ss → length ls ≤ length ss
  tables-count [] ss all = omega arith
  tables-count (l ∷ ls) [] all = absurd all
  tables-count (l ∷ ls) (s ∷ ss) all = omega (arith, tables-count ls ss all.1)

  tables-at : (ls : List LaidTable) (ss : List Shape) (t : ℕ) (d : LaidTable) (e : Shape) → AreTables A B ls ss → t < length ls → IsFilled (shape_table A B (get_or ss t e)) (get_or ls t d)
  tables-at [] ss t d e all h = absurd (omega arith)
  tables-at (l ∷ ls) [] t d e all h = absurd all
  tables-at (l ∷ ls) (s ∷ ss) zero d e all h = all.0
  tables-at (l ∷ ls) (s ∷ ss) (suc t) d e all h = tables-at ls ss t d e all.1 (omega arith)

  tables-set : (ls : List LaidTable) (ss : List Shape) (t : ℕ) (e : Shape) (x : LaidTable) → AreTables A B ls ss → t < length ls → IsFilled (shape_table A B (get_or ss t e)) x → AreTables A B (set ls t x) ss
  tables-set [] ss t e x all h one = absurd (omega arith)
  tables-set (l ∷ ls) [] t e x all h one = absurd all
  tables-set (l ∷ ls) (s ∷ ss) zero e x all h one = (one, all.1)
  tables-set (l ∷ ls) (s ∷ ss) (suc t) e x all h one = (all.0, tables-set ls ss t e x all.1 (omega arith) one)

  tables-push : (ls : List LaidTable) (ss : List Shape) (e : Shape) (x : LaidTable) → AreTables A B ls ss → length ls < length ss → IsFilled (shape_table A B (get_or ss (length ls) e)) x → AreTables A B (ls ++ x ∷ []) ss
  tables-push [] [] e x all h one = absurd (omega arith)
  tables-push [] (s ∷ ss) e x all h one = (one, tt)
  tables-push (l ∷ ls) [] e x all h one = absurd all
  tables-push (l ∷ ls) (s ∷ ss) e x all h one = (all.0, tables-push ls ss e x all.1 (omega arith) one)

  -- a table takes no more cells than there are for its shape
  cells-le : (s : Shape) (l : LaidTable) → IsShape A s → IsFilled (shape_table A B s) l → cells_of l ≤ cells_for A B s
  cells-le s l shape filled =
      let few : sum_by laid_count l.rows ≤ length B =
      omega (arith, filled-le l.rows (shape_table A B s).rows filled.1, table-rows-le A B s shape) in
      let less : sum_by laid_count l.rows * l.stride ≤ length B * l.stride = mul-le-mul_right l.stride few in
      let same : length B * l.stride ≡ cells_for A B s = ap (λ n. length B * n) (filled.0 ∙ stride-is A B s shape) in
      omega arith

  tables-le : (ls : List LaidTable) (ss : List Shape) → AreTables A B ls ss → AreShapes A ss → sum_by cells_of ls ≤ cells_needed A B ss
  tables-le [] ss all shapes = omega arith
  tables-le (l ∷ ls) [] all shapes = absurd all
  tables-le (l ∷ ls) (s ∷ ss) all shapes =
      omega (arith, sum_by-cons cells_of l ls, sum_by-cons (cells_for A B) s ss, cells-le s l shapes.0 all.0, tables-le ls ss all.1 shapes.1)

-- what stands past the last shape
abbrev no_shape : Shape
no_shape = record { place = 0; column = None }

-- what stands past the last table
abbrev no_laid : LaidTable
no_laid = record { stride = 0; rows = [] }

get_or-any : {X : Type 0} (xs : List X) (i : ℕ) (d e : X) → i < length xs → get_or xs i d ≡ get_or xs i e
get_or-any [] i d e h = absurd (omega arith)
get_or-any (x ∷ xs) zero d e h = refl
get_or-any (x ∷ xs) (suc i) d e h = get_or-any xs i d e (omega arith)

-- ---- a stock

module _ (A B : List Fact) (ss : List Shape) (laid : LaidView) (so : IsStocked A B ss laid) where
  pub tables_le : length laid.tables ≤ length ss
  tables_le = tables-count A B laid.tables ss so.tables

  -- one table more
  module _ (s : Shape) (h : length laid.tables < length ss) (at : s ≡ get_or ss (length laid.tables) s) where
    here : s ≡ get_or ss (length laid.tables) no_shape
    here = at ∙ get_or-any ss (length laid.tables) s no_shape h

    ranges_left : ranges_needed B (drop (length laid.tables) ss) ≡ key_count B s.column + ranges_needed B (drop (length laid.tables + 1) ss)
    ranges_left = sum_by-drop_more (λ r. key_count B r.column) ss (length laid.tables) no_shape h ∙ ap (λ (r : Shape). key_count B r.column + ranges_needed B (drop (length laid.tables + 1) ss)) (sym here)

    pub next-shape : IsShape A s
    next-shape = subst (IsShape A) (sym here) (AreShapes-at A ss (length laid.tables) no_shape h so.shapes)

    pub room-ranges : laid.ranges + key_count B s.column ≤ laid.ranges_room
    room-ranges = omega (arith, so.ranges_room, ranges_left)

    pub room-tables : length laid.tables < laid.tables_room
    room-tables = omega (arith, so.tables_room)

    pub stocked-added : (new : LaidView) (stride keys : ℕ) → stride ≡ length (but_at s.column (numbers_at A s.place)) → keys ≡ key_count B s.column → new.tables ≡ laid.tables ++ record { stride = stride; rows = replicate keys None } ∷ [] → new.cells ≡ laid.cells →
        new.ranges ≡ laid.ranges + keys → laid.cells_room ≤ new.cells_room → laid.ranges_room ≤ new.ranges_room → laid.tables_room ≤ new.tables_room → IsStocked A B ss new
    stocked-added new stride keys st ks t c r cr rr tr =
        let x : LaidTable = record { stride = stride; rows = replicate keys None } in
        let long : length new.tables ≡ length laid.tables + 1 = ap length t ∙ length_push laid.tables x in
        let filled : IsFilled (shape_table A B s) x =
        (st ∙ sym (stride-is A B s next-shape), filled-none (shape_table A B s).rows keys (ks ∙ sym (key_count-is A B s next-shape))) in
        let none : sum_by laid_count (replicate keys None) ≡ 0 =
        sum_by-replicate laid_count keys (let o : Option (List (List ℕ)) = None in o) ∙ (grind arith) in
        let empty : cells_of x ≡ 0 = ap (λ n. n * stride) none ∙ (omega arith) in
        record {
          shapes = so.shapes;
          tables = subst (λ ts. AreTables A B ts ss) (sym t) (tables-push A B laid.tables ss no_shape x so.tables h (subst (λ (r : Shape). IsFilled (shape_table A B r) x) here filled));
          cells = omega (arith, ap length c, so.cells, ap (sum_by cells_of) t, sum_by-append cells_of laid.tables (x ∷ []), sum_by-cons cells_of x [], empty);
          cells_room = omega (arith, so.cells_room);
          ranges_room = rw long (omega (arith, so.ranges_room, ranges_left));
          tables_room = omega (arith, so.tables_room);
        }

  -- a table that is there
  module _ (t : ℕ) (h : t < length laid.tables) where
    abbrev table : LaidTable
    table = laid_at laid.tables t

    in_shapes : t < length ss
    in_shapes = omega (arith, tables_le)

    its_table : table_at (map (shape_table A B) ss) t ≡ shape_table A B (get_or ss t no_shape)
    its_table = get_or-map (shape_table A B) ss t no_shape (record { stride = 0; rows = [] }) in_shapes

    filled : IsFilled (shape_table A B (get_or ss t no_shape)) table
    filled = tables-at A B laid.tables ss t no_laid no_shape so.tables h

    -- it has rows of the length of those of its shape
    pub its_stride : table.stride ≡ (table_at (map (shape_table A B) ss) t).stride
    its_stride = filled.0 ∙ sym (ap (λ (x : Table). x.stride) its_table)

    -- rows that are laid are those that are asked for
    pub its_rows : (key : ℕ) (rows : List (List ℕ)) → Some rows ≡ get_or table.rows key (Some []) → rows ≡ get_or (table_at (map (shape_table A B) ss) t).rows key []
    its_rows key rows e =
        filled-at table.rows (shape_table A B (get_or ss t no_shape)).rows key rows filled.1 e ∙ sym (ap (λ (x : Table). get_or x.rows key []) its_table)

    -- a range with these rows is the one that is asked for
    pub asked : (tables : List Table) (cells : List ℕ) (key : ℕ) (r : Range) (rows : List (List ℕ)) → map (shape_table A B) ss ≡ tables → rows_in cells table.stride r ≡ rows → rows ≡ get_or (table_at (map (shape_table A B) ss) t).rows key [] →
        r.first + r.count * table.stride ≤ length cells →
        (rows_in cells (table_at tables t).stride r ≡ get_or (table_at tables t).rows key []) × (r.first + r.count * (table_at tables t).stride ≤ length cells)
    asked tables cells key r rows seen e f within =
        subst (λ ts. (rows_in cells (table_at ts t).stride r ≡ get_or (table_at ts t).rows key []) × (r.first + r.count * (table_at ts t).stride ≤ length cells)) seen (
          ap (λ n. rows_in cells n r) (sym its_stride) ∙ e ∙ f,
          subst (λ n. r.first + r.count * n ≤ length cells) its_stride within,
        )

    -- a key that is not laid
    module _ (s : Shape) (at : Some s ≡ slice_get ss t) (key : ℕ) (none : get_or table.rows key (Some []) ≡ None) (ps : List ℕ) (p : ps ≡ may_be_at A B (are_fits A B) s key) where
      is_it : s ≡ get_or ss t no_shape
      is_it = sym (get_or_from_slice_get ss t s no_shape (sym at))

      pub is_shape : IsShape A s
      is_shape = subst (IsShape A) (sym is_it) (AreShapes-at A ss t no_shape in_shapes so.shapes)

      it_filled : IsFilled (shape_table A B s) table
      it_filled = subst (λ (r : Shape). IsFilled (shape_table A B r) table) (sym is_it) filled

      pub key-there : key < length table.rows
      key-there = none-there table.rows key none

      key_in : key < length (shape_table A B s).rows
      key_in = omega (arith, key-there, filled-count table.rows (shape_table A B s).rows it_filled.1)

      pub rows-there : HaveRows B s.column table.stride ps
      rows-there = rw (p, it_filled.0) (shape-rows A B s key is_shape)

      rows-are : map (row_at B s.column) ps ≡ get_or (shape_table A B s).rows key []
      rows-are = ap (map (row_at B s.column)) p ∙ key-rows-are A B s key is_shape key_in

      -- its rows are those that are asked for
      pub answer : map (row_at B s.column) ps ≡ get_or (table_at (map (shape_table A B) ss) t).rows key []
      answer =
          rows-are ∙ ap (λ (r : Shape). get_or (shape_table A B r).rows key []) is_it ∙ sym (ap (λ (x : Table). get_or x.rows key []) its_table)

      abbrev with_key : List LaidTable
      with_key = set laid.tables t (with_rows table key (map (row_at B s.column) ps))

      with_key-tables : AreTables A B with_key ss
      with_key-tables =
          tables-set A B laid.tables ss t no_shape (with_rows table key (map (row_at B s.column) ps)) so.tables h (subst (λ (r : Shape). IsFilled (shape_table A B r) (with_rows table key (map (row_at B s.column) ps))) is_it (it_filled.0, filled-set table.rows (shape_table A B s).rows key (map (row_at B s.column) ps) it_filled.1 key_in rows-are))

      with_key-cells : sum_by cells_of with_key ≡ length laid.cells + length ps * table.stride
      with_key-cells =
          let x = with_rows table key (map (row_at B s.column) ps) in
          let more : cells_of x ≡ cells_of table + length ps * table.stride =
          cells-more table key (map (row_at B s.column) ps) none ∙ ap (λ n. cells_of table + n * table.stride) (length-map ps (row_at B s.column)) in
          let all : sum_by cells_of with_key + cells_of table ≡ sum_by cells_of laid.tables + cells_of x = sum_by-set cells_of laid.tables t x no_laid h in
          omega (arith, more, all, so.cells)

      -- there is room for them
      pub room-cells : length laid.cells + length ps * table.stride ≤ laid.cells_room
      room-cells = omega (arith, with_key-cells, tables-le A B with_key ss with_key-tables so.shapes, so.cells_room)

      -- and then they are laid
      pub stocked-laid : (new : LaidView) → new.tables ≡ with_key → new.cells ≡ laid.cells ++ flat_map (row_at B s.column) ps → new.ranges ≡ laid.ranges →
          laid.cells_room ≤ new.cells_room → laid.ranges_room ≤ new.ranges_room → laid.tables_room ≤ new.tables_room → IsStocked A B ss new
      stocked-laid new ts c r cr rr tr =
          let long : length new.tables ≡ length laid.tables = ap length ts ∙ length-set laid.tables t (with_rows table key (map (row_at B s.column) ps)) in
          let cells : length new.cells ≡ length laid.cells + length ps * table.stride =
          ap length c ∙ length-append laid.cells (flat_map (row_at B s.column) ps) ∙ ap (λ n. length laid.cells + n) (length-rows (row_at B s.column) table.stride ps (λ q m. (rows-there q m).1)) in
          record {
            shapes = so.shapes;
            tables = subst (λ xs. AreTables A B xs ss) (sym ts) with_key-tables;
            cells = cells ∙ sym with_key-cells ∙ sym (ap (sum_by cells_of) ts);
            cells_room = omega (arith, so.cells_room);
            ranges_room = rw long (omega (arith, so.ranges_room));
            tables_room = omega (arith, so.tables_room);
          }

-- a stock of which nothing is laid
pub nothing-laid : (A B : List Fact) (ss : List Shape) (laid : LaidView) (cells ranges tables : ℕ) → AreShapes A ss →
    laid ≡ record { cells = []; tables = []; ranges = 0; cells_room = cells; ranges_room = ranges; tables_room = tables } →
    cells_needed A B ss ≤ cells → ranges_needed B ss ≤ ranges → length ss ≤ tables → IsStocked A B ss laid
nothing-laid A B ss laid cells ranges tables s e c r t = rw e (record {
  shapes = s;
  tables = tt;
  cells = refl;
  cells_room = c;
  ranges_room = omega (arith, r);
  tables_room = t;
})
