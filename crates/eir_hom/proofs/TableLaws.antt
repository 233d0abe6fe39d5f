-- Where the rows of a table stand.
use Rattle.std.proofs.Common.{◌≡◌, ◌≤◌, ◌<◌, ◌⊎◌, ℕ, ◌+◌, ◌-◌, ◌*◌, List, [], ◌∷◌, ◌++◌, map, take, drop, set, replicate, length, get_or, refl, sym, ap, ap₂, ◌∙◌, subst, zero, suc, inl, inr, append_assoc, length-append, append-nil, Option, Some, None, IfSome, option_map, slice_get, unwrap_or, arith}
use Rattle.std.proofs.lemmas.List.{get_or-map, get_or-take, get_or-drop, get_or_past, drop-drop, take-append-le, drop-append-le, take-append-drop, take_all, take_more, map-append, map-set, drop-set-lt, drop-set-add, take-set-le, length-set, length-replicate}
use Rattle.std.proofs.lemmas.Grind.{flat_map-append}
use Rattle.std.proofs.Math.Seq.{take-append_seam, drop-append_seam, take-set-lt}
use Rattle.std.specs.List.{range_with_len, flat_map}
use Rattle.eir_term.specs.Lists.{◌∈◌}
use Rattle.std.proofs.Math.ListN.{length-map, length-take, length-drop}
use Rattle.eir_term.specs.declared.fact.Fact.{Fact}
use Rattle.eir_term.specs.Instances.{values}
use Rattle.eir_inst.specs.Numbers.{numbers_of}
use Rattle.eir_hom.specs.declared.tables.Range.{Range}
use Rattle.eir_hom.specs.declared.tables.Layout.{Layout}
use Rattle.eir_hom.specs.FactRows.{numbers_at}
use Rattle.eir_hom.specs.Tables.{LaidTable, LaidView, laid_at, rows_in, with_rows}
use Rattle.eir_hom.specs.Layouts.{ranges_of, table_of, AreWithin, IsLaid, AreLaid}

-- what holds of each layout holds of the one at a place
AreLaid-at : (cells : List ℕ) (ranges : List (Option Range)) (n : ℕ) (ls : List Layout) (t : ℕ) (d : Layout) → t < length ls → AreLaid cells ranges n ls → (n ≤ (get_or ls t d).first) × IsLaid cells ranges (get_or ls t d)
AreLaid-at cells ranges n [] t d below laid = absurd (omega arith)
AreLaid-at cells ranges n (l ∷ ls) zero d below laid = (laid.0, laid.1)
AreLaid-at cells ranges n (l ∷ ls) (suc t) d below laid =
    let later = AreLaid-at cells ranges (l.first + l.keys) ls t d (omega arith) laid.2 in
    (omega (arith, later.0, laid.0), later.1)

-- what holds of each range holds of the one at a place
AreWithin-at : (cells : List ℕ) (stride : ℕ) (rs : List (Option Range)) (k : ℕ) (d : Option Range) → k < length rs → AreWithin cells stride rs → IfSome (get_or rs k d) (λ r. r.first + r.count * stride ≤ length cells)
AreWithin-at cells stride [] k d below within = absurd (omega arith)
AreWithin-at cells stride (None ∷ rs) zero d below within = tt
AreWithin-at cells stride (Some r ∷ rs) zero d below within = within.0
AreWithin-at cells stride (None ∷ rs) (suc k) d below within = AreWithin-at cells stride rs k d (omega arith) within
AreWithin-at cells stride (Some r ∷ rs) (suc k) d below within = AreWithin-at cells stride rs k d (omega arith) within.1

-- the ranges of a layout that are there are as many as its keys
length-ranges_of : (ranges : List (Option Range)) (l : Layout) → l.first + l.keys ≤ length ranges → length (ranges_of ranges l) ≡ l.keys
length-ranges_of ranges l fits = omega (arith, length-take l.keys (drop l.first ranges), length-drop l.first ranges)

-- the range of a key
range-at : (ranges : List (Option Range)) (l : Layout) (k : ℕ) (d : Option Range) → k < l.keys → get_or (ranges_of ranges l) k d ≡ get_or ranges (l.first + k) d
range-at ranges l k d below = get_or-take l.keys (drop l.first ranges) k d below ∙ get_or-drop l.first ranges k d

module _ (cells : List ℕ) (ranges : List (Option Range)) (layouts : List Layout) (v : LaidView) (seen_cells : cells ≡ v.cells) (seen : map (table_of cells ranges) layouts ≡ v.tables) (laid : AreLaid cells ranges 0 layouts) (t : ℕ) (l : Layout) (below : t < length v.tables) (at : l ≡ get_or layouts t l) where
  pub below_layouts : t < length layouts
  below_layouts =
      let e : length (map (table_of cells ranges) layouts) ≡ length v.tables = ap length seen in
      omega (arith, length-map layouts (table_of cells ranges))

  -- the table is the one that the layout places
  pub table-is : laid_at v.tables t ≡ table_of cells ranges l
  table-is =
      let d : LaidTable = record { stride = 0; rows = [] } in
      ap (λ x. get_or x t d) (sym seen) ∙ get_or-map (table_of cells ranges) layouts t l d below_layouts ∙ ap (table_of cells ranges) (sym at)

  is_laid : IsLaid cells ranges l
  is_laid = subst (IsLaid cells ranges) (sym at) (AreLaid-at cells ranges 0 layouts t l below_layouts laid).1

  -- the ranges of its keys are there
  pub fits : l.first + l.keys ≤ length ranges
  fits = is_laid.0

  -- it has as many keys
  pub keys-are : length (laid_at v.tables t).rows ≡ l.keys
  keys-are =
      ap (λ (x : LaidTable). length x.rows) table-is ∙ length-map (ranges_of ranges l) (option_map (rows_in cells l.stride)) ∙ length-ranges_of ranges l fits

  pub stride-is : (laid_at v.tables t).stride ≡ l.stride
  stride-is = ap (λ (x : LaidTable). x.stride) table-is

  module _ (k : ℕ) (r : Option Range) (key : k < l.keys) (found : r ≡ get_or ranges (l.first + k) r) where
    in_table : k < length (ranges_of ranges l)
    in_table = omega (arith, length-ranges_of ranges l fits)

    is_range : r ≡ get_or (ranges_of ranges l) k r
    is_range = found ∙ sym (range-at ranges l k r key)

    -- the rows of a key
    pub rows-at : option_map (rows_in v.cells (laid_at v.tables t).stride) r ≡ get_or (laid_at v.tables t).rows k (Some [])
    rows-at =
        rw (table-is, ← seen_cells, get_or-map (option_map (rows_in cells l.stride)) (ranges_of ranges l) k r (Some []) in_table) (ap (option_map (rows_in cells l.stride)) is_range)

    -- they are within the cells
    pub within-at : IfSome r (λ r. r.first + r.count * (laid_at v.tables t).stride ≤ length v.cells)
    within-at =
        rw (table-is, ← seen_cells) (subst (λ x. IfSome x (λ r. r.first + r.count * l.stride ≤ length cells)) (sym is_range) (AreWithin-at cells l.stride (ranges_of ranges l) k r in_table is_laid.1))

  -- a key that the table has not has no row
  pub rows-past : (k : ℕ) → l.keys ≤ k → get_or (laid_at v.tables t).rows k (Some []) ≡ Some []
  rows-past k past = get_or_past (laid_at v.tables t).rows k (Some []) (omega (arith, keys-are))

-- n rows cut off the front of cells
cut : ℕ → ℕ → List ℕ → List (List ℕ)
cut stride zero xs = []
cut stride (suc n) xs = take stride xs ∷ cut stride n (drop stride xs)

-- the rows of a range are cut off behind its first cell
cut-from : (cells : List ℕ) (stride first a n : ℕ) → map (λ c. take stride (drop (first + c * stride) cells)) (range_with_len a n) ≡ cut stride n (drop (first + a * stride) cells)
unfolding cut
cut-from cells stride first a zero = refl
cut-from cells stride first a (suc n) =
    let s : first + (a + 1) * stride ≡ first + a * stride + stride = grind arith in
    ap (λ xs. take stride (drop (first + a * stride) cells) ∷ xs) (cut-from cells stride first (a + 1) n ∙ ap (cut stride n) (ap (λ k. drop k cells) s ∙ sym (drop-drop stride (first + a * stride) cells)))

rows_in-cut : (cells : List ℕ) (stride : ℕ) (r : Range) → rows_in cells stride r ≡ cut stride r.count (drop r.first cells)
rows_in-cut cells stride r = cut-from cells stride r.first 0 r.count ∙ ap (λ k. cut stride r.count (drop k cells)) (omega arith)

-- cells behind do not matter
cut-append : (stride n : ℕ) (xs ys : List ℕ) → n * stride ≤ length xs → cut stride n (xs ++ ys) ≡ cut stride n xs
unfolding cut
cut-append stride zero xs ys h = refl
cut-append stride (suc n) xs ys h =
    let e : suc n * stride ≡ stride + n * stride = grind arith in
    ap₂ (λ r rs. r ∷ rs) (take-append-le stride xs ys (omega arith)) (ap (cut stride n) (drop-append-le stride xs ys (omega arith)) ∙ cut-append stride n (drop stride xs) ys (omega (arith, length-drop stride xs)))

-- rows of one length that lie one behind the other are cut apart
cut-rows : (row : ℕ → List ℕ) (stride : ℕ) (ps rest : List ℕ) → ((p : ℕ) → p ∈ ps → length (row p) ≡ stride) → cut stride (length ps) (flat_map row ps ++ rest) ≡ map row ps
unfolding cut
cut-rows row stride [] rest all = refl
cut-rows row stride (p ∷ ps) rest all =
    let e = append_assoc (row p) (flat_map row ps) rest in
    let s = all p (inl refl) in
    ap₂ (λ r rs. r ∷ rs) (ap (take stride) e ∙ ap (λ n. take n (row p ++ (flat_map row ps ++ rest))) (sym s) ∙ take-append_seam (row p) (flat_map row ps ++ rest)) (ap (λ xs. cut stride (length ps) (drop stride xs)) e ∙ ap (λ n. cut stride (length ps) (drop n (row p ++ (flat_map row ps ++ rest)))) (sym s) ∙ ap (cut stride (length ps)) (drop-append_seam (row p) (flat_map row ps ++ rest)) ∙ cut-rows row stride ps rest (λ q h. all q (inr h)))

pub length-rows : (row : ℕ → List ℕ) (stride : ℕ) (ps : List ℕ) → ((p : ℕ) → p ∈ ps → length (row p) ≡ stride) → length (flat_map row ps) ≡ length ps * stride
length-rows row stride [] all = omega arith
length-rows row stride (p ∷ ps) all =
    let r = length-rows row stride ps (λ q h. all q (inr h)) in
    let s = all p (inl refl) in
    let e : suc (length ps) * stride ≡ stride + length ps * stride = grind arith in
    omega (arith, length-append (row p) (flat_map row ps))

-- rows that are laid behind the cells
rows-behind : (row : ℕ → List ℕ) (stride : ℕ) (cells ps : List ℕ) → ((p : ℕ) → p ∈ ps → length (row p) ≡ stride) → rows_in (cells ++ flat_map row ps) stride (record { first = length cells; count = length ps }) ≡ map row ps
rows-behind row stride cells ps all =
    rows_in-cut (cells ++ flat_map row ps) stride (record { first = length cells; count = length ps }) ∙ ap (cut stride (length ps)) (drop-append_seam cells (flat_map row ps) ∙ sym (append-nil (flat_map row ps))) ∙ cut-rows row stride ps [] all

pub rows_in-append : (cells more : List ℕ) (stride : ℕ) (r : Range) → r.first + r.count * stride ≤ length cells → rows_in (cells ++ more) stride r ≡ rows_in cells stride r
rows_in-append cells more stride r h =
    rows_in-cut (cells ++ more) stride r ∙ ap (cut stride r.count) (drop-append-le r.first cells more (omega arith)) ∙ cut-append stride r.count (drop r.first cells) more (omega (arith, length-drop r.first cells)) ∙ sym (rows_in-cut cells stride r)

-- ---- cells behind

all_rows-append : (cells more : List ℕ) (stride : ℕ) (rs : List (Option Range)) → AreWithin cells stride rs → map (option_map (rows_in (cells ++ more) stride)) rs ≡ map (option_map (rows_in cells stride)) rs
all_rows-append cells more stride [] w = refl
all_rows-append cells more stride (None ∷ rs) w = ap (λ xs. None ∷ xs) (all_rows-append cells more stride rs w)
all_rows-append cells more stride (Some r ∷ rs) w =
    ap₂ (λ x xs. Some x ∷ xs) (rows_in-append cells more stride r w.0) (all_rows-append cells more stride rs w.1)

AreWithin-append : (cells more : List ℕ) (stride : ℕ) (rs : List (Option Range)) → AreWithin cells stride rs → AreWithin (cells ++ more) stride rs
AreWithin-append cells more stride [] w = tt
AreWithin-append cells more stride (None ∷ rs) w = AreWithin-append cells more stride rs w
AreWithin-append cells more stride (Some r ∷ rs) w = (omega (arith, length-append cells more, w.0), AreWithin-append cells more stride rs w.1)

-- they change no table
tables-append : (cells more : List ℕ) (ranges : List (Option Range)) (n : ℕ) (ls : List Layout) → AreLaid cells ranges n ls → map (table_of (cells ++ more) ranges) ls ≡ map (table_of cells ranges) ls
tables-append cells more ranges n [] laid = refl
tables-append cells more ranges n (l ∷ ls) laid =
    ap₂ (λ rows ts. (let x : LaidTable = record { stride = l.stride; rows = rows } in x) ∷ ts) (all_rows-append cells more l.stride (ranges_of ranges l) laid.1.1) (tables-append cells more ranges (l.first + l.keys) ls laid.2)

AreLaid-append : (cells more : List ℕ) (ranges : List (Option Range)) (n : ℕ) (ls : List Layout) → AreLaid cells ranges n ls → AreLaid (cells ++ more) ranges n ls
AreLaid-append cells more ranges n [] laid = tt
AreLaid-append cells more ranges n (l ∷ ls) laid =
    (laid.0, (laid.1.0, AreWithin-append cells more l.stride (ranges_of ranges l) laid.1.1), AreLaid-append cells more ranges (l.first + l.keys) ls laid.2)

-- ---- one table more

ranges_of-append : (xs ys : List (Option Range)) (l : Layout) → l.first + l.keys ≤ length xs → ranges_of (xs ++ ys) l ≡ ranges_of xs l
ranges_of-append xs ys l h =
    ap (take l.keys) (drop-append-le l.first xs ys (omega arith)) ∙ take-append-le l.keys (drop l.first xs) ys (omega (arith, length-drop l.first xs))

-- ranges behind change no table
tables-behind : (cells : List ℕ) (ranges new : List (Option Range)) (n : ℕ) (ls : List Layout) → AreLaid cells ranges n ls → map (table_of cells (ranges ++ new)) ls ≡ map (table_of cells ranges) ls
tables-behind cells ranges new n [] laid = refl
tables-behind cells ranges new n (l ∷ ls) laid =
    ap₂ (λ rs ts. (let x : LaidTable = record { stride = l.stride; rows = map (option_map (rows_in cells l.stride)) rs } in x) ∷ ts) (ranges_of-append ranges new l laid.1.0) (tables-behind cells ranges new (l.first + l.keys) ls laid.2)

-- ranges that are not laid
none-laid : (cells : List ℕ) (stride n : ℕ) → map (option_map (rows_in cells stride)) (replicate n None) ≡ replicate n None
none-laid cells stride zero = refl
none-laid cells stride (suc n) = ap (λ xs. None ∷ xs) (none-laid cells stride n)

none-within : (cells : List ℕ) (stride n : ℕ) → AreWithin cells stride (replicate n None)
none-within cells stride zero = tt
none-within cells stride (suc n) = none-within cells stride n

module _ (cells : List ℕ) (ranges : List (Option Range)) (stride keys : ℕ) where
  -- the layout of one table more
  abbrev next : Layout
  next = record { first = length ranges; keys = keys; stride = stride }

  its_ranges : ranges_of (ranges ++ replicate keys None) next ≡ replicate keys None
  its_ranges =
      ap (take keys) (drop-append_seam ranges (replicate keys None)) ∙ take_all keys (replicate keys None) (omega (arith, length-replicate keys (let o : Option Range = None in o)))

  next-laid : IsLaid cells (ranges ++ replicate keys None) next
  next-laid =
      (omega (arith, length-append ranges (replicate keys None), length-replicate keys (let o : Option Range = None in o)), subst (AreWithin cells stride) (sym its_ranges) (none-within cells stride keys))

  pub laid-more : (n : ℕ) (ls : List Layout) → n ≤ length ranges → AreLaid cells ranges n ls → AreLaid cells (ranges ++ replicate keys None) n (ls ++ next ∷ [])
  laid-more n [] h laid = (h, next-laid, tt)
  laid-more n (l ∷ ls) h laid =
      let new = replicate keys None in
      (laid.0, (omega (arith, length-append ranges new, laid.1.0), subst (AreWithin cells l.stride) (sym (ranges_of-append ranges new l laid.1.0)) laid.1.1), laid-more (l.first + l.keys) ls laid.1.0 laid.2)

  pub tables-more : (n : ℕ) (ls : List Layout) → AreLaid cells ranges n ls → map (table_of cells (ranges ++ replicate keys None)) (ls ++ next ∷ []) ≡ map (table_of cells ranges) ls ++ record { stride = stride; rows = replicate keys None } ∷ []
  tables-more n ls laid =
      let new : List (Option Range) = replicate keys None in
      map-append (table_of cells (ranges ++ new)) ls (next ∷ []) ∙ ap₂ (λ ts rows. ts ++ (let x : LaidTable = record { stride = stride; rows = rows } in x) ∷ []) (tables-behind cells ranges new n ls laid) (ap (map (option_map (rows_in cells stride))) its_ranges ∙ none-laid cells stride keys)

-- ranges that are made longer
pub resized : (n len keys : ℕ) (ranges : List (Option Range)) → len ≡ length ranges → n ≡ len + keys → take n ranges ++ replicate (n - len) None ≡ ranges ++ replicate keys None
resized n len keys ranges l e =
    let m : n - len ≡ keys = omega arith in
    ap₂ (λ xs k. xs ++ replicate k None) (take_all n ranges (omega arith)) m

-- the tables after one more is added
module _ (cells : List ℕ) (ranges : List (Option Range)) (layouts : List Layout) (laid : AreLaid cells ranges 0 layouts) (first keys stride : ℕ) (ranges' : List (Option Range)) (layouts' : List Layout) (f : first ≡ length ranges) (r : ranges' ≡ ranges ++ replicate keys None) (l : layouts' ≡ layouts ++ record { first = first; keys = keys; stride = stride } ∷ []) where
  layouts-are : layouts' ≡ layouts ++ next cells ranges stride keys ∷ []
  layouts-are = l ∙ ap (λ n. layouts ++ (let x : Layout = record { first = n; keys = keys; stride = stride } in x) ∷ []) f

  pub added-laid : AreLaid cells ranges' 0 layouts'
  added-laid = rw (r, layouts-are) (laid-more cells ranges stride keys 0 layouts (omega arith) laid)

  pub added-view : (tables : List LaidTable) → map (table_of cells ranges) layouts ≡ tables → map (table_of cells ranges') layouts' ≡ tables ++ record { stride = stride; rows = replicate keys None } ∷ []
  added-view tables seen =
      let x : LaidTable = record { stride = stride; rows = replicate keys None } in
      rw (r, layouts-are) (tables-more cells ranges stride keys 0 layouts laid ∙ ap (λ ts. ts ++ x ∷ []) seen)

-- ---- one key more

-- a range outside those of a layout
set-outside : (ranges : List (Option Range)) (l : Layout) (x : ℕ) (r : Option Range) → (x < l.first) ⊎ (l.first + l.keys ≤ x) → ranges_of (set ranges x r) l ≡ ranges_of ranges l
set-outside ranges l x r (inl h) = ap (take l.keys) (drop-set-lt l.first ranges x r h)
set-outside ranges l x r (inr h) =
    let e : x ≡ l.first + (x - l.first) = omega arith in
    ap (λ y. take l.keys (drop l.first (set ranges y r))) e ∙ ap (take l.keys) (drop-set-add l.first ranges (x - l.first) r) ∙ take-set-le l.keys (drop l.first ranges) (x - l.first) r (omega arith)

-- one of them
set-inside : (ranges : List (Option Range)) (l : Layout) (k : ℕ) (r : Option Range) → k < l.keys → ranges_of (set ranges (l.first + k) r) l ≡ set (ranges_of ranges l) k r
set-inside ranges l k r h =
    ap (take l.keys) (drop-set-add l.first ranges k r) ∙ take-set-lt l.keys (drop l.first ranges) k r h

AreWithin-set : (cells : List ℕ) (stride : ℕ) (rs : List (Option Range)) (k : ℕ) (r : Range) → r.first + r.count * stride ≤ length cells → AreWithin cells stride rs → AreWithin cells stride (set rs k (Some r))
AreWithin-set cells stride [] k r h w = tt
AreWithin-set cells stride (None ∷ rs) zero r h w = (h, w)
AreWithin-set cells stride (Some q ∷ rs) zero r h w = (h, w.1)
AreWithin-set cells stride (None ∷ rs) (suc k) r h w = AreWithin-set cells stride rs k r h w
AreWithin-set cells stride (Some q ∷ rs) (suc k) r h w = (w.0, AreWithin-set cells stride rs k r h w.1)

-- a range before those of the layouts
tables-after : (cells : List ℕ) (ranges : List (Option Range)) (x : ℕ) (r : Option Range) (n : ℕ) (ls : List Layout) → x < n → AreLaid cells ranges n ls → map (table_of cells (set ranges x r)) ls ≡ map (table_of cells ranges) ls
tables-after cells ranges x r n [] h laid = refl
tables-after cells ranges x r n (l ∷ ls) h laid =
    ap₂ (λ rs ts. (let t : LaidTable = record { stride = l.stride; rows = map (option_map (rows_in cells l.stride)) rs } in t) ∷ ts) (set-outside ranges l x r (inl (omega (arith, laid.0)))) (tables-after cells ranges x r (l.first + l.keys) ls (omega (arith, laid.0)) laid.2)

laid-outside : (cells : List ℕ) (ranges : List (Option Range)) (x : ℕ) (r : Option Range) (l : Layout) → (x < l.first) ⊎ (l.first + l.keys ≤ x) → IsLaid cells ranges l → IsLaid cells (set ranges x r) l
laid-outside cells ranges x r l h laid =
    (omega (arith, length-set ranges x r, laid.0), subst (AreWithin cells l.stride) (sym (set-outside ranges l x r h)) laid.1)

laid-after : (cells : List ℕ) (ranges : List (Option Range)) (x : ℕ) (r : Option Range) (n : ℕ) (ls : List Layout) → x < n → AreLaid cells ranges n ls → AreLaid cells (set ranges x r) n ls
laid-after cells ranges x r n [] h laid = tt
laid-after cells ranges x r n (l ∷ ls) h laid =
    (laid.0, laid-outside cells ranges x r l (inl (omega (arith, laid.0))) laid.1, laid-after cells ranges x r (l.first + l.keys) ls (omega (arith, laid.0)) laid.2)

-- the range of a key of a table is set
module _ (cells : List ℕ) (ranges : List (Option Range)) (k : ℕ) (r : Range) (d : Layout) where
  tables-set : (n : ℕ) (ls : List Layout) (t : ℕ) → AreLaid cells ranges n ls → t < length ls → k < (get_or ls t d).keys →
      map (table_of cells (set ranges ((get_or ls t d).first + k) (Some r))) ls ≡ set (map (table_of cells ranges) ls) t (with_rows (table_of cells ranges (get_or ls t d)) k (rows_in cells (get_or ls t d).stride r))
  tables-set n [] t laid below key = absurd (omega arith)
  tables-set n (l ∷ ls) zero laid below key =
      let rows = ap (map (option_map (rows_in cells l.stride))) (set-inside ranges l k (Some r) key) ∙ map-set (option_map (rows_in cells l.stride)) (ranges_of ranges l) k (Some r) in
      ap₂ (λ xs ts. (let x : LaidTable = record { stride = l.stride; rows = xs } in x) ∷ ts) rows (tables-after cells ranges (l.first + k) (Some r) (l.first + l.keys) ls (omega arith) laid.2)
  tables-set n (l ∷ ls) (suc t) laid below key =
      let later = (AreLaid-at cells ranges (l.first + l.keys) ls t d (omega arith) laid.2).0 in
      ap₂ (λ rs ts. (let x : LaidTable = record { stride = l.stride; rows = map (option_map (rows_in cells l.stride)) rs } in x) ∷ ts) (set-outside ranges l ((get_or ls t d).first + k) (Some r) (inr (omega (arith, later)))) (tables-set (l.first + l.keys) ls t laid.2 (omega arith) key)

  laid-set : (n : ℕ) (ls : List Layout) (t : ℕ) → AreLaid cells ranges n ls → t < length ls → k < (get_or ls t d).keys → r.first + r.count * (get_or ls t d).stride ≤ length cells →
      AreLaid cells (set ranges ((get_or ls t d).first + k) (Some r)) n ls
  laid-set n [] t laid below key within = absurd (omega arith)
  laid-set n (l ∷ ls) zero laid below key within =
      (laid.0, (omega (arith, length-set ranges (l.first + k) (Some r), laid.1.0), subst (AreWithin cells l.stride) (sym (set-inside ranges l k (Some r) key)) (AreWithin-set cells l.stride (ranges_of ranges l) k r within laid.1.1)), laid-after cells ranges (l.first + k) (Some r) (l.first + l.keys) ls (omega arith) laid.2)
  laid-set n (l ∷ ls) (suc t) laid below key within =
      let later = (AreLaid-at cells ranges (l.first + l.keys) ls t d (omega arith) laid.2).0 in
      (laid.0, laid-outside cells ranges ((get_or ls t d).first + k) (Some r) l (inr (omega (arith, later))) laid.1, laid-set (l.first + l.keys) ls t laid.2 (omega arith) key within)

-- the tables after the rows of a key are laid behind the cells
module _ (cells : List ℕ) (ranges : List (Option Range)) (layouts : List Layout) (v : LaidView) (seen_cells : cells ≡ v.cells) (seen : map (table_of cells ranges) layouts ≡ v.tables) (laid : AreLaid cells ranges 0 layouts) (t : ℕ) (l : Layout) (below : t < length v.tables) (at : l ≡ get_or layouts t l) (k : ℕ) (key : k < length (laid_at v.tables t).rows) (row : ℕ → List ℕ) (ps : List ℕ) (all : (p : ℕ) → p ∈ ps → length (row p) ≡ (laid_at v.tables t).stride) (cells' : List ℕ) (c : cells' ≡ cells ++ flat_map row ps) (r : Range) (first : r.first ≡ length cells) (count : r.count ≡ length ps) where
  in_layouts : t < length layouts
  in_layouts = below_layouts cells ranges layouts v seen_cells seen laid t l below at

  strides : (laid_at v.tables t).stride ≡ l.stride
  strides = stride-is cells ranges layouts v seen_cells seen laid t l below at

  in_keys : k < l.keys
  in_keys = omega (arith, keys-are cells ranges layouts v seen_cells seen laid t l below at)

  whole : r ≡ record { first = length cells; count = length ps }
  whole = ap₂ (λ m n. let x : Range = record { first = m; count = n } in x) first count

  -- the range is among the ranges
  pub at-range : l.first + k < length ranges
  at-range = omega (arith, in_keys, fits cells ranges layouts v seen_cells seen laid t l below at)

  -- its rows stand there
  pub rows-laid : rows_in cells' (laid_at v.tables t).stride r ≡ map row ps
  rows-laid = rw (c, whole) (rows-behind row (laid_at v.tables t).stride cells ps all)

  pub within-laid : r.first + r.count * (laid_at v.tables t).stride ≤ length cells'
  within-laid =
      rw (c, whole) (omega (arith, length-append cells (flat_map row ps), length-rows row (laid_at v.tables t).stride ps all))

  laid-there : AreLaid cells' ranges 0 layouts
  laid-there = rw c (AreLaid-append cells (flat_map row ps) ranges 0 layouts laid)

  pub key-laid : AreLaid cells' (set ranges (l.first + k) (Some r)) 0 layouts
  key-laid =
      let in_its : k < (get_or layouts t l).keys = subst (λ (x : Layout). k < x.keys) at in_keys in
      let it_within : r.first + r.count * (get_or layouts t l).stride ≤ length cells' = subst (λ (x : Layout). r.first + r.count * x.stride ≤ length cells') at (subst (λ n. r.first + r.count * n ≤ length cells') strides within-laid) in
      subst (λ (x : Layout). AreLaid cells' (set ranges (x.first + k) (Some r)) 0 layouts) (sym at) (laid-set cells' ranges k r l 0 layouts t laid-there in_layouts in_its it_within)

  pub key-view : map (table_of cells' (set ranges (l.first + k) (Some r))) layouts ≡ set v.tables t (with_rows (laid_at v.tables t) k (map row ps))
  key-view =
      let in_its : k < (get_or layouts t l).keys = subst (λ (x : Layout). k < x.keys) at in_keys in
      let same : map (table_of cells' ranges) layouts ≡ v.tables = rw c (tables-append cells (flat_map row ps) ranges 0 layouts laid ∙ seen) in
      let d : LaidTable = record { stride = 0; rows = [] } in
      let table : table_of cells' ranges l ≡ laid_at v.tables t =
      ap (table_of cells' ranges) at ∙ sym (get_or-map (table_of cells' ranges) layouts t l d in_layouts) ∙ ap (λ x. get_or x t d) same in
      let rows : rows_in cells' l.stride r ≡ map row ps = ap (λ n. rows_in cells' n r) (sym strides) ∙ rows-laid in
      let one = subst (λ (x : Layout). map (table_of cells' (set ranges (x.first + k) (Some r))) layouts ≡ set (map (table_of cells' ranges) layouts) t (with_rows (table_of cells' ranges x) k (rows_in cells' x.stride r))) (sym at) (tables-set cells' ranges k r l 0 layouts t laid-there in_layouts in_its) in
      one ∙ ap₂ (λ ts x. set ts t (with_rows x k (rows_in cells' l.stride r))) same table ∙ ap (λ xs. set v.tables t (with_rows (laid_at v.tables t) k xs)) rows

-- the fact at a place has these numbers
pub numbers-read : (B : List Fact) (p : ℕ) (ns : List ℕ) → Some ns ≡ option_map (λ f. numbers_of (values B) f.args) (slice_get B p) → ns ≡ numbers_at B p
numbers-read B p ns e = ap (λ o. unwrap_or o []) e

-- an element by its place is one of the list
pub ∈-at : {X : Type 0} (xs : List X) (i : ℕ) (d : X) → i < length xs → get_or xs i d ∈ xs
∈-at [] i d h = absurd (omega arith)
∈-at (x ∷ xs) zero d h = inl refl
∈-at (x ∷ xs) (suc i) d h = inr (∈-at xs i d (omega arith))

-- a row and those before are within all
pub row-left : (row : ℕ → List ℕ) (cells now : List ℕ) (ps : List ℕ) (i : ℕ) → now ≡ cells ++ flat_map row (take i ps) → i < length ps → length now + length (row (get_or ps i 0)) ≤ length cells + length (flat_map row ps)
row-left row cells now ps i e h =
    let one : flat_map row (take (i + 1) ps) ≡ flat_map row (take i ps) ++ row (get_or ps i 0) =
    ap (flat_map row) (take_more ps i 0 h) ∙ flat_map-append row (take i ps) (get_or ps i 0 ∷ []) ∙ ap (λ xs. flat_map row (take i ps) ++ xs) (append-nil (row (get_or ps i 0))) in
    let all : flat_map row ps ≡ flat_map row (take (i + 1) ps) ++ flat_map row (drop (i + 1) ps) =
    ap (flat_map row) (sym (take-append-drop (i + 1) ps)) ∙ flat_map-append row (take (i + 1) ps) (drop (i + 1) ps) in
    omega (arith, ap length e, length-append cells (flat_map row (take i ps)), ap length one, length-append (flat_map row (take i ps)) (row (get_or ps i 0)), ap length all, length-append (flat_map row (take (i + 1) ps)) (flat_map row (drop (i + 1) ps)))
