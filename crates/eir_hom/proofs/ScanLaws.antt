-- Where a scan of a level begins, in the words of its callers.
use Rattle.std.proofs.Common.{◌≡◌, ◌≢◌, ℕ, zero, suc, ◌+◌, ◌*◌, ◌-◌, ◌<◌, ◌≤◌, Bool, List, [], ◌∷◌, ◌++◌, length, take, drop, set, get_or, Some, slice_get, refl, ap, sym, ◌∙◌, subst, arith, mul-le-mul_right}
use Rattle.std.proofs.lemmas.List.{length-take-le, length-map, take-take, length_push}
use Rattle.std.proofs.lemmas.Option.{slice_get_read, slice_get-get_or}
use Rattle.eir_hom.specs.declared.columns.Column.{Column}
use Rattle.eir_hom.specs.declared.tables.Range.{Range}
use Rattle.eir_hom.specs.declared.matching.CompiledLevel.{CompiledLevel}
use Rattle.eir_hom.specs.Tables.{TablesView}
use Rattle.eir_hom.specs.Matching.{Bindings, match_space, Match}
use Rattle.eir_hom.specs.Columns.{seen_after, slots_of, AreBelow, AreReady, Scanned, row_at}
use Rattle.eir_hom.specs.MatcherParts.{columns_at, level_in, levels_in, start_in, IsCompiled, AreCompiled, IsRangeFor, IsRange, IsMatcher}
use Rattle.eir_hom.proofs.MatcherLaws.{turned, columns-length, columns-part, width-is, Scan, scan-is, Gone, went, next-level, binds-start, range-is}

-- what a contract sees of the parts
abbrev pub seen_of : TablesView → List Column → List CompiledLevel → List ℕ → List ℕ → List ℕ → ℕ → Match
seen_of ts cs ls given images placed depth = record { slots = length images; tables = ts.tables; shapes = ts.shapes; levels = levels_in ts cs ls; start = start_in given images; placed = take depth placed }

pub space-kept : (ts : TablesView) (cs : List Column) (ls : List CompiledLevel) (given images after placed : List ℕ)
    (depth : ℕ) (now : Match) → seen_of ts cs ls given images placed depth ≡ now →
    start_in given after ≡ start_in given images → match_space (levels_in ts cs ls)
    (start_in given after) ≡ match_space now.levels now.start
space-kept ts cs ls given images after placed depth now v e = ap (match_space (levels_in ts cs ls)) e ∙ ap (λ s. match_space s.levels s.start) v

pub base-kept : (ts : TablesView) (cs : List Column) (ls : List CompiledLevel) (given images after placed : List ℕ)
    (depth : ℕ) (now : Match) → seen_of ts cs ls given images placed depth ≡ now → length after ≡ length images →
    start_in given after ≡ start_in given images →
    seen_of ts cs ls given after [] 0 ≡ record now { placed = [] }
base-kept ts cs ls given images after placed depth now v long e =
    let emptied : Match → Match = λ s. record s { placed = [] } in
    rw (long, e) (ap emptied v)

-- where the next level stands
pub record Stage (ls : List CompiledLevel) (ranges : List Range) (depth level to : ℕ) (l : CompiledLevel) (r : Range) : Type 0 where
  pub at : level ≡ depth
  pub below : depth < length ls
  pub level_is : slice_get ls depth ≡ Some l
  pub range_is : slice_get ranges depth ≡ Some r
  pub within : to ≤ r.count

pub stage : (ts : TablesView) (cs : List Column) (ls : List CompiledLevel) (given images : List ℕ) (flags : List Bool)
    (ranges : List Range) (placed : List ℕ) (depth : ℕ) (now : Match) (level to : ℕ) (l : CompiledLevel) (r : Range) →
    seen_of ts cs ls given images placed depth ≡ now → IsMatcher ts cs ls given images flags ranges placed depth →
    level < length now.levels → level ≡ length now.placed → to ≤ (match_space now.levels now.start).width now.placed →
    l ≡ get_or ls level l → r ≡ get_or ranges level r → Stage ls ranges depth level to l r
stage ts cs ls given images flags ranges placed depth now level to l r v p lt at le l_is r_is =
    let within : depth ≤ length placed = omega (arith, p.deep, p.placed_room) in
    let e : level ≡ depth = at ∙ sym (ap (λ s. length s.placed) v) ∙ length-take-le depth placed within in
    let below : depth < length ls = omega (arith, lt, ap (λ s. length s.levels) v, length-map ls (level_in ts cs)) in
    let at_level : slice_get ls depth ≡ Some l = slice_get_read ls (length ls) depth l refl below (l_is ∙ ap (λ i. get_or ls i l) e) in
    let at_range : slice_get ranges depth ≡ Some r = slice_get_read ranges (length ranges) depth r refl (omega (arith, p.ranges_room)) (r_is ∙ ap (λ i. get_or ranges i r) e) in
    let w : (match_space (levels_in ts cs ls) (start_in given images)).width (take depth (take depth placed)) ≡ r.count = width-is ts cs ls given images flags ranges placed depth depth l r (omega arith) at_level at_range p in
    let same : take depth (take depth placed) ≡ take depth placed = take-take depth depth placed (omega arith) in
    let wide : (match_space now.levels now.start).width now.placed ≡ r.count = ap (λ s. (match_space s.levels s.start).width s.placed) (sym v) ∙ ap (match_space (levels_in ts cs ls) (start_in given images)).width (sym same) ∙ w in
    record { at = e; below = below; level_is = at_level; range_is = at_range; within = omega (arith, wide, le) }

-- what a scan needs of the parts
pub record Fit (ts : TablesView) (cs : List Column) (images : List ℕ) (to : ℕ) (l : CompiledLevel) (r : Range) (part : List Column) : Type 0 where
  pub columns : l.first_column + l.stride ≤ length cs
  pub cells : r.first + to * length part ≤ length ts.cells
  pub slots : AreBelow (slots_of part) (length images)

pub fit : (ts : TablesView) (cs : List Column) (ls : List CompiledLevel) (given images : List ℕ) (flags : List Bool)
    (ranges : List Range) (placed : List ℕ) (depth level to : ℕ) (l : CompiledLevel) (r : Range) →
    IsMatcher ts cs ls given images flags ranges placed depth → Stage ls ranges depth level to l r →
    Fit ts cs images to l r (columns_at cs l)
fit ts cs ls given images flags ranges placed depth level to l r p s =
    let t = turned ts cs ls given images flags ranges placed depth l r s.level_is s.range_is p in
    let long = columns-length ts cs (length images) t.next.seen l t.next.compiled in
    record {
      columns = t.next.compiled.columns;
      cells = rw long (let more : to * l.stride ≤ r.count * l.stride = mul-le-mul_right l.stride s.within in omega (arith, more, t.range.within));
      slots = t.next.compiled.slots_below;
    }

-- the parts of any level
pub compiled-at : (ts : TablesView) (cs : List Column) (slots : ℕ) (seen : List ℕ) (ls : List CompiledLevel) (k : ℕ)
    (l : CompiledLevel) → AreCompiled ts cs slots seen ls → slice_get ls k ≡ Some l →
    (before : List ℕ) × IsCompiled ts cs slots before l
compiled-at ts cs slots seen [] k l a at = absurd (cc)
compiled-at ts cs slots seen (j ∷ ls) zero l a at = (seen, (let e : j ≡ l = cc in subst (λ i. IsCompiled ts cs slots seen i) e a.0))
compiled-at ts cs slots seen (j ∷ ls) (suc k) l a at = compiled-at ts cs slots (seen_after seen (slots_of (columns_at cs j))) ls k l a.1 at

-- how many choices there are
pub width-now : (ts : TablesView) (cs : List Column) (ls : List CompiledLevel) (given images : List ℕ)
    (flags : List Bool) (ranges : List Range) (placed : List ℕ) (depth : ℕ) (now : Match) (level : ℕ) (r : Range) →
    seen_of ts cs ls given images placed depth ≡ now → IsMatcher ts cs ls given images flags ranges placed depth →
    level < length now.levels → level ≤ length now.placed → r ≡ get_or ranges level r →
    r.count ≡ (match_space now.levels now.start).width (take level now.placed)
width-now ts cs ls given images flags ranges placed depth now level r v p lt le r_is =
    let within : depth ≤ length placed = omega (arith, p.deep, p.placed_room) in
    let le_depth : level ≤ depth = omega (arith, le, ap (λ s. length s.placed) v, length-take-le depth placed within) in
    let below : level < length ls = omega (arith, lt, ap (λ s. length s.levels) v, length-map ls (level_in ts cs)) in
    let d : CompiledLevel = record { key = 0; table = 0; first_column = 0; stride = 0 } in
    let at_level : slice_get ls level ≡ Some (get_or ls level d) = slice_get-get_or ls level d below in
    let at_range : slice_get ranges level ≡ Some r = slice_get_read ranges (length ranges) level r refl (omega (arith, p.ranges_room)) r_is in
    sym (width-is ts cs ls given images flags ranges placed depth level (get_or ls level d) r le_depth at_level at_range p) ∙ ap (λ s. (match_space s.levels s.start).width (take level s.placed)) v

-- the columns as they were lent
pub part-is : (cs cols : List Column) (l : CompiledLevel) → cols ≡ cs →
    take (l.first_column + l.stride - l.first_column) (drop l.first_column cols) ≡ columns_at cs l
part-is cs cols l e = ap (λ x. take (l.first_column + l.stride - l.first_column) (drop l.first_column x)) e ∙ columns-part cs l

-- a scan, where its arguments are as they were lent
pub scan-now : (ts : TablesView) (cs : List Column) (ls : List CompiledLevel) (given images : List ℕ)
    (flags : List Bool) (ranges : List Range) (placed : List ℕ) (depth level to : ℕ) (l : CompiledLevel) (r : Range)
    (cols : List Column) (cells lent : List ℕ) (from k : ℕ) (new : List ℕ) →
    (p : IsMatcher ts cs ls given images flags ranges placed depth) → Stage ls ranges depth level to l r → cols ≡ cs →
    cells ≡ ts.cells → lent ≡ images → k ≤ to →
    ((m : Bindings) → AreReady m (take (l.first_column + l.stride - l.first_column) (drop l.first_column cols)) lent → Scanned m (take (l.first_column + l.stride - l.first_column) (drop l.first_column cols)) (row_at cells r.first (length (take (l.first_column + l.stride - l.first_column) (drop l.first_column cols)))) from to k new) →
    Scan ts cs ls given images placed depth from to k new p.stands.reached
scan-now ts cs ls given images flags ranges placed depth level to l r cols cells lent from k new p s cols_are cells_are lent_is le h =
    scan-is ts cs ls given images flags ranges placed depth l r _ cells from to k new s.level_is s.range_is p (part-is cs cols l cols_are) cells_are s.within le (λ m ready. h m (rw lent_is ready))

-- a choice that was found is placed
pub went-now : (ts : TablesView) (cs : List Column) (ls : List CompiledLevel) (given images : List ℕ)
    (flags : List Bool) (ranges : List Range) (placed : List ℕ) (depth level to : ℕ) (l : CompiledLevel) (r : Range)
    (k : ℕ) (new : List ℕ) (next : List Range) → IsMatcher ts cs ls given images flags ranges placed depth →
    Stage ls ranges depth level to l r → Gone ts cs ls given images placed depth k new → length new ≡ length images →
    length next ≡ length ranges → ((j : ℕ) → j ≢ level + 1 → slice_get next j ≡ slice_get ranges j) →
    ((l' : CompiledLevel) (r' : Range) → slice_get ls (level + 1) ≡ Some l' → slice_get next (level + 1) ≡ Some r' → IsRangeFor ts l' (get_or new l'.key 0) r') →
    (start_in given new ≡ start_in given images) × IsMatcher ts cs ls given new flags next (set placed level k)
    (level + 1)
went-now ts cs ls given images flags ranges placed depth level to l r k new next p s g long long_next others range =
    let at : level ≡ depth = s.at in
    let within : depth ≤ length placed = omega (arith, p.deep, p.placed_room) in
    let count : length (take depth placed ++ k ∷ []) ≡ depth + 1 = omega (arith, length_push (take depth placed) k, length-take-le depth placed within) in
    let same : (j : ℕ) → j ≤ depth → slice_get next j ≡ slice_get ranges j = λ j le. others j (λ e. absurd (omega arith)) in
    let last : (l' : CompiledLevel) (r' : Range) → slice_get ls (depth + 1) ≡ Some l' → slice_get next (depth + 1) ≡ Some r' → IsRange ts cs l' r' g.reached =
    λ l' r' a b.
    (let n = next-level ts cs (length images) given ls (start_in given images) (take depth placed ++ k ∷ []) g.reached l' p.compiled (binds-start given images) g.matches (ap (slice_get ls) count ∙ a) in
    range-is ts cs (length images) g.reached l' new r' n g.holds (range l' r' (ap (λ i. slice_get ls (i + 1)) at ∙ a) (ap (λ i. slice_get next (i + 1)) at ∙ b))) in
    let w = went ts cs ls given images new flags ranges next placed depth k g.reached long s.below long_next same last p g.matches g.holds in
    (w.0, rw at w.1)
