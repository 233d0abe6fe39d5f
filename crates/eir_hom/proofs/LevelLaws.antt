-- How a matcher gets one more level.
use Rattle.std.proofs.Common.{◌≡◌, ◌≢◌, ℕ, zero, suc, ◌+◌, ◌-◌, ◌<◌, ◌≤◌, ◌==◌, Bool, true, false, List, [], ◌∷◌, ◌++◌, map, length, take, drop, set, get_or, Some, slice_get, inl, inr, refl, ap, sym, ◌∙◌, subst, arith}
use Rattle.std.proofs.lemmas.List.{take-append-drop, take-append-le, drop-append-le, take_at, drop_at, take_all, drop_all, length-append, length-drop, length-take-le, length-map, length_push, append-nil, map_push}
use Rattle.std.proofs.lemmas.Option.{slice_get_cases}
use Rattle.std.proofs.lemmas.List.{get_or_past, get_or-set_same, get_or-set_other, length-set}
use borrow.Rule.Slice.PartMut.{post_of}
use Rattle.eir_hom.specs.declared.columns.Column.{Column}
use Rattle.eir_hom.specs.declared.tables.Range.{Range}
use Rattle.eir_hom.specs.declared.matching.CompiledLevel.{CompiledLevel}
use Rattle.std.specs.List.{sum_by}
use Rattle.std.proofs.lemmas.List.Sums.{sum_by_more, sum_by_more_le}
use Rattle.eir_hom.specs.Tables.{Table, TablesView, table_at}
use Rattle.std.proofs.lemmas.Bool.{cases_eq}
use Rattle.eir_hom.specs.Matching.{Level, with_number, matched, Match}
use Rattle.eir_hom.specs.Columns.{is_among, seen_after, bound_slots, slots_of, unmarked, AreBelow, AreColumns, Holds}
use Rattle.eir_hom.specs.MatcherParts.{columns_at, level_in, levels_in, start_in, IsCompiled, AreCompiled, IsRangeFor, IsRange, IsMatcher, HasLevelRoom}
use Rattle.eir_hom.proofs.ColumnLaws.{cases-bool, same-true, other-false}
use Rattle.eir_hom.proofs.MatcherLaws.{holds-start, binds-start, next-level, range-is, range-for}
use Rattle.eir_hom.proofs.MatchedLaws.{matched-more}
use Rattle.eir_hom.proofs.ScanLaws.{seen_of}
use Rattle.eir_hom.proofs.BuildLaws.{fresh, among-below}

pub slots-unmarked : (ss : List ℕ) → slots_of (map unmarked ss) ≡ ss
slots-unmarked [] = refl
slots-unmarked (s ∷ ss) = ap (λ l. s ∷ l) (slots-unmarked ss)

-- columns that were appended, and then marked
pub appended-part : (old all : List Column) (ss : List ℕ) (first : ℕ) → all ≡ old ++ map unmarked ss →
    first ≡ length old → take (length all - first) (drop first all) ≡ map unmarked ss
appended-part old all ss first e f =
    let rest : drop first all ≡ map unmarked ss = rw e (drop_at old (map unmarked ss) first (sym f)) in
    let long : length all ≡ length old + length (map unmarked ss) = ap length e ∙ length-append old (map unmarked ss) in
    rw rest (take_all (length all - first) (map unmarked ss) (omega arith))

pub marked-part : (old all marked : List Column) (ss : List ℕ) (first : ℕ) → all ≡ old ++ map unmarked ss →
    first ≡ length old → take first all ++ (marked ++ post_of first (length all - first) all) ≡ old ++ marked
marked-part old all marked ss first e f =
    let rest : post_of first (length all - first) all ≡ [] = drop_all (length all - first) (drop first all) (omega (arith, length-drop first all)) in
    let front : take first all ≡ old = rw e (take_at old (map unmarked ss) first (sym f)) in
    rw (rest, front, append-nil marked) refl

-- more columns behind
pub columns-more : (cs more : List Column) (l : CompiledLevel) → l.first_column + l.stride ≤ length cs →
    columns_at (cs ++ more) l ≡ columns_at cs l
columns-more cs more l h =
    let a : l.first_column ≤ length cs = omega arith in
    let b : l.stride ≤ length (drop l.first_column cs) = omega (arith, length-drop l.first_column cs) in
    ap (take l.stride) (drop-append-le l.first_column cs more a) ∙ take-append-le l.stride (drop l.first_column cs) more b

pub levels-more : (ts : TablesView) (cs more : List Column) (slots : ℕ) (seen : List ℕ) (ls : List CompiledLevel) →
    AreCompiled ts cs slots seen ls → levels_in ts (cs ++ more) ls ≡ levels_in ts cs ls
levels-more ts cs more slots seen [] a = refl
levels-more ts cs more slots seen (l ∷ ls) a =
    let e = columns-more cs more l a.0.columns in
    let t = levels-more ts cs more slots (seen_after seen (slots_of (columns_at cs l))) ls a.1 in
    rw (e, t) refl

pub compiled-more : (ts : TablesView) (cs more : List Column) (slots : ℕ) (seen : List ℕ) (ls : List CompiledLevel) →
    AreCompiled ts cs slots seen ls → AreCompiled ts (cs ++ more) slots seen ls
compiled-more ts cs more slots seen [] a = tt
compiled-more ts cs more slots seen (l ∷ ls) a =
    let e = columns-more cs more l a.0.columns in (
      record {
        table = a.0.table;
        stride = a.0.stride;
        columns = omega (arith, a.0.columns, length-append cs more);
        key_seen = a.0.key_seen;
        key_below = a.0.key_below;
        slots_below = rw e a.0.slots_below;
        are_columns = rw e a.0.are_columns;
      },
      rw e (compiled-more ts cs more slots (seen_after seen (slots_of (columns_at cs l))) ls a.1),
    )

pub split-at : {X : Type 0} (xs all : List X) → take (length xs) all ≡ xs → all ≡ xs ++ drop (length xs) all
split-at xs all e = sym (ap (λ l. l ++ drop (length xs) all) (sym e) ∙ take-append-drop (length xs) all)

slice_get-left : {X : Type 0} (xs ys : List X) (k : ℕ) → k < length xs → slice_get (xs ++ ys) k ≡ slice_get xs k
slice_get-left [] ys k h = absurd (omega arith)
slice_get-left (x ∷ xs) ys zero h = refl
slice_get-left (x ∷ xs) ys (suc k) h = slice_get-left xs ys k (omega arith)

pub bound_slots-push : (seen : List ℕ) (ls : List Level) (l : Level) →
    bound_slots seen (ls ++ l ∷ []) ≡ seen_after (bound_slots seen ls) l.slots
bound_slots-push seen [] l = refl
bound_slots-push seen (k ∷ ls) l = bound_slots-push (seen_after seen k.slots) ls l

pub compiled-push : (ts : TablesView) (cs : List Column) (slots : ℕ) (seen : List ℕ) (ls : List CompiledLevel)
    (l : CompiledLevel) → AreCompiled ts cs slots seen ls →
    IsCompiled ts cs slots (bound_slots seen (levels_in ts cs ls)) l → AreCompiled ts cs slots seen (ls ++ l ∷ [])
compiled-push ts cs slots seen [] l a c = (c, tt)
compiled-push ts cs slots seen (k ∷ ls) l a c = (a.0, compiled-push ts cs slots (seen_after seen (slots_of (columns_at cs k))) ls l a.1 c)

pub firsts-start : (given images : List ℕ) → map (λ p. p.0) (start_in given images) ≡ given
firsts-start [] images = refl
firsts-start (s ∷ given) images = ap (λ l. s ∷ l) (firsts-start given images)

pub flag-below : (flags : List Bool) (k : ℕ) → get_or flags k false ≡ true → k < length flags
flag-below flags k h =
    elim ((slice_get_cases flags k).1) [
      | inl r ↦ r.1
      | inr r ↦ absurd (let e : get_or flags k false ≡ false = get_or_past flags k false r.0 in cc)
    ]

-- the level that columns were marked for
pub record Pushing (ts : TablesView) (cs marked : List Column) (ls : List CompiledLevel) (given images : List ℕ) (depth key table first : ℕ) (ss : List ℕ) : Type 0 where
  pub full : depth ≡ length ls
  pub compiled : AreCompiled ts (cs ++ marked) (length images) given (ls ++ (record { key = key; table = table; first_column = first; stride = length ss }) ∷ [])
  pub levels : levels_in ts (cs ++ marked) (ls ++ (record { key = key; table = table; first_column = first; stride = length ss }) ∷ []) ≡ levels_in ts cs ls ++ (record { key = key; slots = ss; rows = (table_at ts.tables table).rows }) ∷ []

pub pushing : (ts : TablesView) (cs marked : List Column) (ls : List CompiledLevel) (given images : List ℕ)
    (flags : List Bool) (ranges : List Range) (placed : List ℕ) (depth : ℕ) (now : Match) (key table first : ℕ)
    (ss : List ℕ) → seen_of ts cs ls given images placed depth ≡ now →
    IsMatcher ts cs ls given images flags ranges placed depth →
    length now.placed ≡ length now.levels → is_among key (bound_slots (map (λ p. p.0) now.start) now.levels) ≡ true →
    AreBelow ss now.slots → table < length now.tables → (table_at now.tables table).stride ≡ length ss →
    first ≡ length cs → slots_of marked ≡ ss →
    ((seen : List ℕ) → ((s : ℕ) → get_or flags s false ≡ is_among s seen) → AreColumns seen marked) →
    Pushing ts cs marked ls given images depth key table first ss
pushing ts cs marked ls given images flags ranges placed depth now key table first ss v p none key_in below table_in stride_is first_is slots marked_are =
    let within : depth ≤ length placed = omega (arith, p.deep, p.placed_room) in
    let l : CompiledLevel = record { key = key; table = table; first_column = first; stride = length ss } in
    let tables : ts.tables ≡ now.tables = ap (λ s. s.tables) v in
    let count : length marked ≡ length ss = sym (length-map marked (λ c. c.slot)) ∙ ap length slots in
    let part : columns_at (cs ++ marked) l ≡ marked = ap (take (length ss)) (drop_at cs marked first (sym first_is)) ∙ take_all (length ss) marked (omega arith) in
    let seen_is : bound_slots (map (λ p. p.0) now.start) now.levels ≡ bound_slots given (levels_in ts cs ls) = ap (λ s. bound_slots (map (λ p. p.0) s.start) s.levels) (sym v) ∙ ap (λ g. bound_slots g (levels_in ts cs ls)) (firsts-start given images) in
    let key_seen : is_among key (bound_slots given (levels_in ts cs ls)) ≡ true = sym (ap (is_among key) seen_is) ∙ key_in in
    let more : levels_in ts (cs ++ marked) ls ≡ levels_in ts cs ls = levels-more ts cs marked (length images) given ls p.compiled in
    let one : IsCompiled ts (cs ++ marked) (length images) (bound_slots given (levels_in ts (cs ++ marked) ls)) l = record {
      table = rw tables table_in;
      stride = rw tables stride_is;
      columns = omega (arith, length-append cs marked, count, first_is);
      key_seen = rw more key_seen;
      key_below = (let k : key < length flags = flag-below flags key (p.bound key ∙ key_seen) in omega (arith, k, p.flags_room));
      slots_below = rw (part, slots, ap (λ s. s.slots) v) below;
      are_columns = rw (part, more) (marked_are (bound_slots given (levels_in ts cs ls)) p.bound);
    } in
    record {
      full = sym (length-take-le depth placed within) ∙ ap (λ s. length s.placed) v ∙ none ∙ sym (ap (λ s. length s.levels) v) ∙ length-map ls (level_in ts cs);
      compiled = compiled-push ts (cs ++ marked) (length images) given ls l (compiled-more ts cs marked (length images) given ls p.compiled) one;
      levels = map_push (level_in ts (cs ++ marked)) ls l ∙ rw (part, slots, more) refl;
    }

pub record Pushed (ts : TablesView) (cs marked : List Column) (ls : List CompiledLevel) (given images : List ℕ) (flags : List Bool) (ranges : List Range) (placed : List ℕ) (depth : ℕ) (now : Match) (key table first : ℕ) (ss : List ℕ) : Type 0 where
  pub holds : IsMatcher ts (cs ++ marked) (ls ++ (record { key = key; table = table; first_column = first; stride = length ss }) ∷ []) given images flags ranges placed depth
  pub view : seen_of ts (cs ++ marked) (ls ++ (record { key = key; table = table; first_column = first; stride = length ss }) ∷ []) given images placed depth ≡ record now { levels = now.levels ++ (record { key = key; slots = ss; rows = (table_at now.tables table).rows }) ∷ [] }

pub pushed : (ts : TablesView) (cs marked : List Column) (ls : List CompiledLevel) (given images : List ℕ)
    (flags after_flags : List Bool) (ranges after_ranges : List Range) (placed : List ℕ) (depth : ℕ)
    (now : Match) (key table first : ℕ) (ss : List ℕ) → seen_of ts cs ls given images placed depth ≡ now →
    (p : IsMatcher ts cs ls given images flags ranges placed depth) →
    Pushing ts cs marked ls given images depth key table first ss → length after_flags ≡ length flags →
    ((seen : List ℕ) → ((s : ℕ) → get_or flags s false ≡ is_among s seen) → (s : ℕ) → get_or after_flags s false ≡ is_among s (seen_after seen ss)) →
    length ls + 1 ≤ length after_ranges → length ls + 1 ≤ length placed →
    ((k : ℕ) → k ≢ length ls → slice_get after_ranges k ≡ slice_get ranges k) →
    ((l : CompiledLevel) (r : Range) → slice_get (ls ++ (record { key = key; table = table; first_column = first; stride = length ss }) ∷ []) (length ls) ≡ Some l → slice_get after_ranges (length ls) ≡ Some r → IsRangeFor ts l (get_or images l.key 0) r) →
    Pushed ts cs marked ls given images after_flags after_ranges placed depth now key table first ss
pushed ts cs marked ls given images flags after_flags ranges after_ranges placed depth now key table first ss v p q long bound ranges_room placed_room others range =
    let l : CompiledLevel = record { key = key; table = table; first_column = first; stride = length ss } in
    let new : Level = record { key = key; slots = ss; rows = (table_at ts.tables table).rows } in
    let more : Match → Match = λ m. record m { levels = m.levels ++ (record { key = key; slots = ss; rows = (table_at m.tables table).rows }) ∷ [] } in
    let start = start_in given images in
    let flagged : (s : ℕ) → get_or after_flags s false ≡ is_among s (bound_slots given (levels_in ts (cs ++ marked) (ls ++ l ∷ []))) =
    λ s. bound (bound_slots given (levels_in ts cs ls)) p.bound s ∙ ap (is_among s) (sym (ap (bound_slots given) q.levels ∙ bound_slots-push given (levels_in ts cs ls) (record { key = key; slots = ss; rows = (table_at ts.tables table).rows }))) in
    let short : (k : ℕ) → k ≤ depth → length (take k placed) ≤ length (levels_in ts cs ls) =
    λ k le. omega (arith, length-take-le k placed (omega (arith, le, p.deep, p.placed_room)), length-map ls (level_in ts cs), le, p.deep) in
    let same : (k : ℕ) → k ≤ depth → matched (levels_in ts (cs ++ marked) (ls ++ l ∷ [])) (start_in given images) (take k placed) ≡ matched (levels_in ts cs ls) (start_in given images) (take k placed) =
    λ k le. ap (λ x. matched x (start_in given images) (take k placed)) q.levels ∙ matched-more (levels_in ts cs ls) ((record { key = key; slots = ss; rows = (table_at ts.tables table).rows }) ∷ []) (start_in given images) (take k placed) (short k le) in
    record {
      holds = record {
        flags_room = long ∙ p.flags_room;
        ranges_room = omega (arith, length_push ls l, ranges_room);
        placed_room = omega (arith, length_push ls l, placed_room);
        deep = omega (arith, length_push ls l, p.deep);
        given_below = p.given_below;
        compiled = q.compiled;
        bound = flagged;
        stands = record { reached = p.stands.reached; matches = same depth (omega arith) ∙ p.stands.matches; holds = p.stands.holds };
        ranges_are = λ k j r m le a b e.
            (let f : matched (levels_in ts cs ls) (start_in given images) (take k placed) ≡ Some m = sym (same k le) ∙ e in
            elim (cases_eq k (length ls)) [
              | inl top ↦ (
                  let nm : p.stands.reached ≡ m = (let z = sym p.stands.matches ∙ ap (λ n. matched (levels_in ts cs ls) (start_in given images) (take n placed)) (q.full ∙ sym top) ∙ f in cc) in
                  let count : length (take k placed) ≡ length ls = length-take-le k placed (omega (arith, le, p.deep, p.placed_room)) ∙ top in
                  let n = next-level ts (cs ++ marked) (length images) given (ls ++ l ∷ []) (start_in given images) (take k placed) m j q.compiled (binds-start given images) e (ap (slice_get (ls ++ l ∷ [])) (count ∙ sym top) ∙ a) in
                  range-is ts (cs ++ marked) (length images) m j images r n (subst (Holds images) nm p.stands.holds) (range j r (ap (slice_get (ls ++ l ∷ [])) (sym top) ∙ a) (ap (slice_get after_ranges) (sym top) ∙ b)))
              | inr ne ↦ (
                  let lt : k < length ls = omega (arith, le, q.full, ne) in
                  let i = p.ranges_are k j r m le (sym (slice_get-left ls (l ∷ []) k lt) ∙ a) (sym (others k ne) ∙ b) f in
                  record { rows = i.rows; within = i.within })
            ]);
      };
      view = rw q.levels (ap more v);
    }

-- ---- room

-- the columns of one more level have room
pub columns-fit : (tables now : List Table) (levels n columns levels_room columns_room ranges placed k : ℕ) →
    HasLevelRoom tables levels columns levels_room columns_room ranges placed → tables ≡ now → n ≡ levels → n < length now →
    (table_at now n).stride ≡ k → columns + k ≤ columns_room
columns-fit tables now levels n columns levels_room columns_room ranges placed k h e f lt s =
    let next : sum_by (λ (t : Table). t.stride) (take levels tables) + k ≤ sum_by (λ (t : Table). t.stride) tables =
    rw (e, ← f, ← s) (sum_by_more_le (λ (t : Table). t.stride) now n (record { stride = 0; rows = [] }) lt) in
    omega (arith, next, h.columns_room, h.filled)

-- and then there is room for the others
pub room-next : (tables more now : List Table) (levels levels' n columns columns' levels_room columns_room columns_room' ranges ranges' placed k : ℕ) →
    HasLevelRoom tables levels columns levels_room columns_room ranges placed → more ≡ tables → tables ≡ now → n ≡ levels → n < length now →
    (table_at now n).stride ≡ k → levels' ≡ levels + 1 → columns' ≡ columns + k → columns_room ≤ columns_room' → ranges' ≡ ranges →
    (levels_room' : ℕ) → levels_room ≤ levels_room' → HasLevelRoom more levels' columns' levels_room' columns_room' ranges' placed
room-next tables more now levels levels' n columns columns' levels_room columns_room columns_room' ranges ranges' placed k h m e f lt s l c cr r levels_room' lr =
    let next : sum_by (λ (t : Table). t.stride) (take (levels + 1) tables) ≡ sum_by (λ (t : Table). t.stride) (take levels tables) + k =
    rw (e, ← f, ← s) (sum_by_more (λ (t : Table). t.stride) now n (record { stride = 0; rows = [] }) lt) in
    rw (m, l, r) record {
      levels_room = omega (arith, h.levels_room, lr);
      columns_room = omega (arith, h.columns_room, cr);
      ranges_room = h.ranges_room;
      placed_room = h.placed_room;
      filled = omega (arith, c, next, h.filled);
    }

pub room-kept : (tables more : List Table) (levels columns levels_room columns_room ranges ranges' placed placed' : ℕ) → more ≡ tables → ranges' ≡ ranges → placed' ≡ placed →
    HasLevelRoom tables levels columns levels_room columns_room ranges placed → HasLevelRoom more levels columns levels_room columns_room ranges' placed'
room-kept tables more levels columns levels_room columns_room ranges ranges' placed placed' e f g h = rw (e, f, g) h

pub marked-length : (old all marked : List Column) (ss : List ℕ) (first : ℕ) → all ≡ old ++ map unmarked ss →
    first ≡ length old → slots_of marked ≡ ss →
    length (take first all ++ (marked ++ post_of first (length all - first) all)) ≡ length all
marked-length old all marked ss first e f slots =
    let long : length marked ≡ length ss = sym (length-map marked (λ c. c.slot)) ∙ ap length slots in
    let unmarked_long : length (map unmarked ss) ≡ length ss = length-map ss unmarked in
    ap length (marked-part old all marked ss first e f) ∙ omega (arith, length-append old marked, length-append old (map unmarked ss), ap length e)

-- another number at the start
pub numbered : (given images : List ℕ) (slot number : ℕ) → slot < length images →
    start_in given (set images slot number) ≡ with_number (start_in given images) slot number
numbered [] images slot number lt = refl
numbered (s ∷ given) images slot number lt =
    let tail = numbered given images slot number lt in
    elim (cases-bool (s == slot)) [
      | inl e ↦ (
          let here : get_or (set images slot number) s 0 ≡ number = rw (same-true s slot e) (get_or-set_same images slot number 0 lt) in
          rw (here, tail, e) refl)
      | inr e ↦ (
          let here : get_or (set images slot number) s 0 ≡ get_or images s 0 = get_or-set_other images slot s number 0 (other-false s slot e) in
          rw (here, tail, e) refl)
    ]

pub slot-below : (ts : TablesView) (cs : List Column) (ls : List CompiledLevel) (given images : List ℕ)
    (flags : List Bool) (ranges : List Range) (placed : List ℕ) (depth : ℕ) (now : Match) (slot : ℕ) →
    seen_of ts cs ls given images placed depth ≡ now → IsMatcher ts cs ls given images flags ranges placed depth →
    is_among slot (map (λ p. p.0) now.start) ≡ true → slot < length images
slot-below ts cs ls given images flags ranges placed depth now slot v p h =
    let e : map (λ p. p.0) now.start ≡ given = ap (λ s. map (λ p. p.0) s.start) (sym v) ∙ firsts-start given images in
    among-below slot (length images) given (sym (ap (is_among slot) e) ∙ h) p.given_below

pub renumbered : (ts : TablesView) (cs : List Column) (ls : List CompiledLevel) (given images : List ℕ)
    (flags : List Bool) (ranges next : List Range) (placed : List ℕ) (depth : ℕ) (now : Match) (slot number : ℕ) →
    seen_of ts cs ls given images placed depth ≡ now → IsMatcher ts cs ls given images flags ranges placed depth →
    now.placed ≡ [] → slot < length images → length next ≡ length ranges →
    ((l : CompiledLevel) (r : Range) → slice_get ls 0 ≡ Some l → slice_get next 0 ≡ Some r → IsRangeFor ts l (get_or (set images slot number) l.key 0) r) →
    IsMatcher ts cs ls given (set images slot number) flags next placed depth × (seen_of ts cs ls given (set images slot number) placed depth ≡ record now { start = with_number now.start slot number })
renumbered ts cs ls given images flags ranges next placed depth now slot number v p none lt long range =
    let after = set images slot number in
    let same : length after ≡ length images = length-set images slot number in
    let within : depth ≤ length placed = omega (arith, p.deep, p.placed_room) in
    let empty : depth ≡ 0 = sym (length-take-le depth placed within) ∙ ap (λ s. length s.placed) v ∙ ap length none in
    let compiled : AreCompiled ts cs (length after) given ls = rw same p.compiled in
    let start : (l : CompiledLevel) (r : Range) → slice_get ls 0 ≡ Some l → slice_get next 0 ≡ Some r → IsRange ts cs l r (start_in given after) =
    λ l r a b. range-is ts cs (length after) (start_in given after) l after r (next-level ts cs (length after) given ls (start_in given after) [] (start_in given after) l compiled (binds-start given after) refl a) (holds-start given after) (range l r a b) in
    let other : Match → Match = λ m. record m { start = with_number m.start slot number } in (
      fresh ts cs ls given after flags next placed depth empty (p.flags_room ∙ sym same) (omega (arith, p.ranges_room)) p.placed_room (rw same p.given_below) compiled p.bound start,
      rw (same, numbered given images slot number lt) (ap other v),
    )

-- the rows of the first level stay where another slot than its key has another number
pub unmoved : (ts : TablesView) (cs : List Column) (ls : List CompiledLevel) (given images : List ℕ)
    (flags : List Bool) (ranges : List Range) (placed : List ℕ) (depth slot number : ℕ) (l : CompiledLevel) (r : Range) →
    IsMatcher ts cs ls given images flags ranges placed depth → slice_get ls 0 ≡ Some l → slice_get ranges 0 ≡ Some r →
    l.key ≢ slot → IsRangeFor ts l (get_or (set images slot number) l.key 0) r
unmoved ts cs ls given images flags ranges placed depth slot number l r p a b apart =
    let start = start_in given images in
    let n = next-level ts cs (length images) given ls start [] start l p.compiled (binds-start given images) refl a in
    let before = range-for ts cs (length images) start l images r n (holds-start given images) (p.ranges_are 0 l r start (omega arith) a b refl) in
    subst (λ i. IsRangeFor ts l i r) (sym (get_or-set_other images slot l.key number 0 apart)) before
