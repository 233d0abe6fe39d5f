-- What a matcher keeps as choices are placed and lifted.
use Rattle.std.proofs.Common.{◌≡◌, ℕ, ◌+◌, ◌*◌, ◌<◌, ◌≤◌, ◌==◌, Bool, true, false, List, [], ◌∷◌, ◌++◌, length, take, drop, set, get_or, Some, is_some, ◌-◌, unwrap_or, option_map, slice_get, inl, inr, refl, ap, sym, ◌∙◌, subst, arith}
use Rattle.std.proofs.lemmas.Bool.{cases_eq}
use Rattle.std.proofs.lemmas.List.{take-take, take-set-le, take_more_set, length-set, length-take-le, length-drop}
use Rattle.std.proofs.lemmas.List.FromFn.{length-map-range_with_len}
use Rattle.std.proofs.lemmas.Option.{slice_get-map}
use Rattle.eir_hom.specs.declared.columns.Column.{Column}
use Rattle.eir_hom.specs.declared.tables.Range.{Range}
use Rattle.eir_hom.specs.declared.matching.CompiledLevel.{CompiledLevel}
use Rattle.eir_hom.specs.Tables.{TablesView, table_at, rows_in}
use Rattle.eir_hom.specs.Matching.{Bindings, bound_to, bind_row, rows_at, rows_next, matched, match_space}
use Rattle.eir_hom.specs.Columns.{is_among, seen_after, slots_of, Holds, Binds, AreReady, Scanned, row_at}
use Rattle.eir_hom.specs.MatcherParts.{columns_at, level_in, levels_in, start_in, IsCompiled, AreCompiled, IsRangeFor, IsRange, IsMatcher}
use Rattle.eir_hom.proofs.ColumnLaws.{cases-option, cases-bool, same-refl, same-true, IsWithin, holds-within}
use Rattle.eir_hom.proofs.MatchedLaws.{first-of, row-binds, matched-within, matched-take, matched-row, slice_get-rows}

pub among-more : (s t : ℕ) (seen : List ℕ) → is_among s seen ≡ true → is_among s (t ∷ seen) ≡ true
among-more s t seen h =
    elim (cases-bool (t == s)) [
      | inl e ↦ rw e refl
      | inr e ↦ rw e h
    ]

-- the bindings at the start
pub holds-start : (given images : List ℕ) → Holds images (start_in given images)
holds-start given images = record { images_are = at given }
  where
    at : (g : List ℕ) (s w : ℕ) → bound_to (start_in g images) s ≡ Some w → get_or images s 0 ≡ w
    at [] s w h = absurd (cc)
    at (t ∷ g) s w h =
        elim (cases-bool (t == s)) [
          | inl e ↦ (let k : get_or images t 0 ≡ w = (let j = rw e at h in cc) in ap (λ i. get_or images i 0) (sym (same-true t s e)) ∙ k)
          | inr e ↦ at g s w (rw e at h)
        ]

pub binds-start : (given images : List ℕ) → Binds (start_in given images) given
binds-start given images = record { slots_are = at given }
  where
    at : (g : List ℕ) (s : ℕ) → is_some (bound_to (start_in g images) s) ≡ is_among s g
    at [] s = refl
    at (t ∷ g) s =
        elim (cases-bool (t == s)) [
          | inl e ↦ rw e refl
          | inr e ↦ rw e (at g s)
        ]

pub bound-some : (m : Bindings) (seen : List ℕ) (s : ℕ) → Binds m seen → is_among s seen ≡ true →
    (w : ℕ) × (bound_to m s ≡ Some w)
bound-some m seen s b h =
    elim (cases-option (bound_to m s)) [
      | inl none ↦ absurd (let e : false ≡ true = ap is_some (sym none) ∙ b.slots_are s ∙ h in cc)
      | inr (w, some) ↦ (w, some)
    ]

pub start-same : (given images after : List ℕ) →
    ((s : ℕ) → is_among s given ≡ true → get_or after s 0 ≡ get_or images s 0) →
    start_in given after ≡ start_in given images
start-same [] images after h = refl
start-same (s ∷ given) images after h =
    let head : get_or after s 0 ≡ get_or images s 0 = h s (rw (same-refl s) refl) in
    let tail = start-same given images after (λ t e. h t (among-more t s given e)) in
    rw (head, tail) refl

pub start-kept : (given images after : List ℕ) (n : Bindings) → IsWithin (start_in given images) n → Holds after n →
    start_in given after ≡ start_in given images
start-kept given images after n w h =
    start-same given images after
    (λ s e.
    let b = bound-some (start_in given images) given s (binds-start given images) e in
    h.images_are s b.0 (w.kept s b.0 b.1) ∙ sym ((holds-start given images).images_are s b.0 b.1))

-- the next level after what is matched
pub record Next (ts : TablesView) (cs : List Column) (slots : ℕ) (m : Bindings) (l : CompiledLevel) : Type 0 where
  pub seen : List ℕ
  pub binds : Binds m seen
  pub compiled : IsCompiled ts cs slots seen l

pub next-level : (ts : TablesView) (cs : List Column) (slots : ℕ) (seen : List ℕ) (ls : List CompiledLevel)
    (start : Bindings) (choices : List ℕ) (m : Bindings) (l : CompiledLevel) → AreCompiled ts cs slots seen ls →
    Binds start seen →
    matched (levels_in ts cs ls) start choices ≡ Some m → slice_get ls (length choices) ≡ Some l → Next ts cs slots m l
next-level ts cs slots seen [] start [] m l a b h at = absurd (cc)
next-level ts cs slots seen [] start (c ∷ choices) m l a b h at = absurd (cc)
next-level ts cs slots seen (k ∷ ls) start [] m l a b h at =
    let e : start ≡ m = cc in
    let kl : k ≡ l = cc in
    record { seen = seen; binds = subst (λ o. Binds o seen) e b; compiled = subst (λ j. IsCompiled ts cs slots seen j) kl a.0 }
next-level ts cs slots seen (k ∷ ls) start (c ∷ choices) m l a b h at =
    let f = first-of (level_in ts cs k) (levels_in ts cs ls) start c choices m h in
    next-level ts cs slots (seen_after seen (slots_of (columns_at cs k))) ls f.next choices m l a.1 (row-binds start f.next _ f.row seen f.next_is b) f.rest at

-- the range that is looked up for the key's number
pub range-is : (ts : TablesView) (cs : List Column) (slots : ℕ) (m : Bindings) (l : CompiledLevel) (images : List ℕ)
    (r : Range) → Next ts cs slots m l → Holds images m → IsRangeFor ts l (get_or images l.key 0) r →
    IsRange ts cs l r m
range-is ts cs slots m l images r n h f =
    let b = bound-some m n.seen l.key n.binds n.compiled.key_seen in
    let at : get_or images l.key 0 ≡ unwrap_or (bound_to m l.key) 0 = rw b.1 (h.images_are l.key b.0 b.1) in
    record {
      rows = ap (λ i. rows_in ts.cells i r) (sym n.compiled.stride) ∙ f.rows ∙ ap (λ i. get_or (table_at ts.tables l.table).rows i []) at;
      within = rw n.compiled.stride at f.within;
    }

-- the range that is there has the rows for the key's number
pub range-for : (ts : TablesView) (cs : List Column) (slots : ℕ) (m : Bindings) (l : CompiledLevel) (images : List ℕ)
    (r : Range) → Next ts cs slots m l → Holds images m → IsRange ts cs l r m →
    IsRangeFor ts l (get_or images l.key 0) r
range-for ts cs slots m l images r n h f =
    let b = bound-some m n.seen l.key n.binds n.compiled.key_seen in
    let at : get_or images l.key 0 ≡ unwrap_or (bound_to m l.key) 0 = rw b.1 (h.images_are l.key b.0 b.1) in
    record {
      rows = ap (λ i. rows_in ts.cells i r) n.compiled.stride ∙ f.rows ∙ ap (λ i. get_or (table_at ts.tables l.table).rows i []) (sym at);
      within = rw n.compiled.stride f.within;
    }

-- fewer choices
pub lifted : (ts : TablesView) (cs : List Column) (ls : List CompiledLevel) (given images : List ℕ)
    (flags : List Bool) (ranges : List Range) (placed : List ℕ) (depth d : ℕ) → d ≤ depth →
    IsMatcher ts cs ls given images flags ranges placed depth → IsMatcher ts cs ls given images flags ranges placed d
lifted ts cs ls given images flags ranges placed depth d le p = record {
  flags_room = p.flags_room;
  ranges_room = p.ranges_room;
  placed_room = p.placed_room;
  deep = omega (arith, p.deep);
  given_below = p.given_below;
  compiled = p.compiled;
  bound = p.bound;
  stands = (
      let f = matched-take d (levels_in ts cs ls) (start_in given images) (take depth placed) p.stands.reached p.stands.matches in
      record { reached = f.before; matches = ap (matched (levels_in ts cs ls) (start_in given images)) (sym (take-take d depth placed le)) ∙ f.matches; holds = holds-within images f.before p.stands.reached f.within p.stands.holds });
  ranges_are = λ k l r m kd. p.ranges_are k l r m (omega arith);
}

-- the images where nothing more is placed
pub stayed : (ts : TablesView) (cs : List Column) (ls : List CompiledLevel) (given images after : List ℕ)
    (flags : List Bool) (ranges : List Range) (placed : List ℕ) (depth : ℕ) → length after ≡ length images →
    (p : IsMatcher ts cs ls given images flags ranges placed depth) →
    Holds after p.stands.reached →
    (start_in given after ≡ start_in given images) × IsMatcher ts cs ls given after flags ranges placed depth
stayed ts cs ls given images after flags ranges placed depth long p h =
    let start : start_in given after ≡ start_in given images = start-kept given images after p.stands.reached (matched-within (levels_in ts cs ls) (start_in given images) (take depth placed) p.stands.reached p.stands.matches) h in (
      start,
      record {
        flags_room = p.flags_room ∙ sym long;
        ranges_room = p.ranges_room;
        placed_room = p.placed_room;
        deep = p.deep;
        given_below = rw long p.given_below;
        compiled = rw long p.compiled;
        bound = p.bound;
        stands = record { reached = p.stands.reached; matches = rw start p.stands.matches; holds = h };
        ranges_are = λ k l r m le a b e. p.ranges_are k l r m le a b (rw start at e);
      },
    )

-- one choice more
pub went : (ts : TablesView) (cs : List Column) (ls : List CompiledLevel) (given images after : List ℕ)
    (flags : List Bool) (ranges next : List Range) (placed : List ℕ) (depth c : ℕ) (n : Bindings) →
    length after ≡ length images → depth < length ls →
    length next ≡ length ranges → ((k : ℕ) → k ≤ depth → slice_get next k ≡ slice_get ranges k) →
    ((l : CompiledLevel) (r : Range) → slice_get ls (depth + 1) ≡ Some l → slice_get next (depth + 1) ≡ Some r → IsRange ts cs l r n) →
    (p : IsMatcher ts cs ls given images flags ranges placed depth) → matched (levels_in ts cs ls)
    (start_in given images) (take depth placed ++ c ∷ []) ≡ Some n → Holds after n →
    (start_in given after ≡ start_in given images) × IsMatcher ts cs ls given after flags next (set placed depth c)
    (depth + 1)
went ts cs ls given images after flags ranges next placed depth c n long lt long_next same last p e h =
    let start : start_in given after ≡ start_in given images = start-kept given images after n (matched-within (levels_in ts cs ls) (start_in given images) (take depth placed ++ c ∷ []) n e) h in
    let room : depth < length placed = omega (arith, p.placed_room) in
    let more : take (depth + 1) (set placed depth c) ≡ take depth placed ++ c ∷ [] = take_more_set placed depth c room in (
      start,
      record {
        flags_room = p.flags_room ∙ sym long;
        ranges_room = omega (arith, p.ranges_room);
        placed_room = omega (arith, length-set placed depth c, p.placed_room);
        deep = omega arith;
        given_below = rw long p.given_below;
        compiled = rw long p.compiled;
        bound = p.bound;
        stands = record { reached = n; matches = rw (start, more) e; holds = h };
        ranges_are = λ k l r m le a b f.
            elim (cases_eq k (depth + 1)) [
              | inl top ↦ (
                  let g : matched (levels_in ts cs ls) (start_in given images) (take depth placed ++ c ∷ []) ≡ Some m = ap (λ s. matched (levels_in ts cs ls) s (take depth placed ++ c ∷ [])) (sym start) ∙ ap (matched (levels_in ts cs ls) (start_in given after)) (sym more ∙ ap (λ i. take i (set placed depth c)) (sym top)) ∙ f in
                  let nm : n ≡ m = (let z = sym e ∙ g in cc) in
                  subst (λ o. IsRange ts cs l r o) nm (last l r (ap (slice_get ls) (sym top) ∙ a) (ap (slice_get next) (sym top) ∙ b)))
              | inr below ↦ (
                  let kd : k ≤ depth = omega arith in
                  let g : matched (levels_in ts cs ls) (start_in given images) (take k placed) ≡ Some m = ap (λ s. matched (levels_in ts cs ls) s (take k placed)) (sym start) ∙ ap (matched (levels_in ts cs ls) (start_in given after)) (sym (take-set-le k placed depth c kd)) ∙ f in
                  p.ranges_are k l r m kd a (sym (same k kd) ∙ b) g)
            ];
      },
    )

-- what a level's rows are tried on
pub record Turned (ts : TablesView) (cs : List Column) (ls : List CompiledLevel) (given images placed : List ℕ) (depth : ℕ) (l : CompiledLevel) (r : Range) (m : Bindings) : Type 0 where
  pub next : Next ts cs (length images) m l
  pub range : IsRange ts cs l r m
  pub ready : AreReady m (columns_at cs l) images
  pub tries : (k : ℕ) → k < r.count → matched (levels_in ts cs ls) (start_in given images) (take depth placed ++ k ∷ []) ≡ bind_row m (slots_of (columns_at cs l)) (take l.stride (drop (r.first + k * l.stride) ts.cells))

pub turned : (ts : TablesView) (cs : List Column) (ls : List CompiledLevel) (given images : List ℕ)
    (flags : List Bool) (ranges : List Range) (placed : List ℕ) (depth : ℕ) (l : CompiledLevel) (r : Range) →
    slice_get ls depth ≡ Some l → slice_get ranges depth ≡ Some r →
    (p : IsMatcher ts cs ls given images flags ranges placed depth) →
    Turned ts cs ls given images placed depth l r p.stands.reached
turned ts cs ls given images flags ranges placed depth l r at at_range p =
    let m = p.stands.reached in
    let long : length (take depth placed) ≡ depth = length-take-le depth placed (omega (arith, p.deep, p.placed_room)) in
    let n : Next ts cs (length images) m l = next-level ts cs (length images) given ls (start_in given images) (take depth placed) m l p.compiled (binds-start given images) p.stands.matches (ap (slice_get ls) long ∙ at) in
    let i : IsRange ts cs l r m = p.ranges_are depth l r m (omega arith) at at_range p.stands.matches in
    record {
      next = n;
      range = i;
      ready = record { seen = n.seen; binds = n.binds; columns = n.compiled.are_columns; holds = p.stands.holds };
      tries = λ k lt.
          (let row : slice_get (rows_at (level_in ts cs l) m) k ≡ Some (take l.stride (drop (r.first + k * l.stride) ts.cells)) = rw (← i.rows) (slice_get-rows ts.cells l.stride r k lt) in
          let level : slice_get (levels_in ts cs ls) (length (take depth placed)) ≡ Some (level_in ts cs l) = slice_get-map (level_in ts cs) ls (length (take depth placed)) ∙ ap (option_map (level_in ts cs)) (ap (slice_get ls) long ∙ at) in
          matched-row (levels_in ts cs ls) (start_in given images) (take depth placed) k m (level_in ts cs l) _ p.stands.matches level row);
    }

pub columns-length : (ts : TablesView) (cs : List Column) (slots : ℕ) (seen : List ℕ) (l : CompiledLevel) →
    IsCompiled ts cs slots seen l → length (columns_at cs l) ≡ l.stride
columns-length ts cs slots seen l c = length-take-le l.stride (drop l.first_column cs) (omega (arith, length-drop l.first_column cs, c.columns))

-- the columns as the part of all columns that they are
pub columns-part : (cs : List Column) (l : CompiledLevel) → take (l.first_column + l.stride - l.first_column)
    (drop l.first_column cs) ≡ columns_at cs l
columns-part cs l =
    let e : l.first_column + l.stride - l.first_column ≡ l.stride = omega arith in
    ap (λ i. take i (drop l.first_column cs)) e

-- how many choices there are
pub width-is : (ts : TablesView) (cs : List Column) (ls : List CompiledLevel) (given images : List ℕ)
    (flags : List Bool) (ranges : List Range) (placed : List ℕ) (depth level : ℕ) (l : CompiledLevel) (r : Range) →
    level ≤ depth → slice_get ls level ≡ Some l → slice_get ranges level ≡ Some r →
    (p : IsMatcher ts cs ls given images flags ranges placed depth) →
    (match_space (levels_in ts cs ls) (start_in given images)).width (take level (take depth placed)) ≡ r.count
width-is ts cs ls given images flags ranges placed depth level l r le at at_range p =
    let within : depth ≤ length placed = omega (arith, p.deep, p.placed_room) in
    let long : length (take level (take depth placed)) ≡ level = length-take-le level (take depth placed) (omega (arith, length-take-le depth placed within)) in
    let f = matched-take level (levels_in ts cs ls) (start_in given images) (take depth placed) p.stands.reached p.stands.matches in
    let e : matched (levels_in ts cs ls) (start_in given images) (take level placed) ≡ Some f.before = ap (matched (levels_in ts cs ls) (start_in given images)) (sym (take-take level depth placed le)) ∙ f.matches in
    let i : IsRange ts cs l r f.before = p.ranges_are level l r f.before le at at_range e in
    let here : slice_get (levels_in ts cs ls) (length (take level (take depth placed))) ≡ Some (level_in ts cs l) = slice_get-map (level_in ts cs) ls (length (take level (take depth placed))) ∙ ap (option_map (level_in ts cs)) (ap (slice_get ls) long ∙ at) in
    let rows : length (rows_at (level_in ts cs l) f.before) ≡ r.count = ap length (sym i.rows) ∙ length-map-range_with_len (λ c. take l.stride (drop (r.first + c * l.stride) ts.cells)) 0 r.count in
    ap (λ o. rows_next o (matched (levels_in ts cs ls) (start_in given images) (take level (take depth placed)))) here ∙ ap (rows_next (Some (level_in ts cs l))) f.matches ∙ rows

-- what scanning rows says of the choices
pub record Gone (ts : TablesView) (cs : List Column) (ls : List CompiledLevel) (given images placed : List ℕ) (depth k : ℕ) (after : List ℕ) : Type 0 where
  pub reached : Bindings
  pub matches : matched (levels_in ts cs ls) (start_in given images) (take depth placed ++ k ∷ []) ≡ Some reached
  pub holds : Holds after reached

pub record Scan (ts : TablesView) (cs : List Column) (ls : List CompiledLevel) (given images placed : List ℕ) (depth from to k : ℕ) (after : List ℕ) (m : Bindings) : Type 0 where
  pub bad : (j : ℕ) → from ≤ j → j < k → is_some (matched (levels_in ts cs ls) (start_in given images) (take depth placed ++ j ∷ [])) ≡ false
  pub good : k < to → Gone ts cs ls given images placed depth k after
  pub none : k ≡ to → Holds after m

pub scan-is : (ts : TablesView) (cs : List Column) (ls : List CompiledLevel) (given images : List ℕ)
    (flags : List Bool) (ranges : List Range) (placed : List ℕ) (depth : ℕ) (l : CompiledLevel) (r : Range)
    (part : List Column) (cells : List ℕ) (from to k : ℕ) (after : List ℕ) →
    slice_get ls depth ≡ Some l → slice_get ranges depth ≡ Some r →
    (p : IsMatcher ts cs ls given images flags ranges placed depth) → part ≡ columns_at cs l → cells ≡ ts.cells →
    to ≤ r.count → k ≤ to →
    ((m : Bindings) → AreReady m part images → Scanned m part (row_at cells r.first (length part)) from to k after) →
    Scan ts cs ls given images placed depth from to k after p.stands.reached
scan-is ts cs ls given images flags ranges placed depth l r part cells from to k after at at_range p part_is cells_are within le h =
    let m = p.stands.reached in
    let t = turned ts cs ls given images flags ranges placed depth l r at at_range p in
    let ready : AreReady m part images = rw part_is t.ready in
    let long : length part ≡ l.stride = ap length part_is ∙ columns-length ts cs (length images) t.next.seen l t.next.compiled in
    let e : Scanned m part (row_at cells r.first (length part)) from to k after = h m ready in
    let s : Scanned m (columns_at cs l) (row_at ts.cells r.first l.stride) from to k after = subst (λ x. Scanned m x (row_at ts.cells r.first l.stride) from to k after) part_is (subst (λ n. Scanned m part (row_at ts.cells r.first n) from to k after) long (subst (λ x. Scanned m part (row_at x r.first (length part)) from to k after) cells_are e)) in
    record {
      bad = λ j f lt. ap is_some (t.tries j (omega arith) ∙ s.bad j f lt);
      good = λ lt. (let g = s.good lt in record { reached = g.0; matches = t.tries k (omega arith) ∙ g.1; holds = g.2 });
      none = λ e. s.none e;
    }
