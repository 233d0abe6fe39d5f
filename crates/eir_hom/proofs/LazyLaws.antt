-- From the levels that are compiled to all levels.
use Rattle.std.proofs.Common.{◌≡◌, ◌<◌, ◌≤◌, ℕ, zero, suc, ◌+◌, true, List, [], ◌∷◌, ◌++◌, map, take, drop, length, get_or, Some, inl, inr, slice_get, refl, sym, ap, ap₂, ◌∙◌, subst, arith}
use Rattle.std.proofs.lemmas.List.{take-append-drop, take-map, length-map, length-take-le, take_more, get_or-map}
use Rattle.std.proofs.lemmas.Bool.{cases_lt}
use Rattle.eir_term.specs.declared.fact.Fact.{Fact}
use Rattle.eir_term.specs.Instances.{values}
use Rattle.eir_hom.specs.declared.course.Shape.{Shape}
use Rattle.eir_hom.specs.FactRows.{numbers_at, row_at}
use Rattle.eir_hom.specs.Tables.{table_at}
use Rattle.eir_hom.specs.Stocks.{IsShape}
use Rattle.eir_hom.specs.Compiling.{Draft, draft_level, drafts_of, slot_in}
use Rattle.eir_hom.specs.Columns.{is_among, bound_slots}
use Rattle.eir_hom.specs.Matching.{Level, Bindings, rows_next, matched, match_space, with_number, Match}
use Rattle.eir_hom.specs.Lazy.{all_levels, IsCut, IsReached}
use Rattle.eir_hom.proofs.MatchedLaws.{matched-more}
use Rattle.eir_hom.proofs.PushLaws.{no_draft, IsReady, ready-at}

-- ---- drafts

pub length-drafts : (n : ℕ) (ss : List Shape) → length (drafts_of n ss) ≡ length ss
length-drafts n [] = refl
length-drafts n (s ∷ ss) = ap suc (length-drafts (suc n) ss)

draft-at : (n : ℕ) (ss : List Shape) (k : ℕ) (s : Shape) → slice_get ss k ≡ Some s → get_or (drafts_of n ss) k no_draft ≡ record { shape = s; table = n + k }
draft-at n [] k s e = absurd (cc)
draft-at n (r ∷ ss) zero s e =
    let same : r ≡ s = cc in
    let z : n ≡ n + 0 = omega arith in
    ap₂ (λ (x : Shape) (t : ℕ). let d : Draft = record { shape = x; table = t } in d) same z
draft-at n (r ∷ ss) (suc k) s e =
    let z : suc n + k ≡ n + suc k = omega arith in
    draft-at (suc n) ss k s e ∙ ap (λ (t : ℕ). let d : Draft = record { shape = s; table = t } in d) z

pub length-all : (A : List Fact) (m : Match) → length (all_levels A m) ≡ length m.shapes
length-all A m = length-map (drafts_of 0 m.shapes) (draft_level A m.tables) ∙ length-drafts 0 m.shapes

-- ---- a level more

module _ (A : List Fact) (m : Match) (cut : IsCut A m) (h : length m.levels < length A) (s : Shape) (at : Some s ≡ slice_get m.shapes (length m.levels)) where
  abbrev its_draft : Draft
  its_draft = record { shape = s; table = length m.levels }

  here : get_or (drafts_of 0 m.shapes) (length m.levels) no_draft ≡ its_draft
  here =
      let z : 0 + length m.levels ≡ length m.levels = omega arith in
      draft-at 0 m.shapes (length m.levels) s (sym at) ∙ ap (λ (t : ℕ). let d : Draft = record { shape = s; table = t } in d) z

  within : length m.levels < length (drafts_of 0 m.shapes)
  within = omega (arith, length-drafts 0 m.shapes, cut.facts, h)

  its : IsReady A m.tables (bound_slots (map (λ p. p.0) m.start) m.levels) its_draft
  its =
      let levels : map (draft_level A m.tables) (take (length m.levels) (drafts_of 0 m.shapes)) ≡ m.levels = sym (cut.levels ∙ take-map (draft_level A m.tables) (length m.levels) (drafts_of 0 m.shapes)) in
      subst (λ ls. IsReady A m.tables (bound_slots (map (λ p. p.0) m.start) ls) its_draft) levels
      (subst (IsReady A m.tables (bound_slots (map (λ p. p.0) m.start) (map (draft_level A m.tables) (take (length m.levels) (drafts_of 0 m.shapes))))) here
      (ready-at A m.tables (map (λ p. p.0) m.start) (drafts_of 0 m.shapes) (length m.levels) cut.ready within))

  pub its_shape : IsShape A s
  its_shape = its.shape

  pub its_table : length m.levels < length m.tables
  its_table = its.table

  pub its_stride : (table_at m.tables (length m.levels)).stride ≡ length (row_at A s.column s.place)
  its_stride = its.stride

  pub its_key : is_among (slot_in (length (values A)) s.column (numbers_at A s.place)) (bound_slots (map (λ p. p.0) m.start) m.levels) ≡ true
  its_key = its.key

  pub levels-next : m.levels ++ draft_level A m.tables its_draft ∷ [] ≡ take (length m.levels + 1) (all_levels A m)
  levels-next =
      let f = draft_level A m.tables in
      let more = take_more (all_levels A m) (length m.levels) (draft_level A m.tables no_draft) (omega (arith, length-map (drafts_of 0 m.shapes) (draft_level A m.tables), within)) in
      let one : get_or (all_levels A m) (length m.levels) (draft_level A m.tables no_draft) ≡ draft_level A m.tables its_draft =
      get_or-map (draft_level A m.tables) (drafts_of 0 m.shapes) (length m.levels) no_draft _ within ∙ ap (draft_level A m.tables) here in
      ap₂ (λ xs x. xs ++ x ∷ []) cut.levels (sym one) ∙ sym more

-- after it the levels are the first ones, and the next one is there
pub cut-next : (A : List Fact) (m new : Match) → IsCut A m → length m.levels < length A → length m.placed ≡ length m.levels →
    new ≡ record m { levels = take (length m.levels + 1) (all_levels A m) } → IsCut A new × IsReached A new
cut-next A m new cut h full e =
    let long : length (take (length m.levels + 1) (all_levels A m)) ≡ length m.levels + 1 = length-take-le (length m.levels + 1) (all_levels A m) (omega (arith, length-all A m, cut.facts, h)) in
    rw e (
      record {
        facts = cut.facts;
        slots = cut.slots;
        ready = cut.ready;
        levels = ap (λ n. take n (all_levels A m)) (sym long);
        deep = omega (arith, long, full);
      },
      λ lt. omega (arith, long, full),
    )

-- ---- what is not compiled changes nothing

module _ (A : List Fact) (m : Match) (cut : IsCut A m) where
  split : all_levels A m ≡ m.levels ++ drop (length m.levels) (all_levels A m)
  split = sym (ap (λ l. l ++ drop (length m.levels) (all_levels A m)) cut.levels ∙ take-append-drop (length m.levels) (all_levels A m))

  pub matched-cut : (start : Bindings) (cs : List ℕ) → length cs ≤ length m.levels → matched (all_levels A m) start cs ≡ matched m.levels start cs
  matched-cut start cs le = ap (λ ls. matched ls start cs) split ∙ matched-more m.levels (drop (length m.levels) (all_levels A m)) start cs le

  get-front : (ls more : List Level) (k : ℕ) → k < length ls → slice_get (ls ++ more) k ≡ slice_get ls k
  get-front [] more k h = absurd (omega arith)
  get-front (l ∷ ls) more zero h = refl
  get-front (l ∷ ls) more (suc k) h = get-front ls more k (omega arith)

  pub width-cut : (start : Bindings) (cs : List ℕ) → length cs < length m.levels → (match_space (all_levels A m) start).width cs ≡ (match_space m.levels start).width cs
  width-cut start cs lt =
      ap₂ rows_next (ap (λ ls. slice_get ls (length cs)) split ∙ get-front m.levels (drop (length m.levels) (all_levels A m)) (length cs) lt) (matched-cut start cs (omega arith))

  -- the level behind those that are placed is there, if there is one
  pub reached-below : (n : ℕ) → IsReached A m → n ≤ length m.placed → n < length (all_levels A m) → n < length m.levels
  reached-below n r le lt = elim (cases_lt (length m.levels) (length A)) [
    | inl short ↦ (let k = r short in omega (arith, k))
    | inr all ↦ omega (arith, length-all A m, cut.facts)
  ]

-- ---- what a call leaves

pub cut-kept : (A : List Fact) (m new : Match) → IsCut A m → (let a : Match = record new { placed = [] } in a) ≡ (let b : Match = record m { placed = [] } in b) → length new.placed ≤ length m.levels → IsCut A new
cut-kept A m new cut e le =
    let levels : new.levels ≡ m.levels = ap (λ (x : Match). x.levels) e in
    let tables : new.tables ≡ m.tables = ap (λ (x : Match). x.tables) e in
    let shapes : new.shapes ≡ m.shapes = ap (λ (x : Match). x.shapes) e in
    let slots : new.slots ≡ m.slots = ap (λ (x : Match). x.slots) e in
    let start : new.start ≡ m.start = ap (λ (x : Match). x.start) e in
    record {
      facts = ap length shapes ∙ cut.facts;
      slots = rw slots cut.slots;
      ready = rw (tables, shapes, start) cut.ready;
      levels = rw (levels, tables, shapes) cut.levels;
      deep = rw levels le;
    }

firsts-kept : (m : Bindings) (s w : ℕ) → map (λ p. p.0) (with_number m s w) ≡ map (λ p. p.0) m
firsts-kept [] s w = refl
firsts-kept (p ∷ m) s w = ap (λ xs. p.0 ∷ xs) (firsts-kept m s w)

pub cut-numbered : (A : List Fact) (m new : Match) (s w : ℕ) → IsCut A m → new ≡ record m { start = with_number m.start s w } → IsCut A new
cut-numbered A m new s w cut e = rw e (record {
  facts = cut.facts;
  slots = cut.slots;
  ready = rw (firsts-kept m.start s w) cut.ready;
  levels = cut.levels;
  deep = cut.deep;
})

-- what is seen but for what is placed
pub view-base : (A : List Fact) (m sc r : Match) → r ≡ (let b : Match = record sc { levels = r.levels } in b) →
    (let a : Match = record sc { placed = [] } in a) ≡ (let b : Match = record m { placed = [] } in b) →
    (let a : Match = record r { levels = all_levels A r; placed = [] } in a) ≡ (let b : Match = record m { levels = all_levels A m; placed = [] } in b)
view-base A m sc r same base =
    let f : Match → Match = λ x. record x { levels = all_levels A x; placed = [] } in
    ap f same ∙ ap f base
