-- How a matcher is made: its bindings at the start and its levels.
use Rattle.std.proofs.Common.{◌≡◌, ℕ, suc, ◌<◌, ◌≤◌, ◌==◌, Bool, true, false, List, [], ◌∷◌, ◌++◌, length, set, get_or, replicate, Some, None, is_some, slice_get, inl, inr, refl, ap, sym, ◌∙◌, subst, arith}
use Rattle.std.proofs.lemmas.Bool.{cases_eq, cases_lt}
use Rattle.std.proofs.lemmas.List.{get_or-replicate, get_or_past, length-replicate, length-set, length-map, length_push, get_or_append_left, get_or_push, get_or-set_same, get_or-set_other, map_push, nil_from_length}
use Rattle.eir_hom.specs.declared.columns.Column.{Column}
use Rattle.eir_hom.specs.declared.tables.Range.{Range}
use Rattle.eir_hom.specs.declared.matching.CompiledLevel.{CompiledLevel}
use Rattle.eir_hom.specs.Tables.{TablesView}
use Rattle.eir_hom.specs.Matching.{bound_to, Match}
use Rattle.eir_hom.specs.Columns.{is_among, bound_slots, AreBelow}
use Rattle.eir_hom.specs.MatcherParts.{level_in, levels_in, start_in, AreCompiled, IsRange, IsMatcher}
use Rattle.eir_hom.proofs.ColumnLaws.{cases-bool, same-true, marked-at}
use Rattle.eir_hom.proofs.MatcherLaws.{holds-start, binds-start, start-same}
use Rattle.eir_hom.proofs.ScanLaws.{seen_of}

-- a matcher with nothing placed
pub fresh : (ts : TablesView) (cs : List Column) (ls : List CompiledLevel) (given images : List ℕ) (flags : List Bool)
    (ranges : List Range) (placed : List ℕ) (depth : ℕ) → depth ≡ 0 → length flags ≡ length images →
    length ls ≤ length ranges → length ls ≤ length placed → AreBelow given (length images) →
    AreCompiled ts cs (length images) given ls →
    ((s : ℕ) → get_or flags s false ≡ is_among s (bound_slots given (levels_in ts cs ls))) →
    ((l : CompiledLevel) (r : Range) → slice_get ls 0 ≡ Some l → slice_get ranges 0 ≡ Some r → IsRange ts cs l r (start_in given images)) →
    IsMatcher ts cs ls given images flags ranges placed depth
fresh ts cs ls given images flags ranges placed depth none flags_room ranges_room placed_room below compiled bound range = record {
  flags_room = flags_room;
  ranges_room = ranges_room;
  placed_room = placed_room;
  deep = omega arith;
  given_below = below;
  compiled = compiled;
  bound = bound;
  stands = record { reached = start_in given images; matches = rw none refl; holds = holds-start given images };
  ranges_are = λ k l r m le a b e.
      (let z : k ≡ 0 = omega arith in
      let same : start_in given images ≡ m = (let h = rw z at e in cc) in
      subst (λ o. IsRange ts cs l r o) same (range l r (ap (slice_get ls) (sym z) ∙ a) (ap (slice_get ranges) (sym z) ∙ b)));
}

-- flags of which none is set
pub never-flagged : (n s : ℕ) → get_or (replicate n false) s false ≡ false
never-flagged n s =
    elim (cases_lt s n) [
      | inl h ↦ get_or-replicate n s false false h
      | inr h ↦ get_or_past (replicate n false) s false (omega (arith, length-replicate n false))
    ]

-- slots that are below
pub below-push : (ss : List ℕ) (s n : ℕ) → AreBelow ss n → s < n → AreBelow (ss ++ s ∷ []) n
below-push ss s n h lt = λ k le.
    elim (cases_eq k (length ss)) [
      | inl e ↦ rw (get_or_push ss s 0 k (sym e)) lt
      | inr ne ↦ (let within : k < length ss = omega (arith, le, length_push ss s) in rw (get_or_append_left ss (s ∷ []) 0 k within) (h k within))
    ]

pub among-below : (s n : ℕ) (ss : List ℕ) → is_among s ss ≡ true → AreBelow ss n → s < n
among-below s n [] a h = absurd (cc)
among-below s n (t ∷ ss) a h =
    elim (cases-bool (t == s)) [
      | inl e ↦ (let k : t < n = h 0 (omega arith) in rw (same-true t s e) at k)
      | inr e ↦ among-below s n ss (rw e at a) (λ k lt. h (suc k) (omega arith))
    ]

pub among-push : (s : ℕ) (ss : List ℕ) (t : ℕ) → is_among s (ss ++ t ∷ []) ≡ is_among s (t ∷ ss)
among-push s [] t = refl
among-push s (u ∷ ss) t =
    elim (cases-bool (u == s)) [
      | inl e ↦ elim (cases-bool (t == s)) [
        | inl f ↦ rw (e, f) refl
        | inr f ↦ rw (e, f) refl
      ]
      | inr e ↦ rw (e, among-push s ss t) refl
    ]

-- a slot more at the start
pub start-push : (given images : List ℕ) (slot number : ℕ) → slot < length images → is_among slot given ≡ false →
    start_in (given ++ slot ∷ []) (set images slot number) ≡ start_in given images ++ (slot, number) ∷ []
start-push given images slot number lt none =
    let same : start_in given (set images slot number) ≡ start_in given images = start-same given images (set images slot number)
    (λ s a. get_or-set_other images slot s number 0 (λ e. absurd (let k : true ≡ false = sym a ∙ ap (λ i. is_among i given) e ∙ none in cc))) in
    map_push (λ s. (s, get_or (set images slot number) s 0)) given slot ∙ rw (same, get_or-set_same images slot number 0 lt) refl

pub record Bound (ts : TablesView) (cs : List Column) (ls : List CompiledLevel) (given images : List ℕ) (flags : List Bool) (ranges : List Range) (placed : List ℕ) (depth : ℕ) (now : Match) (slot number : ℕ) : Type 0 where
  pub holds : IsMatcher ts cs ls (given ++ slot ∷ []) (set images slot number) (set flags slot true) ranges placed depth
  pub view : seen_of ts cs ls (given ++ slot ∷ []) (set images slot number) placed depth ≡ record now { start = now.start ++ (slot, number) ∷ [] }

pub bound : (ts : TablesView) (cs : List Column) (ls : List CompiledLevel) (given images : List ℕ) (flags : List Bool)
    (ranges : List Range) (placed : List ℕ) (depth : ℕ) (now : Match) (slot number : ℕ) →
    seen_of ts cs ls given images placed depth ≡ now → IsMatcher ts cs ls given images flags ranges placed depth →
    now.levels ≡ [] → slot < now.slots → bound_to now.start slot ≡ None →
    Bound ts cs ls given images flags ranges placed depth now slot number
bound ts cs ls given images flags ranges placed depth now slot number v p levels lt unbound =
    let none : ls ≡ [] = nil_from_length ls (omega (arith, ap (λ s. length s.levels) v, ap length levels, length-map ls (level_in ts cs))) in
    let empty : depth ≡ 0 = omega (arith, p.deep, ap length none) in
    let below : slot < length images = omega (arith, lt, ap (λ s. s.slots) v) in
    let new : is_among slot given ≡ false = sym ((binds-start given images).slots_are slot) ∙ ap is_some (ap (λ s. bound_to s.start slot) v ∙ unbound) in
    let start : start_in (given ++ slot ∷ []) (set images slot number) ≡ start_in given images ++ (slot, number) ∷ [] = start-push given images slot number below new in
    let long : length (set images slot number) ≡ length images = length-set images slot number in
    let flagged : (s : ℕ) → get_or flags s false ≡ is_among s given = λ s. (let h = p.bound s in rw none at h) in
    record {
      holds = fresh ts cs ls (given ++ slot ∷ []) (set images slot number) (set flags slot true) ranges placed depth empty (length-set flags slot true ∙ p.flags_room ∙ sym long) p.ranges_room p.placed_room (rw long (below-push given slot (length images) p.given_below below))
          (rw none tt) (λ s. rw none (marked-at flags given slot s (omega (arith, p.flags_room, below)) (flagged s) ∙ sym (among-push s given slot))) (λ l r a b. absurd (let k = rw none at a in cc));
      view = (
          let longer : Match → Match = λ m. record m { start = m.start ++ (slot, number) ∷ [] } in
          rw (start, long) (ap longer v));
    }
