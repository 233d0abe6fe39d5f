-- Binding a row column by column, and one row after the other.
use Rattle.std.proofs.Common.{◌≡◌, ◌≢◌, ℕ, ◌+◌, ◌*◌, ◌<◌, ◌≤◌, Bool, true, false, List, [], ◌∷◌, length, take, drop, set, get_or, Option, Some, None, inl, inr, ◌-◌, refl, ap, sym, ◌∙◌, subst, arith}
use Rattle.std.proofs.lemmas.Bool.{cases_eq}
use Rattle.std.proofs.lemmas.List.{drop_more, drop_all}
use Rattle.eir_hom.specs.declared.columns.Column.{Column}
use Rattle.eir_hom.specs.Matching.{Bindings, bind_row}
use Rattle.eir_hom.specs.Columns.{slots_of, AreReady, Holds, Tried, Scanned, row_at}
use Rattle.eir_hom.proofs.ColumnLaws.{IsWithin, within-refl, within-trans, holds-within, Bound, ready-new, ready-same, ready-other}

-- i columns are bound
pub record Reached (m : Bindings) (cs : List Column) (row : List ℕ) (i : ℕ) (images : List ℕ) : Type 0 where
  pub next : Bindings
  pub same : bind_row next (slots_of (drop i cs)) (drop i row) ≡ bind_row m (slots_of cs) row
  pub within : IsWithin m next
  pub ready : AreReady next (drop i cs) images

pub reached-start : (m : Bindings) (cs : List Column) (row images : List ℕ) → AreReady m cs images →
    Reached m cs row 0 images
reached-start m cs row images r = record { next = m; same = refl; within = within-refl m; ready = r }

pub ready-at : (m : Bindings) (cs : List Column) (i : ℕ) (d : Column) (images : List ℕ) → i < length cs →
    AreReady m (drop i cs) images → AreReady m (get_or cs i d ∷ drop (i + 1) cs) images
ready-at m cs i d images lt r = subst (λ l. AreReady m l images) (drop_more cs i d lt) r

-- one more column that was bound
pub reached-more : (m : Bindings) (cs : List Column) (row : List ℕ) (i : ℕ) (d : Column) (images after : List ℕ) →
    i < length cs → length row ≡ length cs → (r : Reached m cs row i images) →
    Bound r.next (drop (i + 1) cs) after (get_or cs i d).slot (get_or row i 0) → Reached m cs row (i + 1) after
reached-more m cs row i d images after lt long r b = record {
  next = b.next;
  same = (
      let lr : i < length row = omega arith in
      let step : bind_row r.next (slots_of (get_or cs i d ∷ drop (i + 1) cs)) (get_or row i 0 ∷ drop (i + 1) row) ≡ bind_row b.next (slots_of (drop (i + 1) cs)) (drop (i + 1) row) = rw b.bound refl in
      sym step ∙ ap (λ l. bind_row r.next (slots_of l) (get_or row i 0 ∷ drop (i + 1) row)) (sym (drop_more cs i d lt)) ∙ ap (bind_row r.next (slots_of (drop i cs))) (sym (drop_more row i 0 lr)) ∙ r.same);
  within = within-trans m r.next b.next r.within b.within;
  ready = b.ready;
}

pub reached-new : (m : Bindings) (cs : List Column) (row : List ℕ) (i : ℕ) (d : Column) (images : List ℕ) →
    i < length cs → length row ≡ length cs → (get_or cs i d).slot < length images → (get_or cs i d).is_new ≡ true →
    Reached m cs row i images → Reached m cs row (i + 1) (set images (get_or cs i d).slot (get_or row i 0))
reached-new m cs row i d images lt long below new r =
    reached-more m cs row i d images _ lt long r (ready-new r.next (get_or cs i d) (drop (i + 1) cs) images (get_or row i 0) below new (ready-at r.next cs i d images lt r.ready))

pub reached-same : (m : Bindings) (cs : List Column) (row : List ℕ) (i : ℕ) (d : Column) (images : List ℕ) →
    i < length cs → length row ≡ length cs → (get_or cs i d).is_new ≡ false →
    get_or images (get_or cs i d).slot 0 ≡ get_or row i 0 →
    Reached m cs row i images → Reached m cs row (i + 1) images
reached-same m cs row i d images lt long old same r =
    reached-more m cs row i d images _ lt long r (ready-same r.next (get_or cs i d) (drop (i + 1) cs) images (get_or row i 0) old same (ready-at r.next cs i d images lt r.ready))

-- a column that cannot be bound
pub tried-other : (m : Bindings) (cs : List Column) (row : List ℕ) (i : ℕ) (d : Column) (images : List ℕ) →
    i < length cs → length row ≡ length cs → (get_or cs i d).is_new ≡ false →
    get_or images (get_or cs i d).slot 0 ≢ get_or row i 0 →
    Reached m cs row i images → Tried m cs row images false
tried-other m cs row i d images lt long old other r =
    let none = ready-other r.next (get_or cs i d) (drop (i + 1) cs) images (get_or row i 0) old other (ready-at r.next cs i d images lt r.ready) in
    let lr : i < length row = omega arith in
    let step : bind_row r.next (slots_of (get_or cs i d ∷ drop (i + 1) cs)) (get_or row i 0 ∷ drop (i + 1) row) ≡ None = rw none refl in (
      sym r.same ∙ ap (λ l. bind_row r.next (slots_of l) (drop i row)) (drop_more cs i d lt) ∙ ap (bind_row r.next (slots_of (get_or cs i d ∷ drop (i + 1) cs))) (drop_more row i 0 lr) ∙ step,
      holds-within images m r.next r.within r.ready.holds,
    )

-- all columns are bound
pub tried-all : (m : Bindings) (cs : List Column) (row : List ℕ) (i : ℕ) (images : List ℕ) → length cs ≤ i →
    length row ≡ length cs → Reached m cs row i images → Tried m cs row images true
tried-all m cs row i images le long r =
    let lr : length row ≤ i = omega arith in (
      r.next,
      sym r.same ∙ ap (λ l. bind_row r.next (slots_of l) (drop i row)) (drop_all i cs le) ∙ ap (bind_row r.next []) (drop_all i row lr),
      r.ready.holds,
    )

-- the first rows cannot be bound
pub record Scanning (m : Bindings) (cs : List Column) (row : ℕ → List ℕ) (from k : ℕ) (images : List ℕ) : Type 0 where
  pub bad : (j : ℕ) → from ≤ j → j < k → bind_row m (slots_of cs) (row j) ≡ None
  pub ready : AreReady m cs images

pub scanning-start : (m : Bindings) (cs : List Column) (row : ℕ → List ℕ) (from : ℕ) (images : List ℕ) →
    AreReady m cs images → Scanning m cs row from from images
scanning-start m cs row from images r = record { bad = λ j f t. absurd (omega arith); ready = r }

pub ready-after : (m : Bindings) (cs : List Column) (images after : List ℕ) → Holds after m → AreReady m cs images →
    AreReady m cs after
ready-after m cs images after h r = record { seen = r.seen; binds = r.binds; columns = r.columns; holds = h }

pub scanning-more : (m : Bindings) (cs : List Column) (row : ℕ → List ℕ) (from k : ℕ) (images after : List ℕ) →
    Tried m cs (row k) after false → Scanning m cs row from k images → Scanning m cs row from (k + 1) after
scanning-more m cs row from k images after t s = record {
  bad = λ j f lt.
      elim (cases_eq j k) [
        | inl e ↦ ap (λ i. bind_row m (slots_of cs) (row i)) e ∙ t.0
        | inr ne ↦ s.bad j f (omega arith)
      ];
  ready = ready-after m cs images after t.1 s.ready;
}

pub scanned-at : (m : Bindings) (cs : List Column) (row : ℕ → List ℕ) (from to k : ℕ) (images after : List ℕ) →
    k < to → Tried m cs (row k) after true → Scanning m cs row from k images → Scanned m cs row from to k after
scanned-at m cs row from to k images after lt t s = record { bad = s.bad; good = λ _. t; none = λ e. absurd (omega arith) }

pub scanned-none : (m : Bindings) (cs : List Column) (row : ℕ → List ℕ) (from to k : ℕ) (images : List ℕ) → k ≡ to →
    Scanning m cs row from k images → Scanned m cs row from to to images
scanned-none m cs row from to k images e s = record { bad = λ j f lt. s.bad j f (omega arith); good = λ lt. absurd (omega arith); none = λ _. s.ready.holds }

-- one column that is bound before
single-is : (cs : List Column) (d : Column) → length cs ≡ 1 → cs ≡ get_or cs 0 d ∷ []
single-is [] d e = absurd (omega arith)
single-is (c ∷ []) d e = refl
single-is (c ∷ b ∷ cs) d e = absurd (omega arith)

row-single : (cells : List ℕ) (first n k : ℕ) → n ≡ 1 → first + k < length cells →
    row_at cells first n k ≡ get_or cells (first + k) 0 ∷ []
row-single cells first n k e lt =
    let at : first + k * 1 ≡ first + k = omega arith in
    rw (e, at, drop_more cells (first + k) 0 lt) refl

pub scanned-single : (m : Bindings) (cs : List Column) (d : Column) (cells : List ℕ) (first from to found : ℕ)
    (images : List ℕ) → length cs ≡ 1 → (get_or cs 0 d).is_new ≡ false → first + to ≤ length cells →
    first + from ≤ found → found ≤ first + to →
    ((k : ℕ) → first + from ≤ k → k < found → get_or cells k 0 ≢ get_or images (get_or cs 0 d).slot 0) →
    (found < first + to → get_or cells found 0 ≡ get_or images (get_or cs 0 d).slot 0) →
    AreReady m cs images → Scanned m cs (row_at cells first (length cs)) from to (found - first) images
scanned-single m cs d cells first from to found images one old within ge le other same r =
    let c = get_or cs 0 d in
    let ready : AreReady m (c ∷ []) images = subst (λ l. AreReady m l images) (single-is cs d one) r in
    let bound = λ (j : ℕ) (o : Option Bindings) (lt : first + j < length cells) (e : bind_row m (slots_of (c ∷ [])) (get_or cells (first + j) 0 ∷ []) ≡ o).
    ap (λ l. bind_row m (slots_of l) (row_at cells first (length cs) j)) (single-is cs d one) ∙ ap (bind_row m (slots_of (c ∷ []))) (row-single cells first (length cs) j one lt) ∙ e in
    let at : first + (found - first) ≡ found = omega arith in
    record {
      bad = λ j f lt.
          (let ne : get_or images c.slot 0 ≢ get_or cells (first + j) 0 = λ e. other (first + j) (omega arith) (omega arith) (sym e) in
          bound j None (omega arith) (rw (ready-other m c [] images (get_or cells (first + j) 0) old ne ready) refl));
      good = λ lt.
          (let e : get_or images c.slot 0 ≡ get_or cells (first + (found - first)) 0 = rw at (sym (same (omega arith))) in
          let b = ready-same m c [] images (get_or cells (first + (found - first)) 0) old e ready in
          (b.next, bound (found - first) (Some b.next) (omega arith) (rw b.bound refl), b.ready.holds));
      none = λ e. r.holds;
    }

-- the row k as the part of the cells that it is
pub tried-part : (m : Bindings) (cs : List Column) (cells : List ℕ) (first n k : ℕ) (images : List ℕ) (b : Bool) →
    Tried m cs (take (first + k * n + n - (first + k * n)) (drop (first + k * n) cells)) images b →
    Tried m cs (row_at cells first n k) images b
tried-part m cs cells first n k images b t =
    let e : first + k * n + n - (first + k * n) ≡ n = omega arith in
    subst (λ (i : ℕ). Tried m cs (take i (drop (first + k * n) cells)) images b) e t
