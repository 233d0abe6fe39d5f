-- What is matched after more and after fewer choices.
use Rattle.std.proofs.Common.{◌≡◌, ℕ, zero, suc, ◌+◌, ◌*◌, ◌<◌, ◌≤◌, ◌==◌, List, [], ◌∷◌, ◌++◌, length, take, drop, Option, Some, None, option_and_then, slice_get, inl, inr, refl, ap, ◌∙◌, subst, arith}
use Rattle.std.specs.List.{range_with_len}
use Rattle.std.proofs.lemmas.List.FromFn.{get_or-range_with_len, length-range_with_len}
use Rattle.std.proofs.lemmas.Option.{slice_get-get_or, slice_get-map}
use Rattle.eir_hom.specs.declared.tables.Range.{Range}
use Rattle.eir_hom.specs.Tables.{rows_in}
use Rattle.eir_hom.specs.Matching.{Level, Bindings, bound_to, bind_slot, bind_row, rows_at, matched}
use Rattle.eir_hom.specs.Columns.{seen_after, Binds}
use Rattle.eir_hom.proofs.ColumnLaws.{cases-option, cases-bool, bound-kept, IsWithin, within-refl, within-trans, binds-new, binds-again}

pub and_then-some : {X : Type 0} (o : Option X) → option_and_then (λ x. Some x) o ≡ o
and_then-some None = refl
and_then-some (Some x) = refl

-- what binding a slot keeps
pub slot-within : (m n : Bindings) (s w : ℕ) → bind_slot m s w ≡ Some n → IsWithin m n
slot-within m n s w h =
    elim (cases-option (bound_to m s)) [
      | inl none ↦ (let e : m ++ (s, w) ∷ [] ≡ n = (let k = rw none at h in cc) in subst (λ o. IsWithin m o) e (record { kept = λ t u b. bound-kept m (s, w) t u b }))
      | inr (u, some) ↦ elim (cases-bool (u == w)) [
        | inl same ↦ (let e : m ≡ n = (let k = rw (some, same) at h in cc) in subst (λ o. IsWithin m o) e (within-refl m))
        | inr other ↦ absurd (let k = rw (some, other) at h in cc)
      ]
    ]

pub slot-binds : (m n : Bindings) (s w : ℕ) (seen : List ℕ) → bind_slot m s w ≡ Some n → Binds m seen →
    Binds n (s ∷ seen)
slot-binds m n s w seen h b =
    elim (cases-option (bound_to m s)) [
      | inl none ↦ (let e : m ++ (s, w) ∷ [] ≡ n = (let k = rw none at h in cc) in subst (λ o. Binds o (s ∷ seen)) e (binds-new m seen s w none b))
      | inr (u, some) ↦ elim (cases-bool (u == w)) [
        | inl same ↦ (let e : m ≡ n = (let k = rw (some, same) at h in cc) in subst (λ o. Binds o (s ∷ seen)) e (binds-again m seen s u some b))
        | inr other ↦ absurd (let k = rw (some, other) at h in cc)
      ]
    ]

pub row-within : (m n : Bindings) (ss ws : List ℕ) → bind_row m ss ws ≡ Some n → IsWithin m n
row-within m n [] [] h = (let e : m ≡ n = cc in subst (λ o. IsWithin m o) e (within-refl m))
row-within m n [] (w ∷ ws) h = absurd (cc)
row-within m n (s ∷ ss) [] h = absurd (cc)
row-within m n (s ∷ ss) (w ∷ ws) h =
    elim (cases-option (bind_slot m s w)) [
      | inl none ↦ absurd (let k = rw none at h in cc)
      | inr (o, some) ↦ within-trans m o n (slot-within m o s w some) (row-within o n ss ws (rw some at h))
    ]

pub row-binds : (m n : Bindings) (ss ws seen : List ℕ) → bind_row m ss ws ≡ Some n → Binds m seen →
    Binds n (seen_after seen ss)
row-binds m n [] [] seen h b = (let e : m ≡ n = cc in subst (λ o. Binds o seen) e b)
row-binds m n [] (w ∷ ws) seen h b = absurd (cc)
row-binds m n (s ∷ ss) [] seen h b = absurd (cc)
row-binds m n (s ∷ ss) (w ∷ ws) seen h b =
    elim (cases-option (bind_slot m s w)) [
      | inl none ↦ absurd (let k = rw none at h in cc)
      | inr (o, some) ↦ row-binds o n ss ws (s ∷ seen) (rw some at h) (slot-binds m o s w seen some b)
    ]

-- the first of several choices
pub record First (l : Level) (ls : List Level) (m : Bindings) (c : ℕ) (cs : List ℕ) (n : Bindings) : Type 0 where
  pub row : List ℕ
  pub next : Bindings
  pub row_is : slice_get (rows_at l m) c ≡ Some row
  pub next_is : bind_row m l.slots row ≡ Some next
  pub rest : matched ls next cs ≡ Some n

pub first-of : (l : Level) (ls : List Level) (m : Bindings) (c : ℕ) (cs : List ℕ) (n : Bindings) →
    matched (l ∷ ls) m (c ∷ cs) ≡ Some n → First l ls m c cs n
first-of l ls m c cs n h =
    elim (cases-option (slice_get (rows_at l m) c)) [
      | inl none ↦ absurd (let k = rw none at h in cc)
      | inr (row, is) ↦ elim (cases-option (bind_row m l.slots row)) [
        | inl none ↦ absurd (let k = rw (is, none) at h in cc)
        | inr (next, some) ↦ record { row = row; next = next; row_is = is; next_is = some; rest = rw (is, some) at h }
      ]
    ]

pub first-is : (l : Level) (ls : List Level) (m : Bindings) (c : ℕ) (cs : List ℕ) (row : List ℕ) (next : Bindings) →
    slice_get (rows_at l m) c ≡ Some row → bind_row m l.slots row ≡ Some next →
    matched (l ∷ ls) m (c ∷ cs) ≡ matched ls next cs
first-is l ls m c cs row next a b = rw (a, b) refl

-- one choice more
pub matched-row : (ls : List Level) (m : Bindings) (cs : List ℕ) (c : ℕ) (n : Bindings) (l : Level) (row : List ℕ) →
    matched ls m cs ≡ Some n → slice_get ls (length cs) ≡ Some l → slice_get (rows_at l n) c ≡ Some row →
    matched ls m (cs ++ c ∷ []) ≡ bind_row n l.slots row
matched-row [] m [] c n l row h at is = absurd (cc)
matched-row [] m (d ∷ cs) c n l row h at is = absurd (cc)
matched-row (k ∷ ls) m [] c n l row h at is =
    let mn : n ≡ m = cc in
    let kl : l ≡ k = cc in
    let e : slice_get (rows_at k m) c ≡ Some row = subst (λ j. slice_get (rows_at j m) c ≡ Some row) kl (subst (λ o. slice_get (rows_at l o) c ≡ Some row) mn is) in
    rw (e, mn, kl) (and_then-some (bind_row m k.slots row))
matched-row (k ∷ ls) m (d ∷ cs) c n l row h at is =
    let f = first-of k ls m d cs n h in
    first-is k ls m d (cs ++ c ∷ []) f.row f.next f.row_is f.next_is ∙ matched-row ls f.next cs c n l row f.rest at is

pub matched-within : (ls : List Level) (m : Bindings) (cs : List ℕ) (n : Bindings) → matched ls m cs ≡ Some n →
    IsWithin m n
matched-within ls m [] n h = (let e : m ≡ n = cc in subst (λ o. IsWithin m o) e (within-refl m))
matched-within [] m (c ∷ cs) n h = absurd (cc)
matched-within (l ∷ ls) m (c ∷ cs) n h =
    let f = first-of l ls m c cs n h in
    within-trans m f.next n (row-within m f.next l.slots f.row f.next_is) (matched-within ls f.next cs n f.rest)

-- fewer choices
pub record Fewer (ls : List Level) (m : Bindings) (cs : List ℕ) (n : Bindings) : Type 0 where
  pub before : Bindings
  pub matches : matched ls m cs ≡ Some before
  pub within : IsWithin before n

pub matched-take : (k : ℕ) (ls : List Level) (m : Bindings) (cs : List ℕ) (n : Bindings) → matched ls m cs ≡ Some n →
    Fewer ls m (take k cs) n
matched-take zero ls m cs n h = record { before = m; matches = refl; within = matched-within ls m cs n h }
matched-take (suc k) ls m [] n h = record { before = m; matches = refl; within = matched-within ls m [] n h }
matched-take (suc k) [] m (c ∷ cs) n h = absurd (cc)
matched-take (suc k) (l ∷ ls) m (c ∷ cs) n h =
    let f = first-of l ls m c cs n h in
    let r = matched-take k ls f.next cs n f.rest in
    record { before = r.before; matches = first-is l ls m c (take k cs) f.row f.next f.row_is f.next_is ∙ r.matches; within = r.within }

-- a level at the end changes nothing for choices of the others
pub matched-append : (ls : List Level) (l : Level) (m : Bindings) (cs : List ℕ) → length cs ≤ length ls →
    matched (ls ++ l ∷ []) m cs ≡ matched ls m cs
matched-append ls l m [] le = refl
matched-append [] l m (c ∷ cs) le = absurd (omega arith)
matched-append (k ∷ ls) l m (c ∷ cs) le = and_then-same (slice_get (rows_at k m) c) _ _ (λ row. and_then-same (bind_row m k.slots row) _ _ (λ n. matched-append ls l n cs (omega arith)))
  where
    and_then-same : {X Y : Type 0} (o : Option X) (f g : X → Option Y) → ((x : X) → f x ≡ g x) →
        option_and_then f o ≡ option_and_then g o
    and_then-same None f g h = refl
    and_then-same (Some x) f g h = h x

-- the rows of a range
pub slice_get-rows : (xs : List ℕ) (n : ℕ) (r : Range) (k : ℕ) → k < r.count →
    slice_get (rows_in xs n r) k ≡ Some (take n (drop (r.first + k * n) xs))
slice_get-rows xs n r k lt =
    let long : k < length (range_with_len 0 r.count) = omega (arith, length-range_with_len 0 r.count) in
    let zero_more : 0 + k ≡ k = omega arith in
    let at : slice_get (range_with_len 0 r.count) k ≡ Some k = slice_get-get_or (range_with_len 0 r.count) k 0 long ∙ ap Some (get_or-range_with_len 0 r.count k 0 lt ∙ zero_more) in
    slice_get-map (λ c. take n (drop (r.first + c * n) xs)) (range_with_len 0 r.count) k ∙ rw at refl

-- levels behind those that are placed change nothing
pub matched-more : (ls more : List Level) (m : Bindings) (cs : List ℕ) → length cs ≤ length ls → matched (ls ++ more) m cs ≡ matched ls m cs
matched-more ls more m [] h = refl
matched-more [] more m (c ∷ cs) h = absurd (omega arith)
matched-more (l ∷ ls) more m (c ∷ cs) h = elim (cases-option (slice_get (rows_at l m) c)) [
  | inl none ↦ rw none refl
  | inr (row, some) ↦ elim (cases-option (bind_row m l.slots row)) [
    | inl none ↦ rw (some, none) refl
    | inr (n, there) ↦ rw (some, there) (matched-more ls more n cs (omega arith))
  ]
]
