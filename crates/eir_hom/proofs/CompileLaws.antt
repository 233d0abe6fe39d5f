-- From the drafts of levels to the levels. The points are `course-levels` and `course-ready`.
use Rattle.std.proofs.Common.{◌≡◌, ◌≢◌, ◌<◌, ◌⊎◌, ℕ, zero, suc, ◌+◌, ◌==◌, ◌||◌, Bool, true, false, cond, List, [], ◌∷◌, ◌++◌, map, take, set, length, get_or, Option, Some, None, is_some, option_map, unwrap_or, slice_get, refl, sym, ap, ap₂, ◌∙◌, subst, inl, inr, append_assoc, length-append, arith}
use Rattle.std.specs.List.{list_any, cons_option, sum_by}
use Rattle.std.proofs.lemmas.Bool.{cases_Bool, cases_eq, false≢true}
use Rattle.std.proofs.lemmas.List.{take_at, get_or-map, get_or-set_same, get_or-set_other, length-map, length-set}
use Rattle.std.proofs.lemmas.List.Elements.{filter_map-append}
use Rattle.std.proofs.lemmas.List.Sums.{sum_by-cons}
use Rattle.std.proofs.lemmas.List.Folds.{list_any-append}
use Rattle.eir_term.specs.declared.val.Val.{Val}
use Rattle.eir_term.specs.declared.fact.Fact.{Fact}
use Rattle.eir_term.specs.Lists.{◌∈◌}
use Rattle.eir_term.specs.Values.{val_eq, val_eq-decides, is_fixed}
use Rattle.eir_term.specs.Instances.{values}
use Rattle.eir_term.specs.Maps.{get, image}
use Rattle.eir_term.specs.Bind.{facts_at}
use Rattle.eir_term.specs.Plans.{is_known, plan, listed_first}
use Rattle.eir_term.proofs.PlanLaws.{plan-below}
use Rattle.eir_hom.specs.declared.course.Shape.{Shape}
use Rattle.eir_hom.specs.Matching.{Level, Match}
use Rattle.eir_hom.specs.Tables.{Table}
use Rattle.eir_hom.specs.Columns.{is_among, seen_after}
use Rattle.eir_hom.specs.FactRows.{numbers_at, row_at, Within}
use Rattle.eir_hom.specs.Levels.{number, first_known, but_at, slot_of, key_column, level_at, level_of, levels_from, levels_of, bindings_of}
use Rattle.eir_hom.specs.Stocks.{no_table, fact_table, shape_table, row_length, IsShape, AreShapes}
use Rattle.eir_hom.specs.Courses.{shapes_of}
use Rattle.eir_hom.specs.Lazy.{all_levels}
use Rattle.eir_hom.specs.Compiling.{Draft, given_image, drafts_of, first_set, marked, shapes_by, slot_in, draft_level, bindings_from, ArePlaces, AreDrafts, AreReadyDrafts}
use Rattle.eir_hom.proofs.ColumnLaws.{same-refl}
use Rattle.eir_hom.proofs.StockLaws.{get_or-found, slice_get-there, number-found, numbers-are, args-among, length-but_at, stride-is}
use Rattle.eir_hom.proofs.StartLaws.{map-at}
use Rattle.eir_hom.proofs.ImageLaws.{bindings-are}
use Rattle.eir_hom.proofs.DraftingLaws.{drafts-are}

or-false : (b : Bool) → (b || false) ≡ b
or-false true = refl
or-false false = refl

or-true : (b : Bool) → (b || true) ≡ true
or-true true = refl
or-true false = refl

or-last : (a b c d : Bool) → (a || (b || (c || d))) ≡ ((a || (b || c)) || d)
or-last true b c d = refl
or-last false true c d = refl
or-last false false c d = refl

some-if : (b : Bool) (n : ℕ) → is_some (cond b (Some n) None) ≡ b
some-if true n = refl
some-if false n = refl

-- a value's number is one, and no other's
number-below : (A : List Fact) (v : Val) → v ∈ values A → number A v < length (values A)
number-below A v h = (get_or-found (values A) (number A v) v v (number-found A v h)).0

number-apart : (A : List Fact) (u v : Val) → u ∈ values A → v ∈ values A → number A u ≡ number A v → u ≡ v
number-apart A u v hu hv e =
    let s : Some u ≡ Some v = sym (number-found A u hu) ∙ ap (slice_get (values A)) e ∙ number-found A v hv in cc

length-marked : (known : List Bool) (ns : List ℕ) → length (marked known ns) ≡ length known
length-marked known [] = refl
length-marked known (n ∷ ns) = length-marked (set known n true) ns ∙ length-set known n true

-- the flags say which values are known where these facts are listed
abbrev pub AreFlags : List Fact → List (Val × Val) → List Fact → List Bool → Type 0
AreFlags A start listed known = (v : Val) → v ∈ values A → get_or known (number A v) false ≡ is_known start listed v

-- after marking, the flags of these values are set too
marked-known : (A : List Fact) (v : Val) (vs : List Val) (known : List Bool) → v ∈ values A → ((u : Val) → u ∈ vs → u ∈ values A) → length known ≡ length (values A) →
    get_or (marked known (map (number A) vs)) (number A v) false ≡ (get_or known (number A v) false || list_any (val_eq v) vs)
marked-known A v [] known h all l = sym (or-false (get_or known (number A v) false))
marked-known A v (u ∷ us) known h all l =
    let hu = all u (inl refl) in
    let below : number A u < length known = omega (arith, number-below A u hu) in
    let next = set known (number A u) true in
    let rest = marked-known A v us next h (λ w i. all w (inr i)) (length-set known (number A u) true ∙ l) in
    elim (cases_Bool (val_eq v u)) [
      | inl t ↦ (
          let e : number A u ≡ number A v = ap (number A) (sym ((val_eq-decides v u).0 t)) in
          let here : get_or next (number A v) false ≡ true = ap (λ k. get_or next k false) (sym e) ∙ get_or-set_same known (number A u) true false below in
          rest ∙ ap (λ b. b || list_any (val_eq v) us) here ∙ sym (ap (λ b. get_or known (number A v) false || (b || list_any (val_eq v) us)) t ∙ or-true (get_or known (number A v) false))
          )
      | inr f ↦ (
          let apart : number A v ≢ number A u = λ e. false≢true (sym f ∙ (val_eq-decides v u).1 (number-apart A v u h hu e)) in
          rest ∙ ap (λ b. b || list_any (val_eq v) us) (get_or-set_other known (number A u) (number A v) true false apart) ∙ sym (ap (λ b. get_or known (number A v) false || (b || list_any (val_eq v) us)) f)
          )
    ]

-- one fact more is listed
known-more : (start : List (Val × Val)) (listed : List Fact) (f : Fact) (v : Val) → is_known start (listed ++ f ∷ []) v ≡ (is_known start listed v || list_any (val_eq v) f.args)
known-more start listed f v =
    let has : Fact → Bool = λ g. list_any (val_eq v) g.args in
    ap (λ b. is_fixed v || (is_some (get start v) || b)) (list_any-append has listed (f ∷ []) ∙ ap (λ b. list_any has listed || b) (or-false (has f)))
    ∙ or-last (is_fixed v) (is_some (get start v)) (list_any has listed) (has f)

flags-more : (A : List Fact) (start : List (Val × Val)) (listed : List Fact) (known : List Bool) (p : ℕ) (f : Fact) → slice_get A p ≡ Some f → length known ≡ length (values A) →
    AreFlags A start listed known → AreFlags A start (listed ++ f ∷ []) (marked known (numbers_at A p))
flags-more A start listed known p f e l flags v h =
    ap (λ ns. get_or (marked known ns) (number A v) false) (numbers-are A p f e)
    ∙ marked-known A v f.args known h (args-among A p f e) l
    ∙ ap (λ b. b || list_any (val_eq v) f.args) (flags v h)
    ∙ sym (known-more start listed f v)

flags-start : (A B : List Fact) (start : List (Val × Val)) (images : List (Option ℕ)) → images ≡ map (given_image B start) (values A) → AreFlags A start [] (map is_some images)
flags-start A B start images e v h =
    let given : List (Option ℕ) = map (given_image B start) (values A) in
    let below : number A v < length given = omega (arith, length-map (values A) (given_image B start), number-below A v h) in
    ap (λ is. get_or (map is_some is) (number A v) false) e
    ∙ get_or-map is_some given (number A v) None false below
    ∙ ap is_some (map-at (given_image B start) (values A) (number A v) v (number-found A v h))
    ∙ some-if (is_known start [] v) (number B (image start v))

-- the first marked number is that of the first known value
first-known : (A : List Fact) (known : List Bool) (test : Val → Bool) (p : ℕ) (vs : List Val) → ((v : Val) → v ∈ vs → get_or known (number A v) false ≡ test v) →
    first_set known p (map (number A) vs) ≡ first_known test p vs
first-known A known test p [] all = refl
first-known A known test p (v ∷ vs) all =
    ap₂ (λ b o. cond b (Some p) o) (all v (inl refl)) (first-known A known test (suc p) vs (λ u h. all u (inr h)))

-- the column of the first marked number is one, and its number is marked
first-within : (known : List Bool) (p : ℕ) (ns : List ℕ) (i : ℕ) → first_set known p ns ≡ Some i →
    (k : ℕ) × (i ≡ p + k) × (k < length ns) × (get_or known (get_or ns k 0) false ≡ true)
first-within known p [] i e = absurd (let z : Some i ≡ None = sym e in cc)
first-within known p (n ∷ ns) i e = elim (cases_Bool (get_or known n false)) [
  | inl t ↦ (
      let z : Some p ≡ Some i = sym (ap (λ b. cond b (Some p) (first_set known (suc p) ns)) t) ∙ e in
      let y : p ≡ i = cc in
      (0, omega (arith, y), omega arith, t)
      )
  | inr f ↦ (
      let r = first-within known (suc p) ns i (sym (ap (λ b. cond b (Some p) (first_set known (suc p) ns)) f) ∙ e) in
      (suc r.0, omega (arith, r.1), omega (arith, r.2), r.3)
      )
]

column-within : (known : List Bool) (ns : List ℕ) → Within (first_set known 0 ns) ns
column-within known ns = by (first_set known 0 ns) refl
  where
    by : (o : Option ℕ) → first_set known 0 ns ≡ o → Within o ns
    by None e = tt
    by (Some i) e = let r = first-within known 0 ns i e in omega (arith, r.1, r.2)

-- the slot of the key
slot-is : (A : List Fact) (f : Fact) (c : Option ℕ) → Within c (map (number A) f.args) → slot_in (length (values A)) c (map (number A) f.args) ≡ slot_of A f c
slot-is A f None w = refl
slot-is A f (Some i) w =
    let below : i < length f.args = omega (arith, length-map f.args (number A)) in
    let v = slice_get-there f.args i below in
    get_or-map (number A) f.args i v.0 0 below
    ∙ ap (number A) (get_or-found f.args i v.0 v.0 v.1).1
    ∙ sym (ap (λ o. unwrap_or (option_map (number A) o) (length (values A))) v.1)

-- the level of a shape, with the rows of a table
abbrev level_by : List Fact → Shape → Table → Level
level_by A s t = record {
  key = slot_in (length (values A)) s.column (numbers_at A s.place);
  slots = row_at A s.column s.place;
  rows = t.rows;
}

abbrev level_with : ℕ → List ℕ → List (List (List ℕ)) → Level
level_with key slots rows = record { key = key; slots = slots; rows = rows }

shape-level : (A B : List Fact) (p : ℕ) (f : Fact) (c : Option ℕ) → slice_get A p ≡ Some f → Within c (numbers_at A p) →
    level_by A (record { place = p; column = c }) (shape_table A B (record { place = p; column = c })) ≡ level_at A B f c
shape-level A B p f c e w =
    let ns = numbers-are A p f e in
    ap (λ t. level_by A (record { place = p; column = c }) t) (ap (λ o. unwrap_or (option_map (fact_table A B c) o) no_table) e)
    ∙ ap (λ xs. level_with (slot_in (length (values A)) c xs) (but_at c xs) (fact_table A B c f).rows) ns
    ∙ ap (λ k. level_with k (but_at c (map (number A) f.args)) (fact_table A B c f).rows) (slot-is A f c (subst (Within c) ns w))

-- the level of a draft
draft-level : (A B : List Fact) (start : List (Val × Val)) (ts : List Table) (d : Draft) (known : List Bool) (p k : ℕ) (f : Fact) → slice_get A p ≡ Some f →
    d.shape ≡ record { place = p; column = first_set known 0 (numbers_at A p) } → get_or ts d.table no_table ≡ shape_table A B (record { place = p; column = first_set known 0 (numbers_at A p) }) →
    AreFlags A start (listed_first A B start k) known → draft_level A ts d ≡ level_of A B start k f
draft-level A B start ts d known p k f e shape table flags =
    let c = first_set known 0 (numbers_at A p) in
    let column : c ≡ key_column A B start k f =
    ap (first_set known 0) (numbers-are A p f e) ∙ first-known A known (is_known start (listed_first A B start k)) 0 f.args (λ v h. flags v (args-among A p f e v h)) in
    ap₂ (level_by A) shape table
    ∙ shape-level A B p f c e (column-within known (numbers_at A p))
    ∙ ap (level_at A B f) column

module _ (A B : List Fact) (start : List (Val × Val)) (ts : List Table) where
  levels-from : (done ps : List ℕ) (known : List Bool) (ds : List Draft) → plan A B start ≡ done ++ ps → ((p : ℕ) → p ∈ ps → p < length A) → length known ≡ length (values A) →
      AreFlags A start (facts_at A done) known → AreDrafts A B ts ds (shapes_by A known ps) → map (draft_level A ts) ds ≡ levels_from A B start (length done) (facts_at A ps)
  levels-from done [] known [] e below l flags a = refl
  levels-from done [] known (d ∷ ds) e below l flags a = absurd a
  levels-from done (p ∷ ps) known [] e below l flags a = absurd a
  levels-from done (p ∷ ps) known (d ∷ ds) e below l flags a =
      let t = slice_get-there A p (below p (inl refl)) in
      let f = t.0 in
      let listed : listed_first A B start (length done) ≡ facts_at A done = ap (facts_at A) (ap (take (length done)) e ∙ take_at done (p ∷ ps) (length done) refl) in
      let more : facts_at A (done ++ p ∷ []) ≡ facts_at A done ++ f ∷ [] = filter_map-append (slice_get A) done (p ∷ []) ∙ ap (λ o. facts_at A done ++ cons_option o []) t.1 in
      let long : length (done ++ p ∷ []) ≡ suc (length done) = omega (arith, length-append done (p ∷ [])) in
      let after = subst (λ fs. AreFlags A start fs (marked known (numbers_at A p))) (sym more) (flags-more A start (facts_at A done) known p f t.1 l flags) in
      let rest = levels-from (done ++ p ∷ []) ps (marked known (numbers_at A p)) ds (e ∙ sym (append_assoc done (p ∷ []) ps)) (λ q h. below q (inr h)) (length-marked known (numbers_at A p) ∙ l) after a.3 in
      let head = draft-level A B start ts d known p (length done) f t.1 a.0 a.2 (subst (λ fs. AreFlags A start fs known) (sym listed) flags) in
      ap₂ (λ x xs. x ∷ xs) head (rest ∙ ap (λ n. levels_from A B start n (facts_at A ps)) long)
      ∙ sym (ap (λ o. levels_from A B start (length done) (cons_option o (facts_at A ps))) t.1)

  -- the drafts in plan order have the levels
  pub levels-are : (order : List ℕ) (images : List (Option ℕ)) (ds : List Draft) → order ≡ plan A B start → images ≡ map (given_image B start) (values A) →
      AreDrafts A B ts ds (shapes_by A (map is_some images) order) → map (draft_level A ts) ds ≡ levels_of A B start
  levels-are order images ds o e a =
      let l : length (map is_some images) ≡ length (values A) = length-map images is_some ∙ ap length e ∙ length-map (values A) (given_image B start) in
      levels-from [] order (map is_some images) ds (sym o) (λ p h. plan-below A B start p (subst (λ ps. p ∈ ps) o h)) l (flags-start A B start images e) a
      ∙ ap (λ ps. levels_from A B start 0 (facts_at A ps)) o

-- what is planned are places
pub planned-places : (A B : List Fact) (start : List (Val × Val)) (order : List ℕ) → order ≡ plan A B start → ArePlaces A order
planned-places A B start order o = places-from order (λ p h. plan-below A B start p (subst (λ ps. p ∈ ps) o h))
  where
    places-from : (ps : List ℕ) → ((p : ℕ) → p ∈ ps → p < length A) → ArePlaces A ps
    places-from [] below = tt
    places-from (p ∷ ps) below = (below p (inl refl), places-from ps (λ q h. below q (inr h)))

-- slots that are bound stay so
among-more : (n s : ℕ) (seen : List ℕ) → is_among n seen ≡ true → is_among n (s ∷ seen) ≡ true
among-more n s seen h = elim (cases_Bool (s == n)) [ inl t ↦ rw t refl | inr f ↦ rw f h ]

among-first : (n s : ℕ) (seen : List ℕ) → n ≡ s → is_among n (s ∷ seen) ≡ true
among-first n s seen e = let t : (s == n) ≡ true = ap (λ k. s == k) e ∙ same-refl s in rw t refl

among-kept : (n : ℕ) (seen ss : List ℕ) → is_among n seen ≡ true → is_among n (seen_after seen ss) ≡ true
among-kept n seen [] h = h
among-kept n seen (s ∷ ss) h = among-kept n (s ∷ seen) ss (among-more n s seen h)

among-new : (n : ℕ) (seen ss : List ℕ) → n ∈ ss → is_among n (seen_after seen ss) ≡ true
among-new n seen [] h = absurd h
among-new n seen (s ∷ ss) (inl e) = among-kept n (s ∷ seen) ss (among-first n s seen e)
among-new n seen (s ∷ ss) (inr h) = among-new n (s ∷ seen) ss h

-- what is marked was so, or is one of these
marked-from : (known : List Bool) (ns : List ℕ) (n : ℕ) → get_or (marked known ns) n false ≡ true → (get_or known n false ≡ true) ⊎ (n ∈ ns)
marked-from known [] n h = inl h
marked-from known (m ∷ ns) n h = elim (marked-from (set known m true) ns n h) [
  | inl k ↦ elim (cases_eq n m) [ inl e ↦ inr (inl e) | inr ne ↦ inl (sym (get_or-set_other known m n true false ne) ∙ k) ]
  | inr i ↦ inr (inr i)
]

-- an element that is not left stands at the column
∈-but_at : (i : ℕ) (ns : List ℕ) (n : ℕ) → n ∈ ns → (n ∈ but_at (Some i) ns) ⊎ (n ≡ get_or ns i 0)
∈-but_at i [] n h = absurd h
∈-but_at zero (m ∷ ms) n (inl e) = inr e
∈-but_at zero (m ∷ ms) n (inr h) = inl h
∈-but_at (suc i) (m ∷ ms) n (inl e) = inl (inl e)
∈-but_at (suc i) (m ∷ ms) n (inr h) = elim (∈-but_at i ms n h) [ inl k ↦ inl (inr k) | inr e ↦ inr e ]

-- the key is bound where each marked number and the slot of no value are
key-among : (known : List Bool) (ns seen : List ℕ) (none : ℕ) → is_among none seen ≡ true → ((n : ℕ) → get_or known n false ≡ true → is_among n seen ≡ true) →
    is_among (slot_in none (first_set known 0 ns) ns) seen ≡ true
key-among known ns seen none there keys = by (first_set known 0 ns) refl
  where
    by : (o : Option ℕ) → first_set known 0 ns ≡ o → is_among (slot_in none o ns) seen ≡ true
    by None e = there
    by (Some i) e =
        let r = first-within known 0 ns i e in
        let z : r.0 ≡ i = omega (arith, r.1) in
        keys (get_or ns i 0) (ap (λ k. get_or known (get_or ns k 0) false) (sym z) ∙ r.3)

-- each number that is marked by then is bound by then
keys-after : (known : List Bool) (ns seen : List ℕ) → ((n : ℕ) → get_or known n false ≡ true → is_among n seen ≡ true) →
    (n : ℕ) → get_or (marked known ns) n false ≡ true → is_among n (seen_after seen (but_at (first_set known 0 ns) ns)) ≡ true
keys-after known ns seen keys n h = elim (marked-from known ns n h) [
  | inl k ↦ among-kept n seen (but_at (first_set known 0 ns) ns) (keys n k)
  | inr i ↦ by (first_set known 0 ns) refl i
]
  where
    by : (o : Option ℕ) → first_set known 0 ns ≡ o → n ∈ ns → is_among n (seen_after seen (but_at o ns)) ≡ true
    by None e i = among-new n seen ns i
    by (Some c) e i = elim (∈-but_at c ns n i) [
      | inl k ↦ among-new n seen (but_at (Some c) ns) k
      | inr at ↦ (
          let r = first-within known 0 ns c e in
          let z : r.0 ≡ c = omega (arith, r.1) in
          let flag : get_or known n false ≡ true = ap (λ m. get_or known m false) (at ∙ ap (λ k. get_or ns k 0) (sym z)) ∙ r.3 in
          among-kept n seen (but_at (Some c) ns) (keys n flag)
          )
    ]

-- the images bind their slots
start-keys : (images : List (Option ℕ)) (n k : ℕ) → get_or (map is_some images) k false ≡ true → is_among (n + k) (map (λ p. p.0) (bindings_from n images)) ≡ true
start-keys [] n zero h = absurd (false≢true h)
start-keys [] n (suc k) h = absurd (false≢true h)
start-keys (None ∷ images) n zero h = absurd (false≢true h)
start-keys (None ∷ images) n (suc k) h =
    let e : n + suc k ≡ suc n + k = omega arith in
    ap (λ j. is_among j (map (λ p. p.0) (bindings_from (suc n) images))) e ∙ start-keys images (suc n) k h
start-keys (Some w ∷ images) n zero h = let e : n + 0 ≡ n = omega arith in among-first (n + 0) n (map (λ p. p.0) (bindings_from (suc n) images)) e
start-keys (Some w ∷ images) n (suc k) h =
    let e : n + suc k ≡ suc n + k = omega arith in
    let seen : List ℕ = map (λ p. p.0) (bindings_from (suc n) images) in
    among-more (n + suc k) n seen (ap (λ j. is_among j seen) e ∙ start-keys images (suc n) k h)

module _ (A B : List Fact) (ts : List Table) where
  ready-from : (ps : List ℕ) (known : List Bool) (seen : List ℕ) (ds : List Draft) → ((p : ℕ) → p ∈ ps → p < length A) → is_among (length (values A)) seen ≡ true →
      ((n : ℕ) → get_or known n false ≡ true → is_among n seen ≡ true) → AreDrafts A B ts ds (shapes_by A known ps) → AreReadyDrafts A ts seen ds
  ready-from [] known seen [] below there keys a = tt
  ready-from [] known seen (d ∷ ds) below there keys a = absurd a
  ready-from (p ∷ ps) known seen [] below there keys a = absurd a
  ready-from (p ∷ ps) known seen (d ∷ ds) below there keys a =
      let ns = numbers_at A p in
      let c = first_set known 0 ns in
      let t = slice_get-there A p (below p (inl refl)) in
      let f = t.0 in
      let wide : length ns ≡ length f.args = ap length (numbers-are A p f t.1) ∙ length-map f.args (number A) in
      let stride : (get_or ts d.table no_table).stride ≡ length (row_at A c p) =
      ap (λ (x : Table). x.stride) a.2 ∙ ap (λ o. (unwrap_or (option_map (fact_table A B c) o) no_table).stride) t.1 ∙ sym (length-but_at c ns f.args wide) in
      let rest = ready-from ps (marked known ns) (seen_after seen (row_at A c p)) ds (λ q h. below q (inr h)) (among-kept (length (values A)) seen (row_at A c p) there) (keys-after known ns seen keys) a.3 in (
        subst (IsShape A) (sym a.0) (below p (inl refl), column-within known ns),
        a.1,
        stride ∙ ap (λ (s : Shape). length (row_at A s.column s.place)) (sym a.0),
        ap (λ (s : Shape). is_among (slot_in (length (values A)) s.column (numbers_at A s.place)) seen) a.0 ∙ key-among known ns seen (length (values A)) there keys,
        subst (λ (s : Shape). AreReadyDrafts A ts (seen_after seen (row_at A s.column s.place)) ds) (sym a.0) rest,
      )

  -- each draft has a key that is bound before it
  pub ready-drafts : (start : List (Val × Val)) (order : List ℕ) (images : List (Option ℕ)) (ds : List Draft) → order ≡ plan A B start → length images ≡ length (values A) →
      AreDrafts A B ts ds (shapes_by A (map is_some images) order) → AreReadyDrafts A ts (map (λ p. p.0) ((length images, 0) ∷ bindings_from 0 images)) ds
  ready-drafts start order images ds o l a =
      let slots : List ℕ = map (λ p. p.0) (bindings_from 0 images) in
      let z : length (values A) ≡ length images = sym l in
      ready-from order (map is_some images) (length images ∷ slots) ds (λ p h. plan-below A B start p (subst (λ ps. p ∈ ps) o h)) (among-first (length (values A)) (length images) slots z)
      (λ n h. let y : n ≡ 0 + n = omega arith in among-more n (length images) slots (ap (λ k. is_among k slots) y ∙ start-keys images 0 n h)) a

-- which values have an image
flags-are : (B : List Fact) (start : List (Val × Val)) (vs : List Val) → map is_some (map (given_image B start) vs) ≡ map (is_known start []) vs
flags-are B start [] = refl
flags-are B start (v ∷ vs) = ap₂ (λ b bs. b ∷ bs) (some-if (is_known start [] v) (number B (image start v))) (flags-are B start vs)

-- the rows of the tables are as long together as those of their shapes
pub strides-are : (A B : List Fact) (ss : List Shape) → AreShapes A ss → sum_by (λ (t : Table). t.stride) (map (shape_table A B) ss) ≡ sum_by (row_length A) ss
strides-are A B [] all = refl
strides-are A B (s ∷ ss) all =
    sum_by-cons (λ (t : Table). t.stride) (shape_table A B s) (map (shape_table A B) ss) ∙ ap₂ (λ n k. n + k) (stride-is A B s all.0) (strides-are A B ss all.1) ∙ sym (sum_by-cons (row_length A) s ss)

-- the levels of a course, where these are the images at the start
module _ (A B : List Fact) (start : List (Val × Val)) (images : List (Option ℕ)) (e : images ≡ map (given_image B start) (values A)) (m : Match)
    (tables : m.tables ≡ map (shape_table A B) (shapes_of A B start)) (shapes : m.shapes ≡ shapes_of A B start) where
  course-is : shapes_of A B start ≡ shapes_by A (map is_some images) (plan A B start)
  course-is = ap (λ k. shapes_by A k (plan A B start)) (sym (ap (map is_some) e ∙ flags-are B start (values A)))

  its_drafts : AreDrafts A B m.tables (drafts_of 0 m.shapes) (shapes_by A (map is_some images) (plan A B start))
  its_drafts = rw (tables, shapes, ← course-is) (drafts-are A B (shapes_of A B start))

  pub course-ready : m.start ≡ (length images, 0) ∷ bindings_from 0 images → AreReadyDrafts A m.tables (map (λ p. p.0) m.start) (drafts_of 0 m.shapes)
  course-ready s =
      let l : length images ≡ length (values A) = ap length e ∙ length-map (values A) (given_image B start) in
      rw s (ready-drafts A B m.tables start (plan A B start) images (drafts_of 0 m.shapes) refl l its_drafts)

  pub course-levels : all_levels A m ≡ levels_of A B start
  course-levels = levels-are A B start m.tables (plan A B start) images (drafts_of 0 m.shapes) refl e its_drafts

  pub course-start : m.start ≡ (length images, 0) ∷ bindings_from 0 images → m.start ≡ bindings_of A B start
  course-start s = s ∙ bindings-are A B start images e
