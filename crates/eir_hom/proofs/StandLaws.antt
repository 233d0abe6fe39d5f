-- Choices of rows and places of facts, side by side. The points are `Stands-longer`: the choices that make a good list
-- are those of the places that make a longer match, one by one; and `Stands-some`: each good list is that of a match.
--   Stands cs ps   == the rows chosen by cs bind as the facts at the places ps do
use Rattle.std.proofs.Common.{◌≡◌, ℕ, zero, suc, ◌+◌, ◌<◌, ◌||◌, inl, inr, Bool, true, List, [], ◌∷◌, ◌++◌, map, filter, take, length, Option, Some, None, is_some, option_and_then, option_map, slice_get, refl, sym, ◌∙◌, ap, ap₂, subst, arith, length-append}
use Rattle.std.specs.List.{list_any, range_with_len}
use Rattle.std.proofs.lemmas.Bool.{or_cases, false≢true}
use Rattle.std.proofs.lemmas.Option.{none-some, slice_get-map}
use Rattle.std.proofs.lemmas.List.{length-take-le}
use Rattle.std.proofs.lemmas.List.FromFn.{length-range_with_len}
use Rattle.eir_term.specs.declared.val.Val.{Val}
use Rattle.eir_term.specs.declared.val.Val.TheVariants.{Const, Fixed, Null}
use Rattle.eir_term.specs.declared.fact.Fact.{Fact}
use Rattle.eir_term.specs.Lists.{◌∈◌, places}
use Rattle.eir_term.specs.Values.{val_eq, val_eq-decides, is_fixed}
use Rattle.eir_term.specs.Maps.{get}
use Rattle.eir_term.specs.Bind.{bind_facts, facts_at}
use Rattle.eir_term.specs.Plans.{is_tried, tried_after, listed_first}
use Rattle.eir_term.specs.Search.{planned, map_of, tried_for, next_places, longer}
use Rattle.eir_term.specs.Order.{KeepsFixed}
use Rattle.eir_term.proofs.ListLaws.{∈-filter_from, ∈-list_any_from}
use Rattle.eir_term.proofs.OrderLaws.{∈-slice_get, ∈-slice_get_from}
use Rattle.eir_term.proofs.BindLaws.{Binds, AllBind, FactsBind, bind_facts-sound}
use Rattle.eir_term.proofs.PlanLaws.{∈-planned_from, length-planned, listed_first-planned}
use Rattle.eir_search.specs.Spaces.{good_choices}
use Rattle.eir_hom.specs.Matching.{Level, Bindings, bind_row, rows_at, matched, rows_next, match_space}
use Rattle.eir_hom.specs.Levels.{row_of, key_column, level_of, levels_from, levels_of, bindings_of}
use Rattle.eir_hom.proofs.PairedLaws.{Paired, Paired-length, Paired-filter, IsAt, Paired-places}
use Rattle.eir_hom.proofs.BindingLaws.{sends_to, Same, Alike, Alike-is_some, Same-start}
use Rattle.eir_hom.proofs.LongerLaws.{bind_choice, bind_next, matched-more, bind_facts-more, bind_facts-first, facts_at-more}
use Rattle.eir_hom.proofs.TriedLaws.{Knows, rows-tried, row-binds}

-- ---- what a map sends

Binds-sends_to : (M : List (Val × Val)) (v w : Val) → Binds M v w → sends_to M v ≡ Some w
Binds-sends_to M (Const c) w b = b
Binds-sends_to M (Fixed c) w b = ap Some (sym b)
Binds-sends_to M (Null n) w b = b

AllBind-some : (M : List (Val × Val)) (v : Val) (vs ws : List Val) → AllBind M vs ws → v ∈ vs → (w : Val) × (w ∈ ws) × (sends_to M v ≡ Some w)
AllBind-some M v [] ws b h = elim h [ ]
AllBind-some M v (u ∷ vs) [] b h = absurd b
AllBind-some M v (u ∷ vs) (w ∷ ws) b (inl e) = (w, inl refl, ap (sends_to M) e ∙ Binds-sends_to M u w b.0)
AllBind-some M v (u ∷ vs) (w ∷ ws) b (inr h) = let r = AllBind-some M v vs ws b.1 h in (r.0, inr r.1, r.2)

-- where facts are sent to facts, each value of the ones is sent to a value of the others
pub FactsBind-value : (M : List (Val × Val)) (v : Val) (f : Fact) (fs gs : List Fact) → length gs ≡ length fs → FactsBind M fs gs → f ∈ fs → v ∈ f.args →
    (g : Fact) × (w : Val) × (g ∈ gs) × (w ∈ g.args) × (sends_to M v ≡ Some w)
FactsBind-value M v f [] gs l b h i = elim h [ ]
FactsBind-value M v f (e ∷ fs) [] l b h i = absurd (omega arith)
FactsBind-value M v f (e ∷ fs) (g ∷ gs) l b (inl p) i =
    let r = AllBind-some M v e.args g.args (b.0).1 (subst (λ (x : Fact). v ∈ x.args) p i) in
    (g, r.0, inl refl, r.1, r.2)
FactsBind-value M v f (e ∷ fs) (g ∷ gs) l b (inr h) i =
    let r = FactsBind-value M v f fs gs (omega arith) b.1 h i in
    (r.0, r.1, inr r.2, r.3, r.4)

-- a value that occurs in the facts occurs in one of them
fact-with : (v : Val) (fs : List Fact) → list_any (λ f. list_any (val_eq v) f.args) fs ≡ true → (f : Fact) × (f ∈ fs) × (v ∈ f.args)
fact-with v [] t = absurd (false≢true t)
fact-with v (f ∷ fs) t = elim (or_cases (list_any (val_eq v) f.args) (list_any (λ f. list_any (val_eq v) f.args) fs) t) [
  | inl s ↦ (f, inl refl, ∈-list_any_from val_eq val_eq-decides v f.args s)
  | inr s ↦ (let r = fact-with v fs s in (r.0, inr r.1, r.2))
]

sends_to-fixed : (M : List (Val × Val)) (v : Val) → is_fixed v ≡ true → (u : Val) × (sends_to M v ≡ Some u)
sends_to-fixed M v t = (v, rw t)

sends_to-given : (M : List (Val × Val)) (v w : Val) → get M v ≡ Some w → (u : Val) × (sends_to M v ≡ Some u)
sends_to-given M (Const c) w e = (w, e)
sends_to-given M (Fixed c) w e = (Fixed c, refl)
sends_to-given M (Null n) w e = (w, e)

is_some-there : {X : Type 0} (o : Option X) → is_some o ≡ true → (x : X) × (o ≡ Some x)
is_some-there None t = absurd (false≢true t)
is_some-there (Some x) t = (x, refl)

-- a map over the start that sends these facts somewhere sends what is known somewhere
Knows-facts : (start M : List (Val × Val)) (fs gs : List Fact) → length gs ≡ length fs → bind_facts start fs gs ≡ Some M → Knows start fs M
Knows-facts start M fs gs l e v t =
    let sound = bind_facts-sound start M fs gs e in
    elim (or_cases (is_fixed v) (is_some (get start v) || list_any (λ f. list_any (val_eq v) f.args) fs) t) [
      | inl s ↦ sends_to-fixed M v s
      | inr s ↦ elim (or_cases (is_some (get start v)) (list_any (λ f. list_any (val_eq v) f.args) fs) s) [
        | inl r ↦ (let w = is_some-there (get start v) r in sends_to-given M v w.0 ((sound.0).over v w.0 w.1))
        | inr r ↦ (
            let f = fact-with v fs r in
            let b = FactsBind-value M v f.0 fs gs l sound.1 f.1 f.2 in
            (b.1, b.4)
            )
      ]
    ]

-- ---- levels

module _ (A B : List Fact) (start : List (Val × Val)) where
  slice_get-levels_from : (k j : ℕ) (fs : List Fact) → slice_get (levels_from A B start k fs) j ≡ option_map (level_of A B start (k + j)) (slice_get fs j)
  slice_get-levels_from k j [] = refl
  slice_get-levels_from k zero (f ∷ fs) = let q : k ≡ k + 0 = omega arith in ap (λ n. Some (level_of A B start n f)) q
  slice_get-levels_from k (suc j) (f ∷ fs) =
      let q : suc k + j ≡ k + suc j = omega arith in
      slice_get-levels_from (suc k) j fs ∙ ap (λ n. option_map (level_of A B start n) (slice_get fs j)) q

  length-levels_from : (k : ℕ) (fs : List Fact) → length (levels_from A B start k fs) ≡ length fs
  length-levels_from k [] = refl
  length-levels_from k (f ∷ fs) = ap suc (length-levels_from (suc k) fs)

  -- there is a level for each fact
  pub length-levels_of : length (levels_of A B start) ≡ length A
  length-levels_of = length-levels_from 0 (planned A B start) ∙ length-planned A B start

  -- the bindings after these choices
  abbrev after : List ℕ → Option Bindings
  after cs = matched (levels_of A B start) (bindings_of A B start) cs

  -- the rows that are chosen bind as the facts at the places do
  pub record Stands (cs ps : List ℕ) : Type 0 where
    pub level : length cs ≡ length ps
    pub bindings : Bindings
    pub sent : List (Val × Val)
    pub matches : after cs ≡ Some bindings
    pub binds : map_of A B start ps ≡ Some sent
    pub same : Same A B bindings sent
    pub placed : length (facts_at B ps) ≡ length ps

  stands-from : (cs ps : List ℕ) (o : Option Bindings) (O : Option (List (Val × Val))) → length cs ≡ length ps → length (facts_at B ps) ≡ length ps → after cs ≡ o → map_of A B start ps ≡ O → Alike A B o O → is_some o ≡ true → Stands cs ps
  stands-from cs ps None O l n e E a t = absurd (false≢true t)
  stands-from cs ps (Some m) None l n e E a t = absurd a
  stands-from cs ps (Some m) (Some M) l n e E a t = record { level = l; bindings = m; sent = M; matches = e; binds = E; same = a; placed = n }

  module _ (keeps : KeepsFixed start) where
    -- nothing is chosen, and nothing is placed
    pub Stands-empty : Stands [] []
    Stands-empty = record { level = refl; bindings = bindings_of A B start; sent = start; matches = refl; binds = refl; same = Same-start A B start keeps; placed = refl }

    -- the map moves no fixed constant
    pub Stands-keeps : (cs ps : List ℕ) (s : Stands cs ps) → KeepsFixed s.sent
    Stands-keeps cs ps s = ((bind_facts-sound start s.sent (planned A B start) (facts_at B ps) s.binds).0).keeps keeps

    module _ (cs ps : List ℕ) (s : Stands cs ps) (f : Fact) (next : slice_get (planned A B start) (length ps) ≡ Some f) where
      -- the facts that are listed first
      abbrev listed : List Fact
      listed = listed_first A B start (length ps)

      -- whether a fact is tried for f
      abbrev pub tried : Fact → Bool
      tried = is_tried A B start listed s.sent f

      abbrev key : Option ℕ
      key = key_column A B start (length ps) f

      abbrev here : Level
      here = level_of A B start (length ps) f

      -- the map so far is that of the listed facts
      so_far : bind_facts start listed (facts_at B ps) ≡ Some s.sent
      so_far =
          ap (λ fs. bind_facts start fs (facts_at B ps)) (listed_first-planned A B start (length ps))
          ∙ ap (λ n. bind_facts start (take n (planned A B start)) (facts_at B ps)) (sym s.placed)
          ∙ bind_facts-first start (planned A B start) (facts_at B ps) ∙ s.binds

      within : length ps < length (planned A B start)
      within = below (planned A B start) (length ps) next
        where
          below : (fs : List Fact) (k : ℕ) → slice_get fs k ≡ Some f → k < length fs
          below [] k e = absurd (none-some f e)
          below (g ∷ fs) zero e = omega arith
          below (g ∷ fs) (suc k) e = let r = below fs k e in omega arith

      knows : Knows start listed s.sent
      knows =
          let l = length-take-le (length ps) (planned A B start) (let w = within in omega arith) in
          let long : length (facts_at B ps) ≡ length listed = s.placed ∙ sym l ∙ sym (ap length (listed_first-planned A B start (length ps))) in
          Knows-facts start s.sent listed (facts_at B ps) long so_far

      from : f ∈ A
      from = ∈-planned_from A B start f (∈-slice_get_from f (planned A B start) (length ps) next)

      level-here : slice_get (levels_of A B start) (length cs) ≡ Some here
      level-here =
          let q : 0 + length ps ≡ length ps = omega arith in
          ap (slice_get (levels_of A B start)) s.level ∙ slice_get-levels_from 0 (length ps) (planned A B start)
          ∙ ap (option_map (level_of A B start (0 + length ps))) next ∙ ap (λ n. Some (level_of A B start n f)) q

      rows-here : rows_at here s.bindings ≡ map (row_of B key) (filter tried B)
      rows-here = rows-tried A B start listed s.bindings s.sent f s.same (Stands-keeps cs ps s) knows from key refl

      -- the places that are tried are those of the facts that are tried
      next-tried : next_places A B start ps ≡ places tried 0 B
      next-tried = ap (tried_for A B start ps) next ∙ ap (λ o. tried_after A B start listed o f) so_far

      length-rows : {X Y : Type 0} (h : X → Y) (xs : List X) → length (map h xs) ≡ length xs
      length-rows h [] = refl
      length-rows h (x ∷ xs) = ap suc (length-rows h xs)

      -- there are as many choices
      width-tried : (match_space (levels_of A B start) (bindings_of A B start)).width cs ≡ length (filter tried B)
      width-tried =
          ap₂ rows_next level-here s.matches ∙ ap length rows-here ∙ length-rows (row_of B key) (filter tried B)

      pub width-next : (match_space (levels_of A B start) (bindings_of A B start)).width cs ≡ length (next_places A B start ps)
      width-next =
          width-tried ∙ sym (length-range_with_len 0 (length (filter tried B))) ∙ Paired-length (IsAt tried (filter tried B) B) (range_with_len 0 (length (filter tried B))) (places tried 0 B) (Paired-places tried B)
          ∙ sym (ap length next-tried)

      -- one more choice is tried
      after-more : (c : ℕ) → after (cs ++ c ∷ []) ≡ option_and_then (bind_row s.bindings here.slots) (option_map (row_of B key) (slice_get (filter tried B) c))
      after-more c =
          matched-more (levels_of A B start) (bindings_of A B start) cs c ∙ ap (option_and_then (bind_choice (slice_get (levels_of A B start) (length cs)) c)) s.matches
          ∙ ap (λ o. bind_choice o c s.bindings) level-here
          ∙ ap (λ rows. option_and_then (bind_row s.bindings here.slots) (slice_get rows c)) rows-here
          ∙ ap (option_and_then (bind_row s.bindings here.slots)) (slice_get-map (row_of B key) (filter tried B) c)

      -- one more place is tried
      map-more : (p : ℕ) (g : Fact) → slice_get B p ≡ Some g → map_of A B start (ps ++ p ∷ []) ≡ bind_next (Some f) g s.sent
      map-more p g e =
          ap (bind_facts start (planned A B start)) (facts_at-more B ps p g e) ∙ bind_facts-more start (planned A B start) (facts_at B ps) g
          ∙ ap (option_and_then (bind_next (slice_get (planned A B start) (length (facts_at B ps))) g)) s.binds
          ∙ ap (λ n. bind_next (slice_get (planned A B start) n) g s.sent) s.placed ∙ ap (λ o. bind_next o g s.sent) next

      alike-more : (c p : ℕ) → IsAt tried (filter tried B) B c p → Alike A B (after (cs ++ c ∷ [])) (map_of A B start (ps ++ p ∷ []))
      alike-more c p at =
          let g = at.element in
          let row : after (cs ++ c ∷ []) ≡ bind_row s.bindings here.slots (row_of B key g) =
          after-more c ∙ ap (λ o. option_and_then (bind_row s.bindings here.slots) (option_map (row_of B key) o)) at.chosen in
          let binds = row-binds A B start listed s.bindings s.sent f s.same (Stands-keeps cs ps s) knows from key refl g (∈-slice_get_from g B p at.there) at.passes in
          subst (λ o. Alike A B o (map_of A B start (ps ++ p ∷ []))) (sym row) (subst (λ O. Alike A B (bind_row s.bindings here.slots (row_of B key g)) O) (sym (map-more p g at.there)) binds)

      pub Stands-more : (c p : ℕ) → IsAt tried (filter tried B) B c p → is_some (after (cs ++ c ∷ [])) ≡ true → Stands (cs ++ c ∷ []) (ps ++ p ∷ [])
      Stands-more c p at t =
          let a = length-append cs (c ∷ []) in
          let b = length-append ps (p ∷ []) in
          let l = s.level in
          let facts = ap length (facts_at-more B ps p at.element at.there) ∙ length-append (facts_at B ps) (at.element ∷ []) in
          let n = s.placed in
          stands-from (cs ++ c ∷ []) (ps ++ p ∷ []) (after (cs ++ c ∷ [])) (map_of A B start (ps ++ p ∷ [])) (omega arith) (omega arith) refl refl (alike-more c p at) t

      -- the choices that make a good list, and the places that make a longer match
      pub Stands-longer : Paired (λ c qs. Stands (cs ++ c ∷ []) qs) (good_choices (match_space (levels_of A B start) (bindings_of A B start)) cs) (longer A B start ps)
      Stands-longer =
          let good = λ (c : ℕ). is_some (after (cs ++ c ∷ [])) in
          let longer_by = λ (p : ℕ). ps ++ p ∷ [] in
          let fits = λ (qs : List ℕ). is_some (map_of A B start qs) in
          let R = λ (c : ℕ) (qs : List ℕ). Stands (cs ++ c ∷ []) qs in
          let paired = Paired-filter (IsAt tried (filter tried B) B) R longer_by good fits (range_with_len 0 (length (filter tried B))) (places tried 0 B) (Paired-places tried B)
          (λ c p at. (Alike-is_some A B (after (cs ++ c ∷ [])) (map_of A B start (ps ++ p ∷ [])) (alike-more c p at), Stands-more c p at)) in
          subst (λ n. Paired R (filter good (range_with_len 0 n)) (longer A B start ps)) (sym width-tried)
          (subst (λ qs. Paired R (filter good (range_with_len 0 (length (filter tried B)))) (filter fits (map longer_by qs))) (sym next-tried) paired)

      -- each choice that makes a good list is that of a place
      pub choice-more : (c : ℕ) → is_some (after (cs ++ c ∷ [])) ≡ true → (p : ℕ) × IsAt tried (filter tried B) B c p
      choice-more c t = by (slice_get (filter tried B) c) refl
        where
          by : (o : Option Fact) → slice_get (filter tried B) c ≡ o → (p : ℕ) × IsAt tried (filter tried B) B c p
          by None e =
              let none : after (cs ++ c ∷ []) ≡ None = after-more c ∙ ap (λ o. option_and_then (bind_row s.bindings here.slots) (option_map (row_of B key) o)) e in
              absurd (false≢true (sym (ap is_some none) ∙ t))
          by (Some g) e =
              let kept = ∈-filter_from tried g B (∈-slice_get_from g (filter tried B) c e) in
              let at = ∈-slice_get g B kept.0 in
              (at.0, record { element = g; chosen = e; there = at.1; passes = kept.1 })
