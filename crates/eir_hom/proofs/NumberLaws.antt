-- The search in numbers and the search in facts. The points are `need-numbers`, the tries are as many; `homs-numbers`, the
-- full lists are the homomorphisms, in order; `matched-bound`, a full list binds each value of the source to a value of
-- the target; and `levels_of-names`, the levels look at the values that the start names and not at their images.
use Rattle.std.proofs.Common.{◌≡◌, ℕ, zero, suc, ◌+◌, ◌<◌, ◌≤◌, ◌||◌, Bool, true, List, [], ◌∷◌, ◌++◌, map, take, drop, filter_map, length, get_or, cond, Option, Some, None, is_some, option_and_then, option_map, unwrap_or, slice_get, inl, inr, refl, sym, ◌∙◌, ap, ap₂, subst, arith, length-append}
use Rattle.std.specs.List.{list_any, cons_option}
use Rattle.std.proofs.lemmas.Option.{same_Some, get_or_from_slice_get}
use Rattle.std.proofs.lemmas.List.{take_all, take-append-drop, length-take-le}
use Rattle.eir_term.specs.declared.val.Val.{Val}
use Rattle.eir_term.specs.declared.fact.Fact.{Fact}
use Rattle.eir_term.specs.Lists.{◌∈◌, IsDistinct}
use Rattle.eir_term.specs.Values.{val_eq, is_fixed}
use Rattle.eir_term.specs.Instances.{values}
use Rattle.eir_term.specs.Maps.{get, image, graph}
use Rattle.eir_term.specs.Bind.{facts_at}
use Rattle.eir_term.specs.Plans.{is_known, listed_first}
use Rattle.eir_term.specs.Search.{planned, map_of, longer, homs, need}
use Rattle.eir_term.specs.Order.{KeepsFixed}
use Rattle.eir_term.proofs.HomLaws.{map-agree, ∈-values, ∈-values_from}
use Rattle.eir_term.proofs.OrderLaws.{∈-filter_map_from, ∈-slice_get_from, slice_get-below, take-slice_get}
use Rattle.eir_term.proofs.BindLaws.{bind_facts-sound}
use Rattle.eir_term.proofs.PlanLaws.{∈-planned, ∈-planned_from, length-planned, plan-agree, planned-agree}
use Rattle.eir_search.specs.Spaces.{good_choices, full_lists}
use Rattle.eir_search.specs.Spaces.{need as tries_of}
use Rattle.eir_hom.specs.Matching.{Level, Bindings, bound_to, bind_row, rows_at, matched, match_space}
use Rattle.eir_hom.specs.Levels.{number, first_known, key_column, level_at, levels_from, levels_of, bindings_of, value_of, hom_of, matched_hom}
use Rattle.eir_hom.proofs.PairedLaws.{Paired-sum, Paired-flat_map}
use Rattle.eir_hom.proofs.DepthLaws.{longest, tries_beyond, partials-depth, tries-depth}
use Rattle.eir_hom.proofs.BindingLaws.{number-there, number-below, sends_to, sends_to-image}
use Rattle.eir_hom.proofs.StandLaws.{FactsBind-value, Stands, Stands-empty, Stands-keeps, width-next, Stands-more, Stands-longer, length-levels_of, choice-more}

module _ (A B : List Fact) (start : List (Val × Val)) (keeps : KeepsFixed start) where
  -- where not all is placed there is a next fact
  next-fact : (t : ℕ) (ps : List ℕ) → suc t + length ps ≡ length A → (f : Fact) × (slice_get (planned A B start) (length ps) ≡ Some f)
  next-fact t ps e = let n = length-planned A B start in slice_get-below (planned A B start) (length ps) (omega arith)

  one-less : (t : ℕ) (cs ps qs : List ℕ) (c : ℕ) → Stands A B start cs ps → suc t + length ps ≡ length A → Stands A B start (cs ++ c ∷ []) qs → t + length qs ≡ length A
  one-less t cs ps qs c s e r =
      let a = s.level in
      let b = r.level in
      let l = length-append cs (c ∷ []) in
      omega arith

  -- below choices and places that stand side by side there are as many tries
  need-below : (t : ℕ) (cs ps : List ℕ) → Stands A B start cs ps → t + length ps ≡ length A → tries_of (match_space (levels_of A B start) (bindings_of A B start)) t cs ≡ tries_beyond A B start t ps
  unfolding tries_of
  need-below zero cs ps s e = refl
  need-below (suc t) cs ps s e =
      let space = match_space (levels_of A B start) (bindings_of A B start) in
      let f = next-fact t ps e in
      ap₂ (λ n m. n + m) (width-next A B start keeps cs ps s f.0 f.1)
      (Paired-sum (λ c qs. Stands A B start (cs ++ c ∷ []) qs) (λ c. tries_of space t (cs ++ c ∷ [])) (tries_beyond A B start t) (good_choices space cs) (longer A B start ps)
      (Stands-longer A B start keeps cs ps s f.0 f.1) (λ c qs r. need-below t (cs ++ c ∷ []) qs r (one-less t cs ps qs c s e r)))

  -- where all is placed, each value of A is sent to a value of B
  value-sent : (cs ps : List ℕ) (s : Stands A B start cs ps) → length ps ≡ length A → (v : Val) → v ∈ values A → (w : Val) × (w ∈ values B) × (sends_to s.sent v ≡ Some w)
  value-sent cs ps s e v h =
      let f = ∈-values_from v A h in
      let sound = bind_facts-sound start s.sent (planned A B start) (facts_at B ps) s.binds in
      let r = FactsBind-value s.sent v f.0 (planned A B start) (facts_at B ps) (s.placed ∙ e ∙ sym (length-planned A B start)) sound.1 (∈-planned A B start f.0 f.1) f.2 in
      let p = ∈-filter_map_from (slice_get B) r.0 ps r.2 in
      (r.1, ∈-values r.1 r.0 B (∈-slice_get_from r.0 B p.0 p.2) r.3, r.4)

  value-bound : (cs ps : List ℕ) (s : Stands A B start cs ps) (e : length ps ≡ length A) (v : Val) (h : v ∈ values A) → bound_to s.bindings (number A v) ≡ Some (number B (value-sent cs ps s e v h).0)
  value-bound cs ps s e v h = (s.same).slots v h ∙ ap (option_map (number B)) (value-sent cs ps s e v h).2

  -- the bindings say the same map
  value-is : (cs ps : List ℕ) (s : Stands A B start cs ps) → length ps ≡ length A → (v : Val) → v ∈ values A → value_of A B s.bindings v ≡ image s.sent v
  value-is cs ps s e v h =
      let w = value-sent cs ps s e v h in
      ap (λ o. get_or (values B) (unwrap_or o 0) v) (value-bound cs ps s e v h)
      ∙ get_or_from_slice_get (values B) (number B w.0) w.0 v (number-there B w.0 w.1)
      ∙ sym (sends_to-image s.sent v w.0 (Stands-keeps A B start keeps cs ps s) w.2)

  hom-is : (cs ps : List ℕ) (s : Stands A B start cs ps) → length ps ≡ length A → matched_hom A B start cs ≡ graph (image s.sent) (values A)
  hom-is cs ps s e =
      ap (λ o. hom_of A B (unwrap_or o [])) s.matches
      ∙ map-agree (λ v. (v, value_of A B s.bindings v)) (λ v. (v, image s.sent v)) (values A) (λ v i. ap (λ w. (v, w)) (value-is cs ps s e v i))

  -- the homomorphism at a whole match, if there is one
  abbrev listed : List ℕ → Option (List (Val × Val))
  listed ps = option_map (λ m. graph (image m) (values A)) (map_of A B start ps)

  -- below choices and places that stand side by side the full lists are the homomorphisms
  homs-below : (t : ℕ) (cs ps : List ℕ) → Stands A B start cs ps → t + length ps ≡ length A →
      map (matched_hom A B start) (full_lists (match_space (levels_of A B start) (bindings_of A B start)) t cs) ≡ filter_map listed (longest A B start t ps)
  unfolding full_lists
  homs-below zero cs ps s e =
      let there : listed ps ≡ Some (graph (image s.sent) (values A)) = ap (option_map (λ m. graph (image m) (values A))) s.binds in
      ap (λ h. h ∷ []) (hom-is cs ps s (omega arith)) ∙ sym (ap (λ o. cons_option o []) there)
  homs-below (suc t) cs ps s e =
      let space = match_space (levels_of A B start) (bindings_of A B start) in
      let f = next-fact t ps e in
      Paired-flat_map (λ c qs. Stands A B start (cs ++ c ∷ []) qs) (λ c. full_lists space t (cs ++ c ∷ [])) (longest A B start t) (matched_hom A B start) listed
      (good_choices space cs) (longer A B start ps) (Stands-longer A B start keeps cs ps s f.0 f.1)
      (λ c qs r. homs-below t (cs ++ c ∷ []) qs r (one-less t cs ps qs c s e r))

  -- ---- full lists

  then-is_some : {X Y : Type 0} (f g : X → Option Y) (o : Option X) → ((x : X) → is_some (f x) ≡ true → is_some (g x) ≡ true) → is_some (option_and_then f o) ≡ true → is_some (option_and_then g o) ≡ true
  then-is_some f g None keep t = t
  then-is_some f g (Some x) keep t = keep x t

  -- the beginning of a good list is good
  matched-beginning : (ls : List Level) (m : Bindings) (cs ds : List ℕ) → is_some (matched ls m (cs ++ ds)) ≡ true → is_some (matched ls m cs) ≡ true
  matched-beginning ls m [] ds t = refl
  matched-beginning [] m (c ∷ cs) ds t = t
  matched-beginning (l ∷ ls) m (c ∷ cs) ds t =
      then-is_some (λ row. option_and_then (λ n. matched ls n (cs ++ ds)) (bind_row m l.slots row)) (λ row. option_and_then (λ n. matched ls n cs) (bind_row m l.slots row)) (slice_get (rows_at l m) c)
      (λ row. then-is_some (λ n. matched ls n (cs ++ ds)) (λ n. matched ls n cs) (bind_row m l.slots row) (λ n. matched-beginning ls n cs ds)) t

  -- each good list is that of a match
  stands-beginning : (cs : List ℕ) (n : ℕ) → is_some (matched (levels_of A B start) (bindings_of A B start) cs) ≡ true → length cs ≤ length A → n ≤ length cs → (ps : List ℕ) × Stands A B start (take n cs) ps
  stands-beginning cs zero good most l = ([], Stands-empty A B start keeps)
  stands-beginning cs (suc n) good most l =
      let before = stands-beginning cs n good most (omega arith) in
      let ps = before.0 in
      let s = before.1 in
      let k = s.level in
      let long = length-take-le n cs (omega arith) in
      let c = slice_get-below cs n (omega arith) in
      let one = take-slice_get cs n c.0 c.1 in
      let whole : is_some (matched (levels_of A B start) (bindings_of A B start) (take (suc n) cs ++ drop (suc n) cs)) ≡ true =
      ap (λ ds. is_some (matched (levels_of A B start) (bindings_of A B start) ds)) (take-append-drop (suc n) cs) ∙ good in
      let first = matched-beginning (levels_of A B start) (bindings_of A B start) (take (suc n) cs) (drop (suc n) cs) whole in
      let now : is_some (matched (levels_of A B start) (bindings_of A B start) (take n cs ++ c.0 ∷ [])) ≡ true =
      ap (λ ds. is_some (matched (levels_of A B start) (bindings_of A B start) ds)) (sym one) ∙ first in
      let planned_all = length-planned A B start in
      let f = slice_get-below (planned A B start) (length ps) (omega arith) in
      let p = choice-more A B start keeps (take n cs) ps s f.0 f.1 c.0 now in
      (ps ++ p.0 ∷ [], subst (λ ds. Stands A B start ds (ps ++ p.0 ∷ [])) (sym one) (Stands-more A B start keeps (take n cs) ps s f.0 f.1 c.0 p.0 p.1 now))

  full-bound : (cs : List ℕ) (m : Bindings) → length cs ≡ length (levels_of A B start) → matched (levels_of A B start) (bindings_of A B start) cs ≡ Some m →
      (v : Val) → v ∈ values A → (w : ℕ) × (bound_to m (number A v) ≡ Some w) × (w < length (values B))
  full-bound cs m l e v h =
      let levels = length-levels_of A B start in
      let some = stands-beginning cs (length cs) (ap is_some e) (omega arith) (omega arith) in
      let s : Stands A B start cs some.0 = subst (λ ds. Stands A B start ds some.0) (take_all (length cs) cs (omega arith)) some.1 in
      let k = s.level in
      let all : length some.0 ≡ length A = omega arith in
      let w = value-sent cs some.0 s all v h in
      let same : s.bindings ≡ m = same_Some s.bindings m (sym s.matches ∙ e) in
      let bound = value-bound cs some.0 s all v h in
      (number B w.0, subst (λ b. bound_to b (number A v) ≡ Some (number B w.0)) same bound, number-below B w.0 w.1)

-- the search in numbers takes as many tries
pub need-numbers : (A B : List Fact) (start : List (Val × Val)) → IsDistinct B → KeepsFixed start →
    tries_of (match_space (levels_of A B start) (bindings_of A B start)) (length (levels_of A B start)) [] ≡ need A B start
need-numbers A B start distinct keeps =
    let space = match_space (levels_of A B start) (bindings_of A B start) in
    let all : length A + 0 ≡ length A = omega arith in
    ap (λ n. tries_of space n []) (length-levels_of A B start) ∙ need-below A B start keeps (length A) [] [] (Stands-empty A B start keeps) all ∙ tries-depth A B start

-- its full lists are the homomorphisms, in order
pub homs-numbers : (A B : List Fact) (start : List (Val × Val)) → IsDistinct B → KeepsFixed start →
    map (matched_hom A B start) (full_lists (match_space (levels_of A B start) (bindings_of A B start)) (length (levels_of A B start)) []) ≡ homs A B start
homs-numbers A B start distinct keeps =
    let space = match_space (levels_of A B start) (bindings_of A B start) in
    let all : length A + 0 ≡ length A = omega arith in
    ap (λ n. map (matched_hom A B start) (full_lists space n [])) (length-levels_of A B start)
    ∙ homs-below A B start keeps (length A) [] [] (Stands-empty A B start keeps) all
    ∙ ap (filter_map (λ ps. option_map (λ m. graph (image m) (values A)) (map_of A B start ps))) (partials-depth A B start (length A))

-- a full list binds each value of A to a value of B
pub matched-bound : (A B : List Fact) (start : List (Val × Val)) → IsDistinct B → KeepsFixed start → (cs : List ℕ) (m : Bindings) → length cs ≡ length (levels_of A B start) →
    matched (levels_of A B start) (bindings_of A B start) cs ≡ Some m → (v : Val) → v ∈ values A → (w : ℕ) × (bound_to m (number A v) ≡ Some w) × (w < length (values B))
matched-bound A B start distinct keeps = full-bound A B start keeps

-- ---- levels of two starts

-- a column is the first known one by the tests of its values alone
first_known-agree : (p q : Val → Bool) (n : ℕ) (vs : List Val) → ((v : Val) → v ∈ vs → p v ≡ q v) → first_known p n vs ≡ first_known q n vs
first_known-agree p q n [] e = refl
first_known-agree p q n (v ∷ vs) e = ap₂ (λ b o. cond b (Some n) o) (e v (inl refl)) (first_known-agree p q (suc n) vs (λ u i. e u (inr i)))

module _ (A B : List Fact) (s t : List (Val × Val)) (named : (v : Val) → v ∈ values A → is_some (get s v) ≡ is_some (get t v)) where
  key_column-agree : (k : ℕ) (f : Fact) → f ∈ A → key_column A B s k f ≡ key_column A B t k f
  key_column-agree k f h = first_known-agree (is_known s (listed_first A B s k)) (is_known t (listed_first A B t k)) 0 f.args
      (λ v i. ap₂ (λ b fs. is_fixed v || (b || list_any (λ e. list_any (val_eq v) e.args) fs)) (named v (∈-values v f A h i)) (ap (λ p. facts_at A (take k p)) (plan-agree A B s t named)))

  levels_from-agree : (k : ℕ) (fs : List Fact) → ((f : Fact) → f ∈ fs → f ∈ A) → levels_from A B s k fs ≡ levels_from A B t k fs
  levels_from-agree k [] from = refl
  levels_from-agree k (f ∷ fs) from = ap₂ (λ l ls. l ∷ ls) (ap (level_at A B f) (key_column-agree k f (from f (inl refl)))) (levels_from-agree (suc k) fs (λ g i. from g (inr i)))

-- two starts that name the same values of A have the same levels
pub levels_of-names : (A B : List Fact) (s t : List (Val × Val)) → ((v : Val) → v ∈ values A → is_some (get s v) ≡ is_some (get t v)) → levels_of A B s ≡ levels_of A B t
levels_of-names A B s t named =
    levels_from-agree A B s t named 0 (planned A B s) (λ f h. ∈-planned_from A B s f h) ∙ ap (levels_from A B t 0) (planned-agree A B s t named)
