-- One more row. The points are `matched-more` and `bind_facts-more`: what one more choice, and one more fact, binds; and
-- `bind_row-but`: a column that is bound to its number already may be left out.
use Rattle.std.proofs.Common.{◌≡◌, ℕ, zero, suc, ◌==◌, true, List, [], ◌∷◌, ◌++◌, take, length, Option, Some, None, option_and_then, slice_get, refl, sym, ◌∙◌, ap}
use Rattle.std.proofs.lemmas.Bool.{eq-eqb}
use Rattle.std.proofs.lemmas.Option.{same_Some, none-some}
use Rattle.std.proofs.lemmas.List.Elements.{filter_map-append}
use Rattle.eir_term.specs.declared.val.Val.{Val}
use Rattle.eir_term.specs.declared.fact.Fact.{Fact}
use Rattle.eir_term.specs.Bind.{bind_fact, bind_facts, facts_at}
use Rattle.eir_hom.specs.Matching.{Level, Bindings, bound_to, bind_slot, bind_row, rows_at, matched}
use Rattle.eir_hom.specs.Levels.{but_at}
use Rattle.eir_hom.proofs.BindingLaws.{bind_slot-keeps}

-- the bindings with a row of this level, by its place among the rows
abbrev pub bind_choice : Option Level → ℕ → Bindings → Option Bindings
bind_choice None c m = None
bind_choice (Some l) c m = option_and_then (bind_row m l.slots) (slice_get (rows_at l m) c)

-- the map with one more fact sent to this one
abbrev pub bind_next : Option Fact → Fact → List (Val × Val) → Option (List (Val × Val))
bind_next None g m = None
bind_next (Some f) g m = bind_fact m f g

then-Some : {X : Type 0} (o : Option X) → option_and_then Some o ≡ o
then-Some None = refl
then-Some (Some x) = refl

then-then : {X Y Z : Type 0} (f : X → Option Y) (g : Y → Option Z) (o : Option X) → option_and_then g (option_and_then f o) ≡ option_and_then (λ x. option_and_then g (f x)) o
then-then f g None = refl
then-then f g (Some x) = refl

then-agree : {X Y : Type 0} (f g : X → Option Y) (o : Option X) → ((x : X) → f x ≡ g x) → option_and_then f o ≡ option_and_then g o
then-agree f g None e = refl
then-agree f g (Some x) e = e x

then-agree_at : {X Y : Type 0} (f g : X → Option Y) (o : Option X) → ((x : X) → o ≡ Some x → f x ≡ g x) → option_and_then f o ≡ option_and_then g o
then-agree_at f g None e = refl
then-agree_at f g (Some x) e = e x refl

-- one more choice binds a row of the next level
pub matched-more : (ls : List Level) (m : Bindings) (cs : List ℕ) (c : ℕ) → matched ls m (cs ++ c ∷ []) ≡ option_and_then (bind_choice (slice_get ls (length cs)) c) (matched ls m cs)
matched-more [] m [] c = refl
matched-more (l ∷ ls) m [] c = then-agree (λ row. option_and_then (λ n. matched ls n []) (bind_row m l.slots row)) (bind_row m l.slots) (slice_get (rows_at l m) c) (λ row. then-Some (bind_row m l.slots row))
matched-more [] m (d ∷ cs) c = refl
matched-more (l ∷ ls) m (d ∷ cs) c =
    let last = bind_choice (slice_get ls (length cs)) c in
    then-agree (λ row. option_and_then (λ n. matched ls n (cs ++ c ∷ [])) (bind_row m l.slots row)) (λ row. option_and_then last (option_and_then (λ n. matched ls n cs) (bind_row m l.slots row))) (slice_get (rows_at l m) d)
    (λ row. then-agree (λ n. matched ls n (cs ++ c ∷ [])) (λ n. option_and_then last (matched ls n cs)) (bind_row m l.slots row) (λ n. matched-more ls n cs c) ∙ sym (then-then (λ n. matched ls n cs) last (bind_row m l.slots row)))
    ∙ sym (then-then (λ row. option_and_then (λ n. matched ls n cs) (bind_row m l.slots row)) last (slice_get (rows_at l m) d))

-- one more fact is sent as the next of the first ones
pub bind_facts-more : (m : List (Val × Val)) (fs gs : List Fact) (g : Fact) → bind_facts m fs (gs ++ g ∷ []) ≡ option_and_then (bind_next (slice_get fs (length gs)) g) (bind_facts m fs gs)
bind_facts-more m [] [] g = refl
bind_facts-more m (f ∷ fs) [] g = then-agree (λ n. bind_facts n fs []) Some (bind_fact m f g) (λ n. refl) ∙ then-Some (bind_fact m f g)
bind_facts-more m [] (h ∷ gs) g = refl
bind_facts-more m (f ∷ fs) (h ∷ gs) g =
    then-agree (λ n. bind_facts n fs (gs ++ g ∷ [])) (λ n. option_and_then (bind_next (slice_get fs (length gs)) g) (bind_facts n fs gs)) (bind_fact m f h) (λ n. bind_facts-more n fs gs g)
    ∙ sym (then-then (λ n. bind_facts n fs gs) (bind_next (slice_get fs (length gs)) g) (bind_fact m f h))

-- facts that have no image are not looked at
pub bind_facts-first : (m : List (Val × Val)) (fs gs : List Fact) → bind_facts m (take (length gs) fs) gs ≡ bind_facts m fs gs
bind_facts-first m [] [] = refl
bind_facts-first m (f ∷ fs) [] = refl
bind_facts-first m [] (g ∷ gs) = refl
bind_facts-first m (f ∷ fs) (g ∷ gs) = then-agree (λ n. bind_facts n (take (length gs) fs) gs) (λ n. bind_facts n fs gs) (bind_fact m f g) (λ n. bind_facts-first n fs gs)

-- a place of B more is a fact more
pub facts_at-more : (B : List Fact) (ps : List ℕ) (p : ℕ) (g : Fact) → slice_get B p ≡ Some g → facts_at B (ps ++ p ∷ []) ≡ facts_at B ps ++ g ∷ []
facts_at-more B ps p g e =
    let one : facts_at B (p ∷ []) ≡ g ∷ [] = rw e in
    filter_map-append (slice_get B) ps (p ∷ []) ∙ ap (λ gs. facts_at B ps ++ gs) one

-- a column that is bound to its number already may be left out
pub bind_row-but : (i s w : ℕ) (m : Bindings) (ss ws : List ℕ) → slice_get ss i ≡ Some s → slice_get ws i ≡ Some w → bound_to m s ≡ Some w →
    bind_row m (but_at (Some i) ss) (but_at (Some i) ws) ≡ bind_row m ss ws
bind_row-but i s w m [] ws a b bound = absurd (none-some s a)
bind_row-but i s w m (t ∷ ss) [] a b bound = absurd (none-some w b)
bind_row-but zero s w m (t ∷ ss) (u ∷ ws) a b bound =
    let here : bound_to m t ≡ Some w = ap (bound_to m) (same_Some t s a) ∙ bound in
    let same : (w == u) ≡ true = eq-eqb w u (sym (same_Some u w b)) in
    rw (here, same) refl
bind_row-but (suc i) s w m (t ∷ ss) (u ∷ ws) a b bound =
    then-agree_at (λ n. bind_row n (but_at (Some i) ss) (but_at (Some i) ws)) (λ n. bind_row n ss ws) (bind_slot m t u)
    (λ n e. bind_row-but i s w n ss ws a b (bind_slot-keeps m n t u s w e bound))
