-- The least map over a map that sends facts to facts, where there is one (this project's own).
--   bind_value m v w    == m that also sends v to w
--   bind_values m vs ws == m that also sends these values to those, one by one
--   bind_fact m f g     == m that also sends the fact f to the fact g
--   bind_facts m fs gs  == m that also sends the first facts of fs to the facts gs
--   facts_at K ps       == the facts of K at these places
use Rattle.std.specs.Prelude.{ℕ, ◌==◌, cond, List, [], ◌∷◌, ◌++◌, filter_map, Option, Some, None, option_and_then, slice_get}
use Rattle.eir_term.specs.declared.val.Val.{Val}
use Rattle.eir_term.specs.declared.fact.Fact.{Fact}
use Rattle.eir_term.specs.Values.{val_eq, is_fixed}
use Rattle.eir_term.specs.Maps.{get}

-- m with the pair of v and w, given what m pairs with v
abbrev pub bind_as : Option Val → List (Val × Val) → Val → Val → Option (List (Val × Val))
bind_as None m v w = Some (m ++ (v, w) ∷ [])
bind_as (Some u) m v w = cond (val_eq u w) (Some m) None

-- the least map over m that sends v to w; a fixed constant goes to itself alone
abbrev pub bind_value : List (Val × Val) → Val → Val → Option (List (Val × Val))
bind_value m v w = cond (is_fixed v) (cond (val_eq v w) (Some m) None) (bind_as (get m v) m v w)

-- the least map over m that sends these values to those, one by one
abbrev pub bind_values : List (Val × Val) → List Val → List Val → Option (List (Val × Val))
bind_values m [] [] = Some m
bind_values m [] (w ∷ ws) = None
bind_values m (v ∷ vs) [] = None
bind_values m (v ∷ vs) (w ∷ ws) = option_and_then (λ n. bind_values n vs ws) (bind_value m v w)

-- the least map over m that sends the fact f to the fact g
abbrev pub bind_fact : List (Val × Val) → Fact → Fact → Option (List (Val × Val))
bind_fact m f g = cond (f.rel == g.rel) (bind_values m f.args g.args) None

-- the least map over m that sends the first facts of fs to the facts gs
abbrev pub bind_facts : List (Val × Val) → List Fact → List Fact → Option (List (Val × Val))
bind_facts m fs [] = Some m
bind_facts m [] (g ∷ gs) = None
bind_facts m (f ∷ fs) (g ∷ gs) = option_and_then (λ n. bind_facts n fs gs) (bind_fact m f g)

-- the facts of K at these places
abbrev pub facts_at : List Fact → List ℕ → List Fact
facts_at K ps = filter_map (slice_get K) ps
