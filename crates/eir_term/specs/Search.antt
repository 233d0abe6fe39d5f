-- All homomorphisms in order, and the need of listing them (this project's own order and count).
--   partials A B start k      == the partial matches of k facts, as lists of places in B, in order
--   homs A B start            == the homomorphisms from A to B that agree with start, on the values of A, in order
--   image_places A B start h  == the places of the images of A's facts: homomorphisms are ordered by these lists
--   need A B start            == the tries that listing them all takes
use Rattle.std.specs.Prelude.{ℕ, suc, zero, ◌+◌, List, [], ◌∷◌, ◌++◌, map, filter, flat_map, filter_map, length, Option, Some, None, option_map, is_some, slice_get}
use Rattle.eir_term.specs.declared.val.Val.{Val}
use Rattle.eir_term.specs.declared.fact.Fact.{Fact}
use Rattle.eir_term.specs.Lists.{place_of}
use Rattle.eir_term.specs.Facts.{fact_eq}
use Rattle.eir_term.specs.Instances.{values, consts, ground_part}
use Rattle.eir_term.specs.Maps.{image, graph, fact_image}
use Rattle.eir_term.specs.Fitting.{DataExample}
use Rattle.eir_term.specs.Bind.{bind_facts, facts_at}
use Rattle.eir_term.specs.Plans.{plan, candidates}

-- A's facts in plan order
abbrev pub planned : List Fact → List Fact → List (Val × Val) → List Fact
planned A B start = facts_at A (plan A B start)

-- the least map over the start that sends A's first planned facts to B's facts at these places
abbrev pub map_of : List Fact → List Fact → List (Val × Val) → List ℕ → Option (List (Val × Val))
map_of A B start placed = bind_facts start (planned A B start) (facts_at B placed)

-- the places that are tried for the next fact, none where all of A is placed
abbrev pub tried_for : List Fact → List Fact → List (Val × Val) → List ℕ → Option Fact → List ℕ
tried_for A B start placed None = []
tried_for A B start placed (Some f) = candidates A B start placed f

-- the places that are tried after the images of the plan's first facts
abbrev pub next_places : List Fact → List Fact → List (Val × Val) → List ℕ → List ℕ
next_places A B start placed = tried_for A B start placed (slice_get (planned A B start) (length placed))

-- the partial matches that are one longer than this one
abbrev pub longer : List Fact → List Fact → List (Val × Val) → List ℕ → List (List ℕ)
longer A B start placed = filter (λ ps. is_some (map_of A B start ps)) (map (λ p. placed ++ p ∷ []) (next_places A B start placed))

-- the partial matches of k facts, as lists of places in B, in order
abbrev pub partials : List Fact → List Fact → List (Val × Val) → ℕ → List (List ℕ)
partials A B start zero = [] ∷ []
partials A B start (suc k) = flat_map (longer A B start) (partials A B start k)

-- the homomorphisms from A to B that agree with the start, on the values of A alone, in order
abbrev pub homs : List Fact → List Fact → List (Val × Val) → List (List (Val × Val))
homs A B start = filter_map (λ ps. option_map (λ m. graph (image m) (values A)) (map_of A B start ps)) (partials A B start (length A))

-- the places of the images of A's facts, in plan order
abbrev pub image_places : List Fact → List Fact → List (Val × Val) → List (Val × Val) → List ℕ
image_places A B start h = map (λ f. place_of fact_eq (fact_image (image h) f) B) (planned A B start)

-- the sum of the weights
abbrev pub total : {X : Type 0} → (X → ℕ) → List X → ℕ
total w [] = 0
total w (x ∷ xs) = w x + total w xs

-- the tries below level k: each partial match of fewer than k facts with each place that is tried after it
abbrev pub tries_below : List Fact → List Fact → List (Val × Val) → ℕ → ℕ
tries_below A B start zero = 0
tries_below A B start (suc k) = tries_below A B start k + total (λ ps. length (next_places A B start ps)) (partials A B start k)

-- the tries that listing all homomorphisms takes
abbrev pub need : List Fact → List Fact → List (Val × Val) → ℕ
need A B start = tries_below A B start (length A)

-- h on the constants of the example's target
abbrev pub start_of : DataExample → List (Val × Val) → List (Val × Val)
start_of e h = graph (image h) (consts e.target)

-- the need of a pair of examples: that of the sources, and that of the targets after each homomorphism between them
abbrev pub pairneed : DataExample → DataExample → ℕ
pairneed e f = need e.source f.source [] + total (λ h. need e.target f.target (start_of e h)) (homs e.source f.source [])

-- each constant with itself
abbrev pub constants_fixed : List Fact → List (Val × Val)
constants_fixed J = graph (λ v. v) (consts J)

-- the need of the fold test
abbrev pub foldneed : List Fact → ℕ
foldneed J = need J (ground_part J) (constants_fixed J)
