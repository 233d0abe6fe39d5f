-- The two words that decide the order and the cost of a search; all else is worded over them (this project's own).
--   is_known start listed v           == whether v is given by the start, is fixed, or occurs in a listed fact
--   weight arity bound count          == what makes a fact late: unknown columns, then facts that it may go to
--   plan A B start                    == the places of A's facts in the order in which they are placed
--   candidates A B start placed f     == the places in B that are tried for the fact f of A
use Rattle.std.specs.Prelude.{ℕ, suc, zero, ◌+◌, ◌-◌, ◌*◌, min, ltb, Bool, true, false, ◌==◌, ◌&&◌, ◌||◌, cond, List, [], ◌∷◌, ◌++◌, filter, length, take, Option, Some, None, is_some, option_map, unwrap_or, slice_get}
use Rattle.std.specs.List.{list_any}
use Rattle.eir_term.specs.declared.val.Val.{Val}
use Rattle.eir_term.specs.declared.fact.Fact.{Fact}
use Rattle.eir_term.specs.Lists.{places}
use Rattle.eir_term.specs.Values.{val_eq, is_fixed}
use Rattle.eir_term.specs.Maps.{get, image}
use Rattle.eir_term.specs.Bind.{bind_facts, facts_at}
use Rattle.eir_term.specs.Profiles.{profile, is_within}

-- whether v is a first member of the start, is fixed, or occurs in one of the facts
abbrev pub is_known : List (Val × Val) → List Fact → Val → Bool
is_known start listed v = is_fixed v || (is_some (get start v) || list_any (λ f. list_any (val_eq v) f.args) listed)

-- the columns of f whose value is known
abbrev pub bound_of : List (Val × Val) → List Fact → Fact → ℕ
bound_of start listed f = length (filter (is_known start listed) f.args)

-- the facts of the relation
abbrev pub count_of : ℕ → List Fact → ℕ
count_of r K = length (filter (λ f. f.rel == r) K)

-- what makes a fact late: columns that are not known, most of all where none is, and then the facts that it may go to
abbrev pub weight : ℕ → ℕ → ℕ → ℕ
weight arity bound count = (arity - bound) * 1048576 + min count 1048575 + cond (bound == 0) 33554432 0

-- the weight of a fact of A where these facts are listed
abbrev pub weight_of : List Fact → List (Val × Val) → List Fact → Fact → ℕ
weight_of B start listed f = weight (length f.args) (bound_of start listed f) (count_of f.rel B)

-- the first place of least weight, among p and these
abbrev pub lightest : (ℕ → ℕ) → ℕ → List ℕ → ℕ
lightest w p [] = p
lightest w p (q ∷ qs) = lightest w (cond (ltb (w q) (w p)) q p) qs

-- the places without p
abbrev pub without_place : ℕ → List ℕ → List ℕ
without_place p qs = filter (λ q. cond (q == p) false true) qs

-- the weight of A's fact at a place
abbrev pub weight_at : List Fact → List Fact → List (Val × Val) → List Fact → ℕ → ℕ
weight_at A B start listed p = unwrap_or (option_map (weight_of B start listed) (slice_get A p)) 0

-- the next n places, where these facts are listed and these places are left: the lightest first
abbrev pub plan_from : List Fact → List Fact → List (Val × Val) → ℕ → List Fact → List ℕ → List ℕ
plan_from A B start zero listed left = []
plan_from A B start (suc n) listed [] = []
plan_from A B start (suc n) listed (p ∷ ps) =
    let q = lightest (weight_at A B start listed) p ps in
    q ∷ plan_from A B start n (listed ++ facts_at A (q ∷ [])) (without_place q (p ∷ ps))

-- the places of A's facts in the order in which they are placed
abbrev pub plan : List Fact → List Fact → List (Val × Val) → List ℕ
plan A B start = plan_from A B start (length A) [] (places (λ f. true) 0 A)

-- whether the value at the first known column is the image
abbrev pub meets_first : (Val → Bool) → (Val → Val) → List Val → List Val → Bool
meets_first known to [] ws = true
meets_first known to (v ∷ vs) [] = true
meets_first known to (v ∷ vs) (w ∷ ws) = cond (known v) (val_eq (to v) w) (meets_first known to vs ws)

-- whether each value's profile in A is within the profile in B of the value at its column; values without a partner
-- at their column fit nothing
abbrev pub fits_profiles : List Fact → List Fact → List Val → List Val → Bool
fits_profiles A B [] [] = true
fits_profiles A B [] (w ∷ ws) = false
fits_profiles A B (v ∷ vs) [] = false
fits_profiles A B (v ∷ vs) (w ∷ ws) = is_within (profile A v) (profile B w) && fits_profiles A B vs ws

-- whether the fact g of B is tried for f, where these facts are listed and m is the map so far: it has the relation, at
-- the first known column the image, and at each column a value that has the profile
abbrev pub is_tried : List Fact → List Fact → List (Val × Val) → List Fact → List (Val × Val) → Fact → Fact → Bool
is_tried A B start listed m f g =
    (f.rel == g.rel) && (meets_first (is_known start listed) (image m) f.args g.args && fits_profiles A B f.args g.args)

-- the places in B that are tried for f, where these facts are listed and this is the map so far, if there is one
abbrev pub tried_after : List Fact → List Fact → List (Val × Val) → List Fact → Option (List (Val × Val)) → Fact → List ℕ
tried_after A B start listed None f = []
tried_after A B start listed (Some m) f = places (is_tried A B start listed m f) 0 B

-- the facts of A that are listed first
abbrev pub listed_first : List Fact → List Fact → List (Val × Val) → ℕ → List Fact
listed_first A B start k = facts_at A (take k (plan A B start))

-- the places in B that are tried for the fact f of A, after the images of the plan's first facts
abbrev pub candidates : List Fact → List Fact → List (Val × Val) → List ℕ → Fact → List ℕ
candidates A B start placed f =
    let listed = listed_first A B start (length placed) in
    tried_after A B start listed (bind_facts start listed (facts_at B placed)) f
