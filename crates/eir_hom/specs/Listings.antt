-- What a listing of homomorphisms keeps in memory, and what is still to be told by its search (this project's own).
--   Rows                        == choices, each the place of a row among the rows of its level
--   lists_to_come s             == the good full lists of rows that the search has still to tell, in order
--   tries_to_come s             == the tries that it has still to make
--   homs_to_come A B start s    == the homomorphisms at these lists
--   found_hom is_found hom      == the map that was found last, if the last turn found one
--   IsEntry A p g               == g is the entry of the pair p: its members, and the number of the first among A's
--                                  values
--   AreEntries A ps gs          == these are the entries of the first pairs, one by one
--   IsSearch A B start s        == the search goes through the levels and begins with the bindings of A, B and start
--   AreMatches A B start css    == each list is as long as there are levels, and its rows match
--   IsListing                   == all that is true of a listing in memory
use Rattle.std.specs.Prelude.{◌≡◌, ◌↔◌, Bool, cond, ℕ, List, [], ◌∷◌, map, length, Option, Some, None, IsSome}
use Rattle.std.specs.Prelude.{slice_get}
use Rattle.eir_term.specs.declared.val.Val.{Val}
use Rattle.eir_term.specs.declared.fact.Fact.{Fact}
use Rattle.eir_term.specs.Lists.{◌∈◌, IsDistinct}
use Rattle.eir_term.specs.Instances.{values}
use Rattle.eir_term.specs.Maps.{domain_of}
use Rattle.eir_term.specs.Order.{KeepsFixed}
use Rattle.eir_search.specs.Standings.{Standing}
use Rattle.eir_search.specs.Tries.{coming, tries_left, told}
use Rattle.eir_hom.specs.declared.given.Given.{Given}
use Rattle.eir_hom.specs.Matching.{Match, matched, match_space}
use Rattle.eir_hom.specs.Levels.{levels_of, bindings_of, matched_hom}

-- the good full lists of rows that the search has still to tell, in order
abbrev pub lists_to_come : Option (Standing Match) → List (List ℕ)
lists_to_come None = []
lists_to_come (Some s) = told (coming (match_space s.problem.levels s.problem.start) s.choices s.next)

-- the tries that the search has still to make
abbrev pub tries_to_come : Option (Standing Match) → ℕ
tries_to_come None = 0
tries_to_come (Some s) = tries_left (match_space s.problem.levels s.problem.start) s.choices s.next

-- the homomorphisms at the lists that are still to be told
abbrev pub homs_to_come : List Fact → List Fact → List (Val × Val) → Option (Standing Match) → List (List (Val × Val))
homs_to_come A B start s = map (matched_hom A B start) (lists_to_come s)

-- the map that was found last, if the last turn found one
abbrev pub found_hom : Bool → List (Val × Val) → Option (List (Val × Val))
found_hom is_found hom = cond is_found (Some hom) None

-- the entry of a pair: its members, and the number of the first among A's values, if it is one of them
pub record IsEntry (A : List Fact) (p : Val × Val) (g : Given) : Type 0 where
  pub name : g.name ≡ p.0
  pub image : g.image ≡ p.1
  pub slot : (n : ℕ) → (g.slot ≡ Some n) ↔ (slice_get (values A) n ≡ Some p.0)
  pub there : IsSome g.slot ↔ (p.0 ∈ values A)

-- the entries of the first pairs, one by one
abbrev pub AreEntries : List Fact → List (Val × Val) → List Given → Type 0
AreEntries A ps [] = Unit {0}
AreEntries A [] (g ∷ gs) = ⊥
AreEntries A (p ∷ ps) (g ∷ gs) = IsEntry A p g × AreEntries A ps gs

-- the search is there, goes through the levels, and begins with the bindings
abbrev pub IsSearch : List Fact → List Fact → List (Val × Val) → Option (Standing Match) → Type 0
IsSearch A B start None = ⊥
IsSearch A B start (Some s) = (s.problem.levels ≡ levels_of A B start) × (s.problem.start ≡ bindings_of A B start)

-- each list is as long as there are levels, and its rows match
abbrev pub AreMatches : List Fact → List Fact → List (Val × Val) → List (List ℕ) → Type 0
AreMatches A B start css = (cs : List ℕ) → cs ∈ css →
    (length cs ≡ length (levels_of A B start)) × IsSome (matched (levels_of A B start) (bindings_of A B start) cs)

-- what is true of a listing in memory: of its source, target and start, the entries of the start, the map that it
-- writes, and its search
pub record IsListing (A B : List Fact) (start : List (Val × Val)) (given : List Given) (hom : List (Val × Val))
    (search : Option (Standing Match)) : Type 0 where
  pub distinct : IsDistinct B
  pub fixed : KeepsFixed start
  pub names : IsDistinct (domain_of start)
  pub entries : AreEntries A start given
  pub domain : domain_of hom ≡ values A
  pub numbers : IsSearch A B start search
  pub matches : AreMatches A B start (lists_to_come search)
