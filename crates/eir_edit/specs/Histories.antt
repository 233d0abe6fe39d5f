-- Named data examples with versions, and their history: the present list, with older lists that an undo goes back to
-- (this project's own; data examples are those of Alexe, ten Cate, Kolaitis, Tan 2011).
--   Example               == a name, a version, a source instance and a target instance
--   History               == the present list of examples, and the older lists, the newest first
--   history_of xs older   == the history of this list and these older ones
--   has_name w x          == the example has the name
--   is_present w xs       == an example of the list has the name
--   find_example w xs     == the example of the name, or nothing
--   facts_on side x       == the facts of a side of an example
--   facts_in w side xs    == the facts of a side of the example of the name, none where there is none
--   holds f fs            == the fact is among these
--   changed w change xs   == the example of the name is changed, the others stay
--   dropped w xs          == the list without the example of the name
--   edited xs h           == xs is the present list, and the list before it is the newest of 32 older ones
--   undone h              == the newest older list is the present one
--   is_live v h           == an example of the version is in the present list or in an older one
use Rattle.std.specs.Prelude.{ℕ, Bool, ◌==◌, cond, List, [], ◌∷◌, take, Option, None, option_map, find, unwrap_or}
use Rattle.std.specs.List.{list_any}
use Rattle.std.specs.Str.{bytes_eq}
use Rattle.eir_term.specs.declared.val.Side.{Side}
use Rattle.eir_term.specs.declared.val.Side.TheVariants.{Source, Target}
use Rattle.eir_term.specs.declared.fact.Fact.{Fact}
use Rattle.eir_term.specs.Facts.{fact_eq}

-- a name, a version, a source instance and a target instance
pub record Example : Type 0 where
  pub name : List ℕ
  pub version : ℕ
  pub source : List Fact
  pub target : List Fact

-- the present list of examples, and the older lists, the newest first
pub record History : Type 0 where
  pub list : List Example
  pub undo : List (List Example)

-- the history of this list and these older ones
abbrev pub history_of : List Example → List (List Example) → History
history_of xs older = record { list = xs; undo = older }

-- where a workspace begins
abbrev pub empty_history : History
empty_history = record { list = []; undo = [] }

-- the example has the name
abbrev pub has_name : List ℕ → Example → Bool
has_name name x = bytes_eq name x.name

-- an example of the list has the name
abbrev pub is_present : List ℕ → List Example → Bool
is_present name xs = list_any (has_name name) xs

-- the example of the name, or nothing
abbrev pub find_example : List ℕ → List Example → Option Example
find_example name xs = find (has_name name) xs

-- the facts of a side of an example
abbrev pub facts_on : Side → Example → List Fact
facts_on Source x = x.source
facts_on Target x = x.target

-- the example with these facts on a side
abbrev pub with_facts : Side → List Fact → Example → Example
with_facts Source fs x = record x { source = fs }
with_facts Target fs x = record x { target = fs }

-- the facts of a side of the example of the name, none where there is none
abbrev pub facts_in : List ℕ → Side → List Example → List Fact
facts_in name side xs = unwrap_or (option_map (facts_on side) (find_example name xs)) []

-- the fact is among these
abbrev pub holds : Fact → List Fact → Bool
holds f fs = list_any (fact_eq f) fs

-- the example of the name is changed, the others stay
abbrev pub changed : List ℕ → (Example → Example) → List Example → List Example
changed name change [] = []
changed name change (x ∷ xs) = cond (has_name name x) (change x ∷ xs) (x ∷ changed name change xs)

-- the list without the example of the name
abbrev pub dropped : List ℕ → List Example → List Example
dropped name [] = []
dropped name (x ∷ xs) = cond (has_name name x) xs (x ∷ dropped name xs)

-- the list is the present one, and the list before it is the newest of 32 older ones
abbrev pub edited : List Example → History → History
edited xs h = record { list = xs; undo = take 32 (h.list ∷ h.undo) }

-- the newest of these older lists is the present one
abbrev pub undone_to : List (List Example) → History → History
undone_to [] h = h
undone_to (xs ∷ older) h = record { list = xs; undo = older }

abbrev pub undone : History → History
undone h = undone_to h.undo h

-- the present list, and the older ones
abbrev pub lists_of : History → List (List Example)
lists_of h = h.list ∷ h.undo

-- an example of the list has the version
abbrev pub has_version : ℕ → List Example → Bool
has_version v xs = list_any (λ x. x.version == v) xs

-- an example of the version is in the present list or in an older one
abbrev pub is_live : ℕ → History → Bool
is_live v h = list_any (has_version v) (lists_of h)
