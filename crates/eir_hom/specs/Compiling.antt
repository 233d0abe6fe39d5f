-- What a problem in numbers is made from (this project's own).
--   Draft                     == a level before it is compiled
--   given_image B start v     == the number of the image of v, where the start gives v or v is fixed
--   first_set known p ns      == the first column, counted on from p, whose number is marked
--   marked known ns           == these flags with these numbers marked
--   shapes_by A known ps      == the shapes of the facts at these places, in this order
--   drafts_of n ss            == the drafts of levels with these shapes, each with a table of its own, from n on
--   AreDrafts A B tables ds ss == each draft has one of these shapes, and names a table of its shape
use Rattle.std.specs.Prelude.{◌≡◌, ℕ, suc, ◌<◌, ◌==◌, Bool, false, true, cond, List, [], ◌∷◌, length, Option, Some}
use Rattle.std.specs.Prelude.{None, slice_index, slice_index_or, slice_set}
use Rattle.eir_term.specs.declared.val.Val.{Val}
use Rattle.eir_term.specs.declared.fact.Fact.{Fact}
use Rattle.eir_term.specs.Values.{is_fixed}
use Rattle.eir_term.specs.Instances.{values}
use Rattle.eir_term.specs.Maps.{image}
use Rattle.eir_term.specs.Plans.{is_known}
use Rattle.eir_hom.specs.declared.course.Shape.{Shape}
use Rattle.eir_hom.specs.Levels.{number}
use Rattle.eir_hom.specs.FactRows.{numbers_at, row_at}
use Rattle.eir_hom.specs.Matching.{Bindings, Level}
use Rattle.eir_hom.specs.Columns.{is_among, seen_after}
use Rattle.eir_hom.specs.Tables.{Table}
use Rattle.eir_hom.specs.Stocks.{no_table, shape_table, IsShape}

-- a level before it is compiled: its shape, and the number of its table
pub record Draft : Type 0 where
  pub shape : Shape
  pub table : ℕ

-- the number of the image of v, where the start gives v or v is fixed
abbrev pub given_image : List Fact → List (Val × Val) → Val → Option ℕ
given_image B start v = cond (is_known start [] v) (Some (number B (image start v))) None

-- the first of the two that is there
abbrev pub or_else : {X : Type 0} → Option X → Option X → Option X
or_else None y = y
or_else (Some x) y = Some x

-- whether the number is n
abbrev pub is_here : Option ℕ → ℕ → Bool
is_here None n = false
is_here (Some m) n = m == n

-- an image, or the number of the value itself where it has none and is fixed
abbrev pub with_fixed : List Fact → Option ℕ → Option Val → Option ℕ
with_fixed B image None = image
with_fixed B image (Some v) = or_else image (cond (is_fixed v) (Some (number B v)) None)

-- the first column, counted on from p, whose number is marked
abbrev pub first_set : List Bool → ℕ → List ℕ → Option ℕ
first_set known p [] = None
first_set known p (n ∷ ns) = cond (slice_index_or known n false) (Some p) (first_set known (suc p) ns)

-- these flags with these numbers marked
abbrev pub marked : List Bool → List ℕ → List Bool
marked known [] = known
marked known (n ∷ ns) = marked (slice_set known n true) ns

-- the shapes of the facts at these places: the column of each is the first that is marked by then
abbrev pub shapes_by : List Fact → List Bool → List ℕ → List Shape
shapes_by A known [] = []
shapes_by A known (p ∷ ps) =
    record { place = p; column = first_set known 0 (numbers_at A p) } ∷ shapes_by A (marked known (numbers_at A p)) ps

-- the drafts of levels with these shapes, each with a table of its own, counted on from n
abbrev pub drafts_of : ℕ → List Shape → List Draft
drafts_of n [] = []
drafts_of n (s ∷ ss) = record { shape = s; table = n } ∷ drafts_of (suc n) ss

-- these are places of facts
abbrev pub ArePlaces : List Fact → List ℕ → Type 0
ArePlaces A [] = Unit {0}
ArePlaces A (p ∷ ps) = (p < length A) × ArePlaces A ps

-- each draft has one of these shapes, and names a table of its shape
abbrev pub AreDrafts : List Fact → List Fact → List Table → List Draft → List Shape → Type 0
AreDrafts A B tables [] [] = Unit {0}
AreDrafts A B tables [] (s ∷ ss) = ⊥
AreDrafts A B tables (d ∷ ds) [] = ⊥
AreDrafts A B tables (d ∷ ds) (s ∷ ss) =
    (d.shape ≡ s) × (d.table < length tables) × (slice_index_or tables d.table no_table ≡ shape_table A B s)
    × AreDrafts A B tables ds ss

-- the slots of the values with an image and its number, counted on from n
abbrev pub bindings_from : ℕ → List (Option ℕ) → Bindings
bindings_from n [] = []
bindings_from n (None ∷ images) = bindings_from (suc n) images
bindings_from n (Some w ∷ images) = (n, w) ∷ bindings_from (suc n) images

-- the slot of the number at the column; of no value where no column is named
abbrev pub slot_in : ℕ → Option ℕ → List ℕ → ℕ
slot_in none None ns = none
slot_in none (Some i) ns = slice_index ns i

-- the level of a draft
abbrev pub draft_level : List Fact → List Table → Draft → Level
draft_level A tables d = record {
  key = slot_in (length (values A)) d.shape.column (numbers_at A d.shape.place);
  slots = row_at A d.shape.column d.shape.place;
  rows = (slice_index_or tables d.table no_table).rows;
}

-- each draft is of a fact, names a table with rows of its length, and has a key that is bound before it
abbrev pub AreReadyDrafts : List Fact → List Table → List ℕ → List Draft → Type 0
AreReadyDrafts A tables seen [] = Unit {0}
AreReadyDrafts A tables seen (d ∷ ds) =
    IsShape A d.shape × (d.table < length tables)
    × ((slice_index_or tables d.table no_table).stride ≡ length (row_at A d.shape.column d.shape.place))
    × (is_among (draft_level A tables d).key seen ≡ true)
    × AreReadyDrafts A tables (seen_after seen (row_at A d.shape.column d.shape.place)) ds
