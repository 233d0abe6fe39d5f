-- The course of a search: the facts of its source in plan order, each with its key column (this project's own).
--   CourseView            == what a contract sees of a course: its source, all shapes, and how many are listed
--   shapes_of A B start   == the shapes of A's facts in plan order
--   IsListed              == how a front stands where the facts at these places are listed
--   IsCourse              == all that is true of a course in memory
use Rattle.std.specs.Prelude.{◌≡◌, ℕ, ◌≤◌, Bool, List, [], ◌++◌, map, length, take, drop}
use Rattle.eir_term.specs.declared.val.Val.{Val}
use Rattle.eir_term.specs.declared.fact.Fact.{Fact}
use Rattle.eir_term.specs.Instances.{values}
use Rattle.eir_term.specs.Bind.{facts_at}
use Rattle.eir_term.specs.Plans.{is_known, plan_from, plan}
use Rattle.eir_hom.specs.declared.front.Seat.{Seat}
use Rattle.eir_hom.specs.declared.course.Shape.{Shape}
use Rattle.eir_hom.specs.Views.{view_of}
use Rattle.eir_hom.specs.Occurring.{Occurring, columns_of, AreMarked}
use Rattle.eir_hom.specs.Fronts.{free_places}
use Rattle.eir_hom.specs.Compiling.{shapes_by}

-- what a contract sees of a course
pub record CourseView : Type 0 where
  pub source : List Fact
  pub shapes : List Shape
  pub listed : ℕ

-- the shapes of A's facts in plan order
abbrev pub shapes_of : List Fact → List Fact → List (Val × Val) → List Shape
shapes_of A B start = shapes_by A (map (is_known start []) (values A)) (plan A B start)

-- where the facts at these places are listed: the seats have their views, the flags say which values are known, and the
-- plan goes on from there
pub record IsListed (A B : List Fact) (start : List (Val × Val)) (known : List Bool) (seats : List Seat)
    (so_far : List ℕ) : Type 0 where
  pub views : map (λ s. s.view) seats ≡ map (view_of B start (facts_at A so_far)) A
  pub marks : AreMarked (values A) start (facts_at A so_far) known
  pub order : plan A B start
      ≡ so_far ++ plan_from A B start (length (free_places seats)) (facts_at A so_far) (free_places seats)

-- the first shapes are made, the front stands after them, the rest follows from the flags, and there is room for all
pub record IsCourse (A B : List Fact) (start : List (Val × Val)) (seats : List Seat) (occurs : Occurring)
    (known : List Bool) (made : List Shape) (capacity : ℕ) : Type 0 where
  pub listed : IsListed A B start known seats (map (λ s. s.place) made)
  pub columns : occurs.columns ≡ columns_of A
  pub numbers : occurs.values ≡ length (values A)
  pub shapes : made ≡ take (length made) (shapes_of A B start)
  pub rest : drop (length made) (shapes_of A B start) ≡ shapes_by A known (drop (length made) (plan A B start))
  pub room : length A ≤ capacity
