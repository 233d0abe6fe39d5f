-- What a planner is asked about (this project's own).
--   IsView view                 == the view of a fact that can be: 1 to 16 columns, of which no more are known
--   view_weight view             == the weight of a fact with this view
--   view_of B start listed f     == the view of a fact where these facts are listed
use Rattle.std.specs.Prelude.{ℕ, ◌<◌, ◌≤◌, ◌^◌, List, length}
use Rattle.eir_term.specs.declared.val.Val.{Val}
use Rattle.eir_term.specs.declared.fact.Fact.{Fact}
use Rattle.eir_term.specs.Plans.{weight, bound_of, count_of}
use Rattle.eir_hom.specs.declared.atom_view.AtomView.{AtomView}

-- the view of a fact that can be: 1 to 16 columns, of which no more are known
pub record IsView (view : AtomView) : Type 0 where
  pub relation : view.rel < 2 ^ 32
  pub some : 1 ≤ view.arity
  pub few : view.arity ≤ 16
  pub known : view.bound ≤ view.arity
  pub facts : view.count < 2 ^ 64

-- the weight of a fact with this view
abbrev pub view_weight : AtomView → ℕ
view_weight view = weight view.arity view.bound view.count

-- the view of a fact where these facts are listed
abbrev pub view_of : List Fact → List (Val × Val) → List Fact → Fact → AtomView
view_of B start listed f = record {
  rel = f.rel;
  arity = length f.args;
  bound = bound_of start listed f;
  count = count_of f.rel B;
}
