-- The state of one workspace as a fold of acts: each is refused by the first of an ordered list of tests, or done (this
-- project's own).
--   Desk             == the schema, the examples with their history, kind, budget, and the most facts of an instance
--   Given            == a fact as a line gives it: the name of its relation, and values
--   Act              == what a line may ask for
--   tests a d        == the refusals of an act, in the order in which they are tested
--   refusal a d      == the first cause whose test holds, or nothing
--   done fresh a d   == what an act does that is not refused; fresh is the version that an example gets
--   after fresh a d  == the desk after the act; a refused one leaves it
--   drawn_after n a d == the number of versions drawn after the act, n before it
--   state budget as  == the state after these acts, from the empty one on
use Rattle.std.specs.Prelude.{ℕ, suc, Bool, true, false, not, ◌==◌, cond, List, [], ◌∷◌, ◌++◌, map, length, fold, Option, Some, None, is_none, unwrap_or}
use Rattle.eir_term.specs.declared.val.Side.{Side}
use Rattle.eir_term.specs.declared.val.Side.TheVariants.{Target}
use Rattle.eir_term.specs.declared.val.Kind.{Kind}
use Rattle.eir_term.specs.declared.val.Kind.TheVariants.{Glav}
use Rattle.eir_term.specs.declared.val.Val.{Val}
use Rattle.eir_term.specs.declared.fact.Fact.{Fact}
use Rattle.eir_schema.specs.declared.relation.RelInfo.{RelInfo}
use Rattle.eir_schema.specs.Schemas.{Relation, find_relation}
use Rattle.eir_schema.specs.Declarations.{declaration_tests}
use Rattle.eir_schema.specs.Stamps.{stamp}
use Rattle.eir_edit.specs.Causes.{Cause, relation, arity, null, first_cause, declared_cause}
use Rattle.eir_edit.specs.Histories.{Example, History, empty_history, undone}
use Rattle.eir_edit.specs.Edits.{Loan, is_null_in_source, add_tests, add_done, put_tests, put_done, cut_tests, cut_done, drop_tests, drop_done, undo_tests, borrow_tests, borrow_done}

-- the schema, the examples with their history, kind, budget, and the most facts of an instance
pub record Desk : Type 0 where
  pub schema : List Relation
  pub history : History
  pub kind : Kind
  pub budget : ℕ
  pub limit : ℕ

-- a fact as a line gives it: the name of its relation, and values
pub record Given : Type 0 where
  pub relation : List ℕ
  pub args : List Val

pub data Act : Type 0 where
  declare : Side → List ℕ → List (List ℕ) → Act
  add : List ℕ → Act
  put : List ℕ → Given → Act
  cut : List ℕ → Given → Act
  drop : List ℕ → Act
  undo_last : Act
  borrow : List ℕ → Option Loan → Act
  set_kind : Kind → Act
  set_budget : ℕ → Act

-- what is told of a relation that is not declared; only a refused line meets it
abbrev pub no_relation : RelInfo
no_relation = record { number = 0; side = Target; arity = 0 }

-- number, side and arity of the relation of the fact
abbrev pub relation_of : Given → List Relation → RelInfo
relation_of g schema = unwrap_or (find_relation schema g.relation) no_relation

-- the fact with the number of its relation
abbrev pub fact_of : Given → List Relation → Fact
fact_of g schema = record { rel = (relation_of g schema).number; args = g.args }

-- of a fact: its relation, the number of its values, a null of a source
abbrev pub fact_tests : Given → List Relation → List (Bool × Cause)
fact_tests g schema =
    (is_none (find_relation schema g.relation), relation)
    ∷ (not (length g.args == (relation_of g schema).arity), arity)
    ∷ (is_null_in_source (relation_of g schema).side g.args, null) ∷ []

-- of a declaration, as the schema has them
abbrev pub declare_tests : Relation → List Relation → List (Bool × Cause)
declare_tests r schema = map (λ t. (t.0, declared_cause t.1)) (declaration_tests schema r)

-- the refusals of each act, in order
abbrev pub tests : Act → Desk → List (Bool × Cause)
tests (declare side name columns) d = declare_tests (record { side = side; name = name; columns = columns }) d.schema
tests (add e) d = add_tests e d.history
tests (put e g) d = fact_tests g d.schema ++ put_tests d.limit e (relation_of g d.schema).side (fact_of g d.schema) d.history
tests (cut e g) d = fact_tests g d.schema ++ cut_tests e (relation_of g d.schema).side (fact_of g d.schema) d.history
tests (drop e) d = drop_tests e d.history
tests undo_last d = undo_tests d.history
tests (borrow e loan) d = borrow_tests (stamp d.schema) e loan d.history
tests (set_kind k) d = []
tests (set_budget n) d = []

-- what each act does where it is not refused; fresh is the version that an example gets
abbrev pub done : ℕ → Act → Desk → Desk
done fresh (declare side name columns) d = record d { schema = d.schema ++ (record { side = side; name = name; columns = columns }) ∷ [] }
done fresh (add e) d = record d { history = add_done fresh e d.history }
done fresh (put e g) d = record d { history = put_done fresh e (relation_of g d.schema).side (fact_of g d.schema) d.history }
done fresh (cut e g) d = record d { history = cut_done fresh e (relation_of g d.schema).side (fact_of g d.schema) d.history }
done fresh (drop e) d = record d { history = drop_done e d.history }
done fresh undo_last d = record d { history = undone d.history }
done fresh (borrow e loan) d = record d { history = borrow_done loan d.history }
done fresh (set_kind k) d = record d { kind = k }
done fresh (set_budget n) d = record d { budget = n }

-- whether the act, where it is not refused, draws a version
abbrev pub draws : Act → Bool
draws (add e) = true
draws (put e g) = true
draws (cut e g) = true
draws a = false

-- why the act is refused, or nothing
abbrev pub refusal : Act → Desk → Option Cause
refusal a d = first_cause (tests a d)

-- what was, where there is a cause, and else what is new
abbrev pub unless : {X : Type 0} → Option Cause → X → X → X
unless None old new = new
unless (Some c) old new = old

-- the desk after the act; a refused one leaves it
abbrev pub after : ℕ → Act → Desk → Desk
after fresh a d = unless (refusal a d) d (done fresh a d)

-- the number of versions drawn after the act
abbrev pub drawn_after : ℕ → Act → Desk → ℕ
drawn_after n a d = unless (refusal a d) n (cond (draws a) (suc n) n)

-- one desk alone, with the number of versions drawn
pub record Work : Type 0 where
  pub drawn : ℕ
  pub desk : Desk

abbrev pub work_after : Work → Act → Work
work_after w a = record { drawn = drawn_after w.drawn a w.desk; desk = after w.drawn a w.desk }

-- where a workspace begins
abbrev pub new_desk : ℕ → Desk
new_desk budget = record { schema = []; history = empty_history; kind = Glav; budget = budget; limit = 512 }

-- the state after these acts
abbrev pub state : ℕ → List Act → Work
state budget acts = fold work_after (record { drawn = 0; desk = new_desk budget }) acts
