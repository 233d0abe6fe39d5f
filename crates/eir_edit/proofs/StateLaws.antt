-- What joins the clauses of a schema and of the examples to the state, and what every act keeps.
use Rattle.std.proofs.Common.{◌≡◌, ℕ, suc, ◌<◌, Bool, true, false, cond, not, List, [], ◌∷◌, ◌++◌, map, length, Option, Some, None, option_map, refl, sym, ◌∙◌, ap, inl, inr, arith}
use Rattle.std.specs.Prelude.{◌==◌}
use Rattle.std.specs.Str.{bytes_eq}
use Rattle.std.proofs.lemmas.Bool.{cases_Bool, false≢true}
use Rattle.std.proofs.lemmas.Bool.Decides.{Decides-eqb}
use Rattle.eir_term.specs.declared.val.Side.{Side}
use Rattle.eir_schema.specs.declared.refused.DeclareRefused.{DeclareRefused}
use Rattle.eir_schema.specs.declared.relation.RelInfo.{RelInfo}
use Rattle.eir_schema.specs.Schemas.{Relation, find_relation}
use Rattle.eir_schema.specs.Declarations as declarations
use Rattle.eir_schema.specs.Stamps.{stamp}
use Rattle.eir_edit.specs.Causes.{Cause, relation, arity, null, foreign, first_cause, declared_cause}
use Rattle.eir_edit.specs.Histories.{Example, History}
use Rattle.eir_edit.specs.Edits.{Loan, last_version, versioned, is_null_in_source, put_on, cut_from, new_example, put_tests, cut_tests, borrow_tests, loan_tests, lent_stamp, lent}
use Rattle.eir_edit.specs.State as state
use Rattle.eir_edit.specs.State.{Act, Desk, Given, relation_of, fact_of, fact_tests, declare_tests, tests, refusal, done, unless, after}
use Rattle.eir_edit.specs.Goods.{IsGoodHistory, IsGoodDesk, IsGoodAct}
use Rattle.eir_edit.proofs.CauseLaws.{NoneHolds-from_none, first_cause-append, first_cause-before, first_cause-front}
use Rattle.eir_edit.proofs.GoodLaws.{IsGoodHistory-edited, IsGoodHistory-undone, IsGoodList-add, IsGoodList-put, IsGoodList-cut, IsGoodList-drop, IsGoodList-borrow}

-- ---- a declaration, by the clause of a schema

first_cause-declared : (ts : List (Bool × DeclareRefused)) → first_cause (map (λ t. (t.0, declared_cause t.1)) ts) ≡ option_map declared_cause (declarations.first_cause ts)
first_cause-declared [] = refl
first_cause-declared (t ∷ ts) = elim (cases_Bool t.0) [ inl s ↦ rw s refl | inr s ↦ rw s (first_cause-declared ts) ]

pub refusal-declare : (side : Side) (name : List ℕ) (columns : List (List ℕ)) (d : Desk) → refusal (state.declare side name columns) d ≡ option_map declared_cause (declarations.refusal d.schema (record { side = side; name = name; columns = columns }))
refusal-declare side name columns d = first_cause-declared (declarations.declaration_tests d.schema (record { side = side; name = name; columns = columns }))

-- ---- a fact, by the relation that is found

module _ (g : Given) (schema : List Relation) where
  pub unknown-first : find_relation schema g.relation ≡ None → first_cause (fact_tests g schema) ≡ Some relation
  unknown-first e = rw e refl

  module _ (r : RelInfo) (found : find_relation schema g.relation ≡ Some r) where
    pub arity-first : (length g.args ≡ r.arity → ⊥) → first_cause (fact_tests g schema) ≡ Some arity
    arity-first differs = elim (cases_Bool (length g.args == r.arity)) [
      | inl t ↦ absurd (differs ((Decides-eqb (length g.args) r.arity).0 t))
      | inr t ↦ rw (found, t) refl
    ]

    pub null-first : length g.args ≡ r.arity → is_null_in_source r.side g.args ≡ true → first_cause (fact_tests g schema) ≡ Some null
    null-first same n = let t : (length g.args == r.arity) ≡ true = (Decides-eqb (length g.args) r.arity).1 same in rw (found, t, n) refl

    pub fact-none : length g.args ≡ r.arity → is_null_in_source r.side g.args ≡ false → first_cause (fact_tests g schema) ≡ None
    fact-none same n = let t : (length g.args == r.arity) ≡ true = (Decides-eqb (length g.args) r.arity).1 same in rw (found, t, n) refl

module _ (e : List ℕ) (g : Given) (d : Desk) where
  -- a fact that is refused by itself is not put, nor cut
  pub refusal-put_before : (c : Cause) → first_cause (fact_tests g d.schema) ≡ Some c → refusal (state.put e g) d ≡ Some c
  refusal-put_before c t = first_cause-before (fact_tests g d.schema) (put_tests d.limit e (relation_of g d.schema).side (fact_of g d.schema) d.history) c t

  pub refusal-cut_before : (c : Cause) → first_cause (fact_tests g d.schema) ≡ Some c → refusal (state.cut e g) d ≡ Some c
  refusal-cut_before c t = first_cause-before (fact_tests g d.schema) (cut_tests e (relation_of g d.schema).side (fact_of g d.schema) d.history) c t

  -- and else the examples say why
  pub refusal-put : first_cause (fact_tests g d.schema) ≡ None → refusal (state.put e g) d ≡ first_cause (put_tests d.limit e (relation_of g d.schema).side (fact_of g d.schema) d.history)
  refusal-put none = first_cause-append (fact_tests g d.schema) (put_tests d.limit e (relation_of g d.schema).side (fact_of g d.schema) d.history) none

  pub refusal-cut : first_cause (fact_tests g d.schema) ≡ None → refusal (state.cut e g) d ≡ first_cause (cut_tests e (relation_of g d.schema).side (fact_of g d.schema) d.history)
  refusal-cut none = first_cause-append (fact_tests g d.schema) (cut_tests e (relation_of g d.schema).side (fact_of g d.schema) d.history) none

-- while a version is left, the versions refuse nothing
pub first_cause-versioned : (n : ℕ) (ts : List (Bool × Cause)) → n < last_version → first_cause (versioned n ts) ≡ first_cause ts
first_cause-versioned n [] below = elim (cases_Bool (n == last_version)) [
  | inl t ↦ (let k : n ≡ last_version = (Decides-eqb n last_version).0 t in absurd (omega arith))
  | inr t ↦ rw t refl
]
first_cause-versioned n (t ∷ ts) below = ap (cond t.0 (Some t.1)) (first_cause-versioned n ts below)

-- ---- an act is refused or done

pub after-refused : (fresh : ℕ) (a : Act) (d : Desk) (c : Cause) → refusal a d ≡ Some c → after fresh a d ≡ d
after-refused fresh a d c e = ap (λ r. unless r d (done fresh a d)) e

pub after-done : (fresh : ℕ) (a : Act) (d : Desk) → refusal a d ≡ None → after fresh a d ≡ done fresh a d
after-done fresh a d e = ap (λ r. unless r d (done fresh a d)) e

-- ---- every act keeps a desk good

good-put : (fresh : ℕ) (e : List ℕ) (g : Given) (d : Desk) → IsGoodDesk d → refusal (state.put e g) d ≡ None → IsGoodDesk (done fresh (state.put e g) d)
good-put fresh e g d good none =
    let own = first_cause-front (fact_tests g d.schema) (put_tests d.limit e (relation_of g d.schema).side (fact_of g d.schema) d.history) none in
    let n = NoneHolds-from_none (fact_tests g d.schema) own in
    let rest = sym (refusal-put e g d own) ∙ none in
    IsGoodHistory-edited d.limit _ d.history good (IsGoodList-put d.limit fresh e (relation_of g d.schema).side (fact_of g d.schema) d.history good n.1.1.0 rest)

good-done : (fresh : ℕ) (a : Act) (d : Desk) → IsGoodDesk d → IsGoodAct d.limit a → refusal a d ≡ None → IsGoodDesk (done fresh a d)
good-done fresh (state.declare side name columns) d good fine none = good
good-done fresh (state.add e) d good fine none = IsGoodHistory-edited d.limit _ d.history good (IsGoodList-add d.limit fresh e d.history good none)
good-done fresh (state.put e g) d good fine none = good-put fresh e g d good none
good-done fresh (state.cut e g) d good fine none = IsGoodHistory-edited d.limit _ d.history good (IsGoodList-cut d.limit fresh e (relation_of g d.schema).side (fact_of g d.schema) d.history good)
good-done fresh (state.drop e) d good fine none = IsGoodHistory-edited d.limit _ d.history good (IsGoodList-drop d.limit e d.history good)
good-done fresh state.undo_last d good fine none = IsGoodHistory-undone d.limit d.history good
good-done fresh (state.borrow e loan) d good fine none =
    let mine = stamp d.schema in
    let theirs = lent_stamp mine loan in
    IsGoodHistory-edited d.limit _ d.history good (
    IsGoodList-borrow d.limit e loan d.history good fine (first_cause-front (loan_tests e loan d.history) ((not (bytes_eq mine theirs), foreign mine theirs) ∷ []) none)
    )
good-done fresh (state.set_kind k) d good fine none = good
good-done fresh (state.set_budget n) d good fine none = good

pub IsGoodDesk-after : (fresh : ℕ) (a : Act) (d : Desk) → IsGoodDesk d → IsGoodAct d.limit a → IsGoodDesk (after fresh a d)
IsGoodDesk-after fresh a d good fine = by (refusal a d) refl
  where
    by : (o : Option Cause) → refusal a d ≡ o → IsGoodDesk (unless o d (done fresh a d))
    by None e = good-done fresh a d good fine e
    by (Some c) e = good
