-- The definitions computed on worked examples.
use Rattle.std.specs.Prelude.{◌≡◌, ℕ, true, false, List, [], ◌∷◌, refl}
use Rattle.eir_term.specs.declared.val.Val.{Val}
use Rattle.eir_term.specs.declared.val.Val.TheVariants.{Const, Fixed, Null}
use Rattle.eir_term.specs.declared.fact.Fact.{Fact}
use Rattle.eir_term.specs.declared.val.Kind.TheVariants.{Glav, Gav}
use Rattle.eir_term.specs.declared.term.Term.{Term}
use Rattle.eir_term.specs.declared.term.Term.TheVariants.{Var, Fixed as FixedTerm}
use Rattle.eir_term.specs.declared.term.Atom.{Atom}
use Rattle.eir_term.specs.Fitting.{DataExample}
use Rattle.eir_term.specs.Canonical.{canon}
use Rattle.eir_term.specs.Profiles.{profile}
use Rattle.eir_term.specs.Plans.{plan}
use Rattle.eir_term.specs.Search.{need, pairneed, foldneed}
use Rattle.eir_term.specs.Verdicts.{verdict, foreign_at, no_fold_at, refuted, fits, has_fold}

-- relation 0 is of the source, relation 1 of the target
abbrev pub source_fact : List Val → Fact
source_fact vs = record { rel = 0; args = vs }

abbrev pub target_fact : List Val → Fact
target_fact vs = record { rel = 1; args = vs }

abbrev pub source_atom : List Term → Atom
source_atom ts = record { rel = 0; args = ts }

abbrev pub target_atom : List Term → Atom
target_atom ts = record { rel = 1; args = ts }

-- Emp(ann,hr) with Works(ann,?b)
abbrev pub one_employee : List DataExample
one_employee = record { source = source_fact (Const 0 ∷ Const 1 ∷ []) ∷ []; target = target_fact (Const 0 ∷ Null 2 ∷ []) ∷ [] } ∷ []

-- Emp(x1,x2) -> exists y1 . Works(x1,y1)
pub one_employee-glav : verdict Glav one_employee ≡ fits (record {
  premise = source_atom (Var 1 ∷ Var 2 ∷ []) ∷ [];
  exists = 3 ∷ [];
  conclusion = target_atom (Var 1 ∷ Var 3 ∷ []) ∷ [];
} ∷ [])
one_employee-glav = refl

pub one_employee-gav : verdict Gav one_employee ≡ no_fold_at 0
one_employee-gav = refl

-- Emp(ann,hr) with Works(ann,hr); Emp(bob,it) and Emp(cy,it) with Works(bob,it)
abbrev pub two_departments : List DataExample
two_departments =
    record { source = source_fact (Const 0 ∷ Const 1 ∷ []) ∷ []; target = target_fact (Const 0 ∷ Const 1 ∷ []) ∷ [] }
    ∷ record {
      source = source_fact (Const 2 ∷ Const 3 ∷ []) ∷ source_fact (Const 4 ∷ Const 3 ∷ []) ∷ [];
      target = target_fact (Const 2 ∷ Const 3 ∷ []) ∷ [];
    } ∷ []

-- ann goes to cy and hr to it
pub two_departments-glav : verdict Glav two_departments ≡ refuted 0 1 ((Const 0, Const 4) ∷ (Const 1, Const 3) ∷ [])
two_departments-glav = refl

-- R(a,b) and R(b,a) with T(a)
abbrev pub symmetric : List DataExample
symmetric = record {
  source = source_fact (Const 0 ∷ Const 1 ∷ []) ∷ source_fact (Const 1 ∷ Const 0 ∷ []) ∷ [];
  target = target_fact (Const 0 ∷ []) ∷ [];
} ∷ []

pub symmetric-glav : verdict Glav symmetric ≡ refuted 0 0 ((Const 0, Const 1) ∷ (Const 1, Const 0) ∷ [])
symmetric-glav = refl

-- R(a) with T(zed)
abbrev pub foreign_target : List DataExample
foreign_target = record { source = source_fact (Const 0 ∷ []) ∷ []; target = target_fact (Const 1 ∷ []) ∷ [] } ∷ []

pub foreign_target-glav : verdict Glav foreign_target ≡ foreign_at 0 (Const 1)
foreign_target-glav = refl

-- no source fact, with T(?n)
abbrev pub empty_source : List DataExample
empty_source = record { source = []; target = target_fact (Null 0 ∷ []) ∷ [] } ∷ []

-- true -> exists y1 . T(y1)
pub empty_source-glav : verdict Glav empty_source ≡ fits (record { premise = []; exists = 1 ∷ []; conclusion = target_atom (Var 1 ∷ []) ∷ [] } ∷ [])
empty_source-glav = refl

pub empty_source-gav : verdict Gav empty_source ≡ no_fold_at 0
empty_source-gav = refl

-- R(a) with T(a) and T(?n)
abbrev pub spare_null : List DataExample
spare_null =
    record { source = source_fact (Const 0 ∷ []) ∷ []; target = target_fact (Const 0 ∷ []) ∷ target_fact (Null 1 ∷ []) ∷ [] } ∷ []

-- R(x1) -> exists y1 . T(x1) & T(y1)
pub spare_null-glav : verdict Glav spare_null ≡ fits (record {
  premise = source_atom (Var 1 ∷ []) ∷ [];
  exists = 2 ∷ [];
  conclusion = target_atom (Var 1 ∷ []) ∷ target_atom (Var 2 ∷ []) ∷ [];
} ∷ [])
spare_null-glav = refl

-- R(x1) -> T(x1)
pub spare_null-gav : verdict Gav spare_null ≡ fits (record {
  premise = source_atom (Var 1 ∷ []) ∷ [];
  exists = [];
  conclusion = target_atom (Var 1 ∷ []) ∷ [];
} ∷ [])
spare_null-gav = refl

-- T(a,?n) and T(a,b): the null goes to b
abbrev pub folding : List Fact
folding = target_fact (Const 0 ∷ Null 2 ∷ []) ∷ target_fact (Const 0 ∷ Const 1 ∷ []) ∷ []

pub folding-folds : has_fold folding ≡ true
folding-folds = refl

-- the one ground fact is tried for each of the two
pub folding-need : foldneed folding ≡ 2
folding-need = refl

-- T(a,?n) and T(b,c): a fold moves no constant, so the first fact has nowhere to go
abbrev pub rigid : List Fact
rigid = target_fact (Const 0 ∷ Null 3 ∷ []) ∷ target_fact (Const 1 ∷ Const 2 ∷ []) ∷ []

pub rigid-stuck : has_fold rigid ≡ false
rigid-stuck = refl

-- T(a,?n), T(?n,b), T(a,c) and T(d,b): the null would go to c in the first fact and to d in the second
abbrev pub torn : List Fact
torn =
    target_fact (Const 0 ∷ Null 4 ∷ []) ∷ target_fact (Null 4 ∷ Const 1 ∷ [])
    ∷ target_fact (Const 0 ∷ Const 2 ∷ []) ∷ target_fact (Const 3 ∷ Const 1 ∷ []) ∷ []

pub torn-stuck : has_fold torn ≡ false
torn-stuck = refl

-- R(a,b) with T(b), T(?n) and T(a)
abbrev pub both_columns : List DataExample
both_columns = record {
  source = source_fact (Const 0 ∷ Const 1 ∷ []) ∷ [];
  target = target_fact (Const 1 ∷ []) ∷ target_fact (Null 2 ∷ []) ∷ target_fact (Const 0 ∷ []) ∷ [];
} ∷ []

-- R(x1,x2) -> T(x2); R(x1,x2) -> T(x1)
pub both_columns-canon : canon Gav both_columns ≡
    record { premise = source_atom (Var 1 ∷ Var 2 ∷ []) ∷ []; exists = []; conclusion = target_atom (Var 2 ∷ []) ∷ [] }
    ∷ record {
      premise = source_atom (Var 1 ∷ Var 2 ∷ []) ∷ [];
      exists = [];
      conclusion = target_atom (Var 1 ∷ []) ∷ [];
    } ∷ []
both_columns-canon = refl

pub both_columns-gav : verdict Gav both_columns ≡ fits (canon Gav both_columns)
both_columns-gav = refl

-- R(a) with T(a,done), where done is a fixed constant
abbrev pub fixed_mark : List DataExample
fixed_mark =
    record { source = source_fact (Const 0 ∷ []) ∷ []; target = target_fact (Const 0 ∷ Fixed 1 ∷ []) ∷ [] } ∷ []

-- R(x1) -> T(x1,=done)
pub fixed_mark-gav : verdict Gav fixed_mark ≡ fits (record {
  premise = source_atom (Var 1 ∷ []) ∷ [];
  exists = [];
  conclusion = target_atom (Var 1 ∷ FixedTerm 1 ∷ []) ∷ [];
} ∷ [])
fixed_mark-gav = refl

-- R(a) with T(?n); R(b) with nothing: for GAV the fault comes before the refutation
abbrev pub fault_first : List DataExample
fault_first =
    record { source = source_fact (Const 0 ∷ []) ∷ []; target = target_fact (Null 2 ∷ []) ∷ [] }
    ∷ record { source = source_fact (Const 1 ∷ []) ∷ []; target = [] } ∷ []

pub fault_first-glav : verdict Glav fault_first ≡ refuted 0 1 ((Const 0, Const 1) ∷ [])
fault_first-glav = refl

pub fault_first-gav : verdict Gav fault_first ≡ no_fold_at 0
fault_first-gav = refl

-- R(a) with T(?n); R(b) with T(zed): a foreign constant of any example comes before all else
abbrev pub foreign_first : List DataExample
foreign_first =
    record { source = source_fact (Const 0 ∷ []) ∷ []; target = target_fact (Null 3 ∷ []) ∷ [] }
    ∷ record { source = source_fact (Const 1 ∷ []) ∷ []; target = target_fact (Const 2 ∷ []) ∷ [] } ∷ []

pub foreign_first-gav : verdict Gav foreign_first ≡ foreign_at 1 (Const 2)
foreign_first-gav = refl

-- R(a) with nothing; R(b) with T(b)
abbrev pub missing_target : List DataExample
missing_target =
    record { source = source_fact (Const 0 ∷ []) ∷ []; target = [] }
    ∷ record { source = source_fact (Const 1 ∷ []) ∷ []; target = target_fact (Const 1 ∷ []) ∷ [] } ∷ []

pub missing_target-glav : verdict Glav missing_target ≡ refuted 1 0 ((Const 1, Const 0) ∷ [])
missing_target-glav = refl

abbrev pub edge : ℕ → ℕ → Fact
edge a b = source_fact (Const a ∷ Const b ∷ [])

abbrev pub six_cycle : List Fact
six_cycle = edge 1 2 ∷ edge 2 3 ∷ edge 3 4 ∷ edge 4 5 ∷ edge 5 6 ∷ edge 6 1 ∷ []

-- six candidates for the first fact, and one for each fact after it on each of six partial matches
pub six_cycle-need : need six_cycle six_cycle [] ≡ 36
six_cycle-need = refl

-- R(a,b), S(c), S(b) with R as relation 0 and S as relation 1
abbrev pub chain : List Fact
chain = source_fact (Const 0 ∷ Const 1 ∷ []) ∷ target_fact (Const 2 ∷ []) ∷ target_fact (Const 1 ∷ []) ∷ []

-- both facts of one column come before the fact of two; the first of them stands first
pub chain-plan : plan chain chain [] ≡ 1 ∷ 2 ∷ 0 ∷ []
chain-plan = refl

-- P(x), Q(x) and T(x), of the relations 0, 1 and 2
abbrev pub p_fact : ℕ → Fact
p_fact a = record { rel = 0; args = Const a ∷ [] }

abbrev pub q_fact : ℕ → Fact
q_fact a = record { rel = 1; args = Const a ∷ [] }

abbrev pub t_fact : ℕ → Fact
t_fact a = record { rel = 2; args = Const a ∷ [] }

-- P(a), Q(a) with T(a)
abbrev pub one_mark : DataExample
one_mark = record { source = p_fact 0 ∷ q_fact 0 ∷ []; target = t_fact 0 ∷ [] }

-- P(b1), P(b2), P(b3), Q(b3), Q(b4), Q(b5) with T(b3)
abbrev pub many_marks : DataExample
many_marks = record { source = p_fact 1 ∷ p_fact 2 ∷ p_fact 3 ∷ q_fact 3 ∷ q_fact 4 ∷ q_fact 5 ∷ []; target = t_fact 3 ∷ [] }

-- b3 stands in both relations, and b1 in one
pub both-profile : profile many_marks.source (Const 3) ≡ (0, 0) ∷ (1, 0) ∷ []
both-profile = refl

pub one-profile : profile many_marks.source (Const 1) ≡ (0, 0) ∷ []
one-profile = refl

-- what stands in both relations goes to what stands in both alone
pub one_mark-need : pairneed one_mark one_mark ≡ 3
one_mark-need = refl

pub one_to_many-need : pairneed one_mark many_marks ≡ 3
one_to_many-need = refl

pub many_to_one-need : pairneed many_marks one_mark ≡ 7
many_to_one-need = refl

pub many_marks-need : pairneed many_marks many_marks ≡ 219
many_marks-need = refl
