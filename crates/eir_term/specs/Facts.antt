-- Facts: a relation with a list of values (textbook).
--   args_eq vs ws  == whether the two lists of values are the same
--   fact_eq f g    == whether the two facts are the same
use Rattle.std.specs.Prelude.{◌≡◌, Bool, ◌==◌, ◌&&◌, List, Decides, refl}
use Rattle.std.proofs.Common.{ap, ap₂}
use Rattle.std.proofs.lemmas.Bool.{and_parts, and_from}
use Rattle.std.proofs.lemmas.Bool.Decides.{Decides-eqb}
use Rattle.std.specs.Cmp.Lexicographic.{pointwise}
use Rattle.std.proofs.lemmas.Slice.Eq.{slice_eq-Decides}
use Rattle.eir_term.specs.declared.val.Val.{Val}
use Rattle.eir_term.specs.declared.fact.Fact.{Fact}
use Rattle.eir_term.specs.Values.{val_eq, val_eq-decides}

-- whether the two lists of values are the same
abbrev pub args_eq : List Val → List Val → Bool
args_eq vs ws = pointwise val_eq vs ws

-- whether the two facts are the same
abbrev pub fact_eq : Fact → Fact → Bool
fact_eq f g = (f.rel == g.rel) && args_eq f.args g.args

-- the test says yes exactly where the lists are equal
pub args_eq-decides : (vs ws : List Val) → Decides (args_eq vs ws) (vs ≡ ws)
args_eq-decides vs ws = slice_eq-Decides val_eq-decides vs ws (pointwise val_eq vs ws) refl

-- the test says yes exactly where the facts are equal
pub fact_eq-decides : (f g : Fact) → Decides (fact_eq f g) (f ≡ g)
fact_eq-decides f g = (
  λ t. let p = and_parts (f.rel == g.rel) (args_eq f.args g.args) t in
      ap₂ (λ r vs. let x : Fact = record { rel = r; args = vs } in x) ((Decides-eqb f.rel g.rel).0 p.0) ((args_eq-decides f.args g.args).0 p.1),
  λ e. and_from (f.rel == g.rel) (args_eq f.args g.args) ((Decides-eqb f.rel g.rel).1 (ap (λ x. x.rel) e)) ((args_eq-decides f.args g.args).1 (ap (λ x. x.args) e)),
)
