use Rattle.std.proofs.Common.{◌≡◌, ◌++◌, drop}
use Rattle.eir_term.specs.Instances.{values}
use Rattle.eir_hom.specs.Occurring.{columns_from, columns_of}
use Rattle.eir_hom.proofs.plan.columns_of.Given as goal

abbrev pub invariant-loop-place : goal.invariant-loop-place
invariant-loop-place l = l.columns.items ++ columns_from (values l.a.facts) l.place (drop l.place l.a.facts) ≡ columns_of l.a.facts
