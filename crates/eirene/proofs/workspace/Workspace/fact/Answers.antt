use Rattle.std.proofs.Common.{arith, sym}
use Rattle.eirene.proofs.ActLaws.{found-narrow}
use Rattle.eirene.proofs.workspace.Workspace.fact.Goals as goal

pub make-requires-clause-some : goal.make-requires-clause-some
make-requires-clause-some c = let n = found-narrow _ _ _ c.in-Some.ensures.lawful (sym c.in-Some.ensures.exact) in let l = n.0 in omega arith

pub make-requires-clause-few : goal.make-requires-clause-few
make-requires-clause-few c = let n = found-narrow _ _ _ c.in-Some.ensures.lawful (sym c.in-Some.ensures.exact) in let l = n.1 in omega arith
