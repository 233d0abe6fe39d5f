use Rattle.std.proofs.Common.{arith}
use Rattle.std.proofs.lemmas.Bool.Decides.{Decides-eqb}
use Rattle.eir_print.proofs.EqualLaws.{same-lists}
use Rattle.eir_print.proofs.equal.are_equal.Goals as goal

pub returns : goal.returns
returns c t =
    same-lists c.args.first.now c.args.second.now ((Decides-eqb _ _).0 t)
    (λ k b. c.loop-place.invariant k (omega (arith, c.loop-place-test.false)))
