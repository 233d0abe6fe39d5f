use Rattle.std.proofs.Common.{arith}
use Rattle.eir_verdict.proofs.ForeignLaws.{fact-found, fact-passed, fact-end}
use Rattle.eir_verdict.proofs.foreign.first_foreign_in.Goals as goal

pub returns-then-is_some : goal.returns-then-is_some
returns-then-is_some c =
    fact-found c.args.source.now.facts c.args.target.now.facts c.loop-place.place _ c.loop-place.invariant c.first_foreign_at-found.result c.is_some.result c.is_some.ensures
    (omega (arith, c.loop-place-test.true, c.len-place-end.ensures)) c.if-is_some.true c.first_foreign_at-found.ensures

pub loop-place-preserved : goal.loop-place-preserved
loop-place-preserved c =
    fact-passed c.args.source.now.facts c.args.target.now.facts c.loop-place.place _ c.loop-place.invariant c.first_foreign_at-found.result c.is_some.result c.is_some.ensures
    (omega (arith, c.loop-place-test.true, c.len-place-end.ensures)) c.if-is_some.false c.first_foreign_at-found.ensures

pub returns : goal.returns
returns c =
    fact-end c.args.source.now.facts c.args.target.now.facts c.loop-place.place _ c.loop-place.invariant (omega (arith, c.loop-place-test.false, c.len-place-end.ensures))
