use Rattle.std.proofs.Common.{refl}
use Rattle.eir_term.specs.declared.val.Val.TheVariants.{Const}
use Rattle.eir_verdict.proofs.ForeignLaws.{value-found, value-passed}
use Rattle.eir_verdict.proofs.foreign.first_foreign_among.Goals as goal

pub returns-then-is_some : goal.returns-then-is_some
returns-then-is_some c =
    value-found c.args.source.now.facts c.args.values.now c.loop-value.value-index (Const 0) _ _ c.loop-value-test.true refl c.loop-value.invariant c.foreign-found.result c.is_some.result c.is_some.ensures c.if-is_some.true c.foreign-found.ensures

pub loop-value-preserved : goal.loop-value-preserved
loop-value-preserved c =
    value-passed c.args.source.now.facts c.args.values.now c.loop-value.value-index (Const 0) _ _ c.loop-value-test.true refl c.loop-value.invariant c.foreign-found.result c.is_some.result c.is_some.ensures c.if-is_some.false c.foreign-found.ensures
