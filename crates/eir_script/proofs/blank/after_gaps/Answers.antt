use Rattle.std.proofs.Common.{sym, ◌∙◌}
use Rattle.std.specs.Prelude.{IsTrue}
use Rattle.eir_script.specs.Grammar.{is_gap}
use Rattle.eir_script.proofs.ScanLaws.{all_more, SkipsGaps-at}
use Rattle.eir_script.proofs.blank.after_gaps.Goals as goal

pub loop-place-preserved : goal.loop-place-preserved
loop-place-preserved c = all_more (λ b. IsTrue (is_gap b)) c.args.bytes.now c.loop-place.place c.loop-place-test.true c.loop-place.invariant (sym c.is_gap.ensures ∙ c.if-not-is_gap.false)

pub returns-then-not-is_gap : goal.returns-then-not-is_gap
returns-then-not-is_gap c = SkipsGaps-at c.args.bytes.now c.loop-place.place c.loop-place-test.true c.loop-place.invariant (sym c.is_gap.ensures ∙ c.if-not-is_gap.true)
