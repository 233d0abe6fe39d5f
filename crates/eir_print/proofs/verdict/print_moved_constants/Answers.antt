use Rattle.std.proofs.Common.{refl, sym, ◌∙◌}
use Rattle.eir_term.specs.declared.val.Val.TheVariants.{Const}
use Rattle.eir_term.specs.Values.{is_const}
use Rattle.eir_print.specs.Verdicts.{moved_text}
use Rattle.eir_print.proofs.PrefixLaws.{stops-filtered}
use Rattle.eir_print.proofs.verdict.print_moved_constants.Goals as goal

pub returns-in_err-print_moved-clause-err : goal.returns-in_err-print_moved-clause-err
returns-in_err-print_moved-clause-err c =
    stops-filtered (moved_text c.args.names.now c.args.map.now) _ is_const _ _ _ c.args.values.now c.loop-place.place (Const 0) _ c.loop-place-test.true refl (sym c.is_const.ensures ∙ c.if-is_const.true) c.loop-place.invariant c.in_err-print_moved.ensures.err
