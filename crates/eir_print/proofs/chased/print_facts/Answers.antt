use Rattle.std.proofs.Common.{arith}
use Rattle.eir_print.specs.Facts.{chased_line}
use Rattle.eir_print.proofs.PrefixLaws.{stops-inside_at, texts-more_at, texts-all}
use Rattle.eir_print.proofs.chased.print_facts.Goals as goal

pub returns-in_err-print_fact_at-clause-err : goal.returns-in_err-print_fact_at-clause-err
returns-in_err-print_fact_at-clause-err c =
    stops-inside_at (chased_line c.args.schema.now c.args.names.now) _ _ _ _ c.args.facts.now.facts c.loop-place.place c.loop-place.invariant c.in_err-print_fact_at.ensures.err

pub loop-place-preserved : goal.loop-place-preserved
loop-place-preserved c = texts-more_at (chased_line c.args.schema.now c.args.names.now) _ _ _ c.args.facts.now.facts c.loop-place.place c.loop-place.invariant c.in_ok-print_fact_at.ensures.ok

pub returns-clause-ok : goal.returns-clause-ok
returns-clause-ok c = texts-all (chased_line c.args.schema.now c.args.names.now) _ _ c.args.facts.now.facts c.loop-place.place (omega (arith, c.len-place-end.ensures)) c.loop-place.invariant
