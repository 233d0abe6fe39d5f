use Rattle.std.proofs.Common.{◌∙◌}
use Rattle.eir_canon.proofs.GavLaws.{gav-parts}
use Rattle.eir_canon.proofs.gav.push_gav.Goals as goal

pub push_implied-requires : goal.push_implied-requires
push_implied-requires c =
    gav-parts c.args.source.now.facts c.args.target.now.facts c.as_slice.result.now c.as_slice-2.result.now
    c.in_ok-variables.variables c.deref.result.now c.requires c.in_ok-variables.ensures c.as_slice.ensures.facts
    (c.deref.ensures.value ∙ c.in_ok-premise.ensures) c.as_slice-2.ensures.facts
