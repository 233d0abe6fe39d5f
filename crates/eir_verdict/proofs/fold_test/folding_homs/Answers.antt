use Rattle.eir_verdict.proofs.FoldLaws.{constants_fixed-keeps}
use Rattle.eir_verdict.proofs.fold_test.folding_homs.Goals as goal

pub begin-requires : goal.begin-requires
begin-requires c = record { fixed = constants_fixed-keeps c.deref-3.result.now.facts c.in_ok-start.start c.in_ok-start.ensures }
