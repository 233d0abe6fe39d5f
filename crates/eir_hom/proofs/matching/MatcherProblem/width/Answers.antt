use Rattle.eir_hom.proofs.ScanLaws.{width-now}
use Rattle.eir_hom.proofs.matching.MatcherProblem.width.Goals as goal

pub returns : goal.returns
returns c = width-now _ _ _ _ _ _ _ _ _ _ _ _ c.self.view_is c.self.invariant.0 c.requires.below c.requires.placed c.index.ensures
