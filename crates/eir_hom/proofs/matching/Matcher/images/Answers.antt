use Rattle.std.proofs.Common.{ap, ◌∙◌}
use Rattle.eir_hom.specs.Matching.{Match, matched}
use Rattle.eir_hom.proofs.LentLaws.{numbers-lent}
use Rattle.eir_hom.proofs.matching.Matcher.images.Goals as goal

pub returns : goal.returns
returns c = λ m h s w e.
    rw c.deref.ensures.value (numbers-lent _ _ _ _ _ _ _ _ _ c.self.invariant.0 m (ap (λ (x : Match). matched x.levels x.start x.placed) c.self.view_is ∙ h) s w e)
