use Rattle.std.proofs.Common.{◌≤◌, length, arith, ap}
use Rattle.std.proofs.lemmas.List.{length-take}
use Rattle.eir_hom.proofs.MatcherLaws.{lifted}
use Rattle.eir_hom.proofs.matching.MatcherProblem.lift.Goals as goal

pub invariant_of-self : goal.invariant_of-self
invariant_of-self c =
    let le : c.args.level ≤ c.self.inside.depth = omega (arith, c.requires, ap (λ s. length s.placed) c.self.view_is, length-take c.self.inside.depth c.self.inside.placed.items) in
    (lifted _ _ _ _ _ _ _ _ _ c.args.level le c.self.invariant.0, c.self.invariant.1)
