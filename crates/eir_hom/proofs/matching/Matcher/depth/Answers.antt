use Rattle.std.proofs.Common.{length, ap, sym, ◌∙◌, arith}
use Rattle.std.proofs.lemmas.List.{length-take-le}
use Rattle.eir_hom.specs.Matching.{Match}
use Rattle.eir_hom.proofs.matching.Matcher.depth.Goals as goal

pub returns : goal.returns
returns c =
    let p = c.self.invariant.0 in
    sym (length-take-le c.self.inside.depth c.self.inside.placed.items (omega (arith, p.deep, p.placed_room))) ∙ ap (λ (m : Match). length m.placed) c.self.view_is
