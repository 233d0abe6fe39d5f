use Rattle.std.proofs.Common.{◌≡◌, ◌++◌, ◌∷◌, []}
use Rattle.eir_hom.proofs.BuildLaws.{bound}
use Rattle.eir_hom.proofs.matching.Matcher.bind.Goals as goal

pub invariant_of-self-2 : goal.invariant_of-self-2
invariant_of-self-2 c =
    let b = bound _ _ _ _ _ _ _ _ _ _ c.args.slot c.args.number c.self.view_is c.self.invariant.0 c.requires.levels c.requires.slot c.requires.unbound in
    let items : c.push.new.self.items ≡ c.self.inside.given.items ++ c.args.slot ∷ [] = c.in_ok-push.ensures.items in
    rw items (b.holds, c.self.invariant.1)

pub returns-clause-ok : goal.returns-clause-ok
returns-clause-ok c =
    let b = bound _ _ _ _ _ _ _ _ _ _ c.args.slot c.args.number c.self.view_is c.self.invariant.0 c.requires.levels c.requires.slot c.requires.unbound in
    let items : c.push.new.self.items ≡ c.self.inside.given.items ++ c.args.slot ∷ [] = c.in_ok-push.ensures.items in
    rw items b.view
