use Rattle.std.proofs.Common.{◌≤◌, take, length, ap, sym, ◌∙◌, arith}
use Rattle.std.proofs.lemmas.List.{length-take-le}
use Rattle.eir_hom.specs.Matching.{Match, match_space}
use Rattle.eir_hom.proofs.LazyLaws.{reached-below, width-cut}
use Rattle.eir_hom.proofs.lazy.LazyMatcherProblem.width.Goals as goal

pub width-requires-clause-below : goal.width-requires-clause-below
width-requires-clause-below c =
    let A = c.self.inside.source.value.facts in
    let m = c.self.inside.matcher in
    let cut = c.self.invariant.0 in
    let reached = c.self.invariant.1 in
    let le : c.args.level ≤ length c.self.inside.matcher.placed = omega (arith, c.requires.placed, ap (λ (x : Match). length x.placed) c.self.view_is) in
    let lt = reached-below A m cut c.args.level reached le (omega (arith, c.requires.below, ap (λ (x : Match). length x.levels) c.self.view_is)) in
    lt

pub width-requires-clause-placed : goal.width-requires-clause-placed
width-requires-clause-placed c = omega (arith, c.requires.placed, ap (λ (x : Match). length x.placed) c.self.view_is)

pub returns : goal.returns
returns c =
    let A = c.self.inside.source.value.facts in
    let m = c.self.inside.matcher in
    let cut = c.self.invariant.0 in
    let reached = c.self.invariant.1 in
    let le : c.args.level ≤ length c.self.inside.matcher.placed = omega (arith, c.requires.placed, ap (λ (x : Match). length x.placed) c.self.view_is) in
    let lt = reached-below A m cut c.args.level reached le (omega (arith, c.requires.below, ap (λ (x : Match). length x.levels) c.self.view_is)) in
    let long = length-take-le c.args.level c.self.inside.matcher.placed le in
    c.width.ensures ∙ sym (width-cut A m cut m.start (take c.args.level m.placed) (omega (arith, long, lt))) ∙ ap (λ (x : Match). (match_space x.levels x.start).width (take c.args.level x.placed)) c.self.view_is
