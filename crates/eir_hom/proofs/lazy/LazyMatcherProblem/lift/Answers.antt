use Rattle.std.proofs.Common.{◌≤◌, [], length, refl, ap, ◌∙◌, arith}
use Rattle.std.proofs.lemmas.List.{length-take}
use Rattle.eir_hom.specs.Matching.{Match, match_space}
use Rattle.eir_hom.proofs.LazyLaws.{cut-kept, view-base}
use Rattle.eir_hom.proofs.lazy.LazyMatcherProblem.lift.Goals as goal

pub invariant_of-self : goal.invariant_of-self
invariant_of-self c =
    let A = c.self.inside.source.value.facts in
    let m = c.self.inside.matcher in
    let cut = c.self.invariant.0 in
    let reached = c.self.invariant.1 in
    let fewer : length c.lift.new.self.placed ≤ length c.self.inside.matcher.placed = omega (arith, ap length c.lift.ensures.placed, length-take c.args.level m.placed) in
    let levels = ap (λ (x : Match). x.levels) c.lift.ensures.base in
    (cut-kept A m c.lift.new.self cut c.lift.ensures.base (omega (arith, fewer, cut.deep)), λ h. (let r = reached (omega (arith, h, ap length levels)) in omega (arith, r, fewer, ap length levels)))

pub returns-clause-space : goal.returns-clause-space
returns-clause-space c =
    let A = c.self.inside.source.value.facts in
    ap (λ (x : Match). match_space x.levels x.start) (view-base A c.self.inside.matcher c.lift.new.self c.lift.new.self refl c.lift.ensures.base)
    ∙ ap (λ (x : Match). match_space x.levels x.start) c.self.view_is

pub returns-clause-base : goal.returns-clause-base
returns-clause-base c =
    let A = c.self.inside.source.value.facts in
    view-base A c.self.inside.matcher c.lift.new.self c.lift.new.self refl c.lift.ensures.base
    ∙ ap (λ (x : Match). let y : Match = record x { placed = [] } in y) c.self.view_is
