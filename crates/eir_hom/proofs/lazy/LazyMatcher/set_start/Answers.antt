use Rattle.std.proofs.Common.{map, ap, ◌∙◌}
use Rattle.eir_hom.specs.Matching.{Match, with_number}
use Rattle.eir_hom.specs.Lazy.{all_levels}
use Rattle.eir_hom.specs.Columns.{is_among}
use Rattle.eir_hom.proofs.LazyLaws.{cut-numbered}
use Rattle.eir_hom.proofs.lazy.LazyMatcher.set_start.Goals as goal

pub set_start-requires-clause-placed : goal.set_start-requires-clause-placed
set_start-requires-clause-placed c = ap (λ (x : Match). x.placed) c.self.view_is ∙ c.requires.placed

pub set_start-requires-clause-bound : goal.set_start-requires-clause-bound
set_start-requires-clause-bound c = ap (λ (x : Match). is_among c.args.slot (map (λ p. p.0) x.start)) c.self.view_is ∙ c.requires.bound

pub invariant_of-self : goal.invariant_of-self
invariant_of-self c =
    (cut-numbered c.self.inside.source.value.facts c.self.inside.matcher c.set_start.new.self c.args.slot c.args.number c.self.invariant.0 c.set_start.ensures, rw c.set_start.ensures c.self.invariant.1)

pub returns : goal.returns
returns c =
    let A = c.self.inside.source.value.facts in
    let f : Match → Match = λ x. record x { levels = all_levels c.self.inside.source.value.facts x } in
    let g : Match → Match = λ x. record x { start = with_number x.start c.args.slot c.args.number } in
    ap f c.set_start.ensures ∙ ap g c.self.view_is
