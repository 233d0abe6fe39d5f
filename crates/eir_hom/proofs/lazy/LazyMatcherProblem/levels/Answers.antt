use Rattle.std.proofs.Common.{length, ap, sym, ◌∙◌}
use Rattle.eir_hom.specs.Matching.{Match}
use Rattle.eir_hom.proofs.LazyLaws.{length-all}
use Rattle.eir_hom.proofs.lazy.LazyMatcherProblem.levels.Goals as goal

pub returns : goal.returns
returns c =
    let A = c.self.inside.source.value.facts in
    let m = c.self.inside.matcher in
    c.len.ensures ∙ ap (λ i. length i.facts) c.deref.ensures ∙ sym (length-all A m ∙ c.self.invariant.0.facts) ∙ ap (λ (x : Match). length x.levels) c.self.view_is
