use Rattle.std.proofs.Common.{ap, sym, ◌∙◌}
use Rattle.eir_hom.specs.Matching.{Match, matched}
use Rattle.eir_hom.proofs.LazyLaws.{matched-cut}
use Rattle.eir_hom.proofs.lazy.LazyMatcher.images.Goals as goal

pub returns : goal.returns
returns c = λ n h s w b.
    let A = c.self.inside.source.value.facts in
    let m = c.self.inside.matcher in
    let cut = c.self.invariant.0 in
    c.images.ensures n (sym (matched-cut A m cut m.start m.placed cut.deep) ∙ ap (λ (x : Match). matched x.levels x.start x.placed) c.self.view_is ∙ h) s w b
