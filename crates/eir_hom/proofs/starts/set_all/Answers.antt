use Rattle.std.proofs.Common.{None, ◌∙◌, get_or, slice_get, ap}
use Rattle.eir_hom.specs.Compiling.{with_fixed}
use Rattle.eir_hom.proofs.StartLaws.{images-are}
use Rattle.eir_hom.proofs.starts.set_all.Goals as goal

pub returns : goal.returns
returns c =
    let given = c.set_given.new.images in
    images-are c.args.a.now.facts c.args.b.now.facts c.args.start.now given c.set_fixed.new.images c.set_given.ensures c.set_fixed.auto.images (λ n h. c.set_fixed.ensures n h ∙ ap (λ vs. with_fixed c.args.b.now.facts (get_or given n None) (slice_get vs n)) c.values.ensures.values)
