use Rattle.std.proofs.Common.{◌∙◌, ap, length}
use Rattle.std.specs.Prelude.{◌==◌}
use Rattle.eir_inst.proofs.PlaceLaws.{length-places}
use Rattle.eir_inst.proofs.indexed.Indexed.count_of.Goals as goal

pub returns : goal.returns
returns c = ap length c.places_of.ensures ∙ length-places (λ f. f.rel == c.args.rel) 0 c.args.self.now.facts
