use Rattle.eir_term.proofs.MapLaws.{IsDistinct-after_set}
use Rattle.eir_term.proofs.map.Map.set.Goals as goal

pub invariant_of-self : goal.invariant_of-self
invariant_of-self c =
    IsDistinct-after_set c.self.inside.pairs c.deref_mut.result.now c.set_image_in.new.pairs c.args.v c.args.w c.deref_mut.ensures.value c.deref_mut.ensures.len c.set_image_in.auto.pairs c.self.invariant c.set_image_in.ensures
