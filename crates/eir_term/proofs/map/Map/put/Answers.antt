use Rattle.eir_term.proofs.MapLaws.{IsDistinct-after_put}
use Rattle.eir_term.proofs.map.Map.put.Goals as goal

pub invariant_of-self-2 : goal.invariant_of-self-2
invariant_of-self-2 c =
    IsDistinct-after_put c.args.self.now c.self.inside.pairs.items c.push.new.self.items c.args.v c.args.w c.self.view_is c.self.invariant c.requires c.in_ok-push.ensures.items
