use Rattle.std.proofs.Common.{◌∙◌, sym, ap, subst}
use Rattle.eir_term.specs.Lists.{IsDistinct}
use Rattle.eir_term.specs.Maps.{domain_of}
use Rattle.eir_term.proofs.MapLaws.{set-with_image_at, domain_of-with_image_at}
use Rattle.eir_term.proofs.map.Map.set_at.Goals as goal

pub invariant_of-self : goal.invariant_of-self
invariant_of-self c =
    let is = set-with_image_at c.args.self.now c.self.inside.pairs.items c.args.place c.args.w c.index_mut.result.now c.self.view_is c.requires c.index_mut.ensures.value in
    subst (λ vs. IsDistinct vs) (sym (ap domain_of is ∙ domain_of-with_image_at c.args.self.now c.args.place c.args.w ∙ sym (ap domain_of c.self.view_is))) c.self.invariant

pub returns : goal.returns
returns c =
    set-with_image_at c.args.self.now c.self.inside.pairs.items c.args.place c.args.w c.index_mut.result.now c.self.view_is c.requires c.index_mut.ensures.value
