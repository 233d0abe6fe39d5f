use Rattle.std.proofs.Common.{◌∙◌, length, ap, arith}
use Rattle.eir_term.specs.Instances.{values}
use Rattle.eir_hom.proofs.StartLaws.{written}
use Rattle.eir_hom.proofs.StartLaws.{resized}
use Rattle.eir_hom.proofs.starts.images_of.Goals as goal

pub set_all-requires : goal.set_all-requires
set_all-requires c =
    c.deref_mut.ensures.value ∙ c.in_ok-resize.ensures.items ∙ resized _ _ c.new-images.result.items (values c.args.a.now.facts) c.new-images.ensures.items c.new-images.ensures.len (ap length c.values.ensures.values)

pub returns : goal.returns
returns c =
    let v = c.resize.new.self in
    written v.len v.items c.set_all.new.images v.ok.0 (omega (arith, ap length c.deref_mut.ensures.value)) ∙ c.set_all.ensures
