use Rattle.std.proofs.Common.{◌||◌, [], ◌∷◌, ◌++◌, refl, sym, ◌∙◌, ap, ap₂, subst, arith}
use Rattle.eir_script.specs.Forms.{argument_in, bytes_left}
use Rattle.eir_script.proofs.ArgumentLaws.{IsReadTo, read-none, read-more, any-push}
use Rattle.eir_script.proofs.arguments.list_shape.Goals as goal

pub left-init : goal.left-init
left-init c = ([], read-none c.args.bytes, refl, omega arith)

pub left-preserved : goal.left-preserved
left-preserved c =
    let inv = c.left.invariant in
    let a = argument_in c.in_ok-argument.argument in (
      inv.0 ++ a ∷ [],
      read-more c.args.bytes.now c.in-Some.rest inv.0 c.in_ok-argument.argument c.in_ok-argument.behind (subst (λ o. IsReadTo c.args.bytes.now o inv.0) c.in-Some.is inv.1) c.in_ok-argument.ensures.read,
      ap₂ (λ s t. s || t) inv.2 c.is_null.ensures ∙ sym (any-push inv.0 a),
      omega (arith, inv.3, ap bytes_left c.in-Some.is, c.in_ok-argument.ensures.shorter),
    )
