use Rattle.std.proofs.Common.{◌≡◌, Some, [], ◌∷◌, ◌++◌, sym, ◌∙◌, ap, ap₂, subst}
use Rattle.std.specs.Prelude.{option_and_then}
use Rattle.std.proofs.lemmas.List.{map-append}
use Rattle.eir_script.specs.Forms.{argument_in, arguments_first}
use Rattle.eir_script.specs.Reading.{argument_name}
use Rattle.eir_script.proofs.ArgumentLaws.{IsReadTo, read-more}
use Rattle.eir_script.proofs.reader.columns_of.Goals as goal

pub left-preserved : goal.left-preserved
left-preserved c =
    let inv = c.left.invariant in
    let a = argument_in c.in_ok-argument.argument in
    let got : c.next_argument.result ≡ Some (c.in_ok-argument.argument, c.in_ok-argument.behind) = c.in_ok-argument.ensures.ok_part in (
      inv.0 ++ a ∷ [],
      read-more c.args.atom.arguments.now c.in-Some.rest inv.0 c.in_ok-argument.argument c.in_ok-argument.behind (subst (λ o. IsReadTo c.args.atom.arguments.now o inv.0) c.in-Some.is inv.1)
          (c.next_argument.ensures.read ∙ ap (option_and_then arguments_first) got),
      c.in_ok-push.ensures.items ∙ ap₂ (λ ws w. ws ++ w ∷ []) inv.2 (c.in_ok-make.ensures ∙ c.name.ensures) ∙ sym (map-append argument_name inv.0 (a ∷ [])),
    )
