use Rattle.std.proofs.Common.{◌≡◌, Some, [], ◌∷◌, ◌++◌, map, ◌∙◌, ap, ap₂, subst}
use Rattle.std.specs.Prelude.{option_and_then}
use Rattle.eir_script.specs.Forms.{argument_in, arguments_first}
use Rattle.eir_script.specs.Reading.{argument_name}
use Rattle.eir_script.proofs.ArgumentLaws.{IsReadTo, read-more}
use Rattle.eir_script.proofs.NameLaws.{names-push, values-push, grown-named}
use Rattle.eir_script.proofs.reader.values_of.Goals as goal

pub returns-in_err-argument-clause-grown : goal.returns-in_err-argument-clause-grown
returns-in_err-argument-clause-grown c =
    grown-named c.from_residual-in_err-argument.result c.args.names.now (map argument_name c.left.invariant.0) c.left.names c.left.invariant.2

pub returns-in_err-value_in-clause-grown : goal.returns-in_err-value_in-clause-grown
returns-in_err-value_in-clause-grown c =
    grown-named c.from_residual-in_err-value_in.result c.args.names.now (map argument_name c.left.invariant.0) c.value_in.new.names (c.in_err-value_in.ensures.err ∙ c.left.invariant.2)

pub returns-in_err-push-clause-grown : goal.returns-in_err-push-clause-grown
returns-in_err-push-clause-grown c =
    let a = argument_in c.in_ok-argument.argument in
    grown-named c.from_residual-in_err-push.result c.args.names.now (map argument_name (c.left.invariant.0 ++ a ∷ [])) c.value_in.new.names
    (names-push c.args.names.now c.left.names c.value_in.new.names c.left.invariant.0 a c.left.invariant.2 c.in_ok-value_in.ensures.ok.0)

pub left-preserved : goal.left-preserved
left-preserved c =
    let inv = c.left.invariant in
    let a = argument_in c.in_ok-argument.argument in
    let got : c.next_argument.result ≡ Some (c.in_ok-argument.argument, c.in_ok-argument.behind) = c.in_ok-argument.ensures.ok_part in (
      inv.0 ++ a ∷ [],
      read-more c.args.atom.arguments.now c.in-Some.rest inv.0 c.in_ok-argument.argument c.in_ok-argument.behind (subst (λ o. IsReadTo c.args.atom.arguments.now o inv.0) c.in-Some.is inv.1)
          (c.next_argument.ensures.read ∙ ap (option_and_then arguments_first) got),
      names-push c.args.names.now c.left.names c.value_in.new.names inv.0 a inv.2 c.in_ok-value_in.ensures.ok.0,
      c.in_ok-push.ensures.items ∙ ap₂ (λ vs v. vs ++ v ∷ []) inv.3 c.in_ok-value_in.ensures.ok.1
          ∙ values-push c.args.names.now c.left.names c.value_in.new.names inv.0 a inv.2 c.in_ok-value_in.ensures.ok.0,
    )
