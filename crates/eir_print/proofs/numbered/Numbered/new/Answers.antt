use Rattle.std.proofs.Common.{nat_eq, rules, ap, ◌∙◌}
use Rattle.std.specs.List.{list_any}
use Rattle.std.proofs.lemmas.Fn.{filter_same}
use Rattle.eir_term.specs.Lists.{distinct}
use Rattle.eir_term.specs.Dependencies.{vars}
use Rattle.eir_print.proofs.NumberLaws.{existential-from}
use Rattle.eir_print.proofs.numbered.Numbered.new.Goals as goal

pub invariant_of-result : goal.invariant_of-result
invariant_of-result c =
    let listed = c.in_ok-exists.ensures ∙ ap (λ xs. distinct nat_eq xs) c.exists.ensures in (
      listed,
      c.in_ok-premise.ensures ∙ ap (λ atoms. distinct nat_eq (vars atoms)) c.premise.ensures,
      existential-from c.args.dep.now c.in_ok-exists.exists.keys c.in_ok-existential.existential.keys c.retain.new.self.keys listed
          (c.in_ok-existential.ensures ∙ ap (λ atoms. distinct nat_eq (vars atoms)) c.conclusion.ensures.atoms)
          (filter_same _ (λ x. list_any (nat_eq x) c.in_ok-exists.exists.keys) _ (λ x b f k. search rules) _ _ c.retain.ensures.filtered),
    )
