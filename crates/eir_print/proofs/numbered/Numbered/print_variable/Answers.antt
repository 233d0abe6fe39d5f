use Rattle.std.proofs.Common.{◌≡◌, ◌++◌, ap, subst, ◌∙◌}
use Rattle.std.specs.Prelude.{OnOk, OnErr}
use Rattle.eir_print.specs.Prefixes.{AppendsPrefix}
use Rattle.eir_print.specs.Dependencies.{variable_text}
use Rattle.eir_print.proofs.NumberLaws.{existential-name, premise-name}
use Rattle.eir_print.proofs.numbered.Numbered.print_variable.Goals as goal

pub returns-then-contains-clause-ok : goal.returns-then-contains-clause-ok
returns-then-contains-clause-ok c =
    subst (λ t. OnOk c.print_numbered.result (c.print_numbered.new.out ≡ c.args.out.now ++ t))
    (existential-name c.self.inside.dep.now c.args.variable c.place_in.result c.self.inside.exists.keys c.self.inside.existential.keys c.if-contains.ensures c.self.invariant.0 c.self.invariant.2 c.place_in.ensures.exact
    ∙ ap (λ d. variable_text d c.args.variable) c.self.view_is) c.print_numbered.ensures.ok

pub returns-then-contains-clause-err : goal.returns-then-contains-clause-err
returns-then-contains-clause-err c =
    subst (λ t. OnErr c.print_numbered.result (AppendsPrefix c.args.out.now c.print_numbered.new.out t))
    (existential-name c.self.inside.dep.now c.args.variable c.place_in.result c.self.inside.exists.keys c.self.inside.existential.keys c.if-contains.ensures c.self.invariant.0 c.self.invariant.2 c.place_in.ensures.exact
    ∙ ap (λ d. variable_text d c.args.variable) c.self.view_is) c.print_numbered.ensures.err

pub returns-else-contains-clause-ok : goal.returns-else-contains-clause-ok
returns-else-contains-clause-ok c =
    subst (λ t. OnOk c.print_numbered-else-contains.result (c.print_numbered-else-contains.new.out ≡ c.args.out.now ++ t))
    (premise-name c.self.inside.dep.now c.args.variable c.place_in-else-contains.result c.self.inside.exists.keys c.self.inside.premise.keys c.if-contains.ensures c.self.invariant.0 c.self.invariant.1 c.place_in-else-contains.ensures.exact
    ∙ ap (λ d. variable_text d c.args.variable) c.self.view_is) c.print_numbered-else-contains.ensures.ok

pub returns-else-contains-clause-err : goal.returns-else-contains-clause-err
returns-else-contains-clause-err c =
    subst (λ t. OnErr c.print_numbered-else-contains.result (AppendsPrefix c.args.out.now c.print_numbered-else-contains.new.out t))
    (premise-name c.self.inside.dep.now c.args.variable c.place_in-else-contains.result c.self.inside.exists.keys c.self.inside.premise.keys c.if-contains.ensures c.self.invariant.0 c.self.invariant.1 c.place_in-else-contains.ensures.exact
    ∙ ap (λ d. variable_text d c.args.variable) c.self.view_is) c.print_numbered-else-contains.ensures.err
