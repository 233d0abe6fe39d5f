use Rattle.std.proofs.Common.{◌++◌, ◌∙◌, ap, subst, codes}
use Rattle.eir_print.specs.Prefixes.{AppendsPrefix}
use Rattle.eir_print.specs.Dependencies.{implication_text, dependency_text}
use Rattle.eir_print.proofs.PrefixLaws.{if_err, on_err, on_ok, then, done, first, none}
use Rattle.eir_print.proofs.OpeningLaws.{printed-alike}
use Rattle.eir_print.proofs.opening.Opening.print_line.Goals as goal

pub returns-in_err-print_before-clause-err : goal.returns-in_err-print_before-clause-err
returns-in_err-print_before-clause-err c =
    let d = c.args.self.now.0 in
    let text = dependency_text c.args.self.now.1 c.args.dep.now in
    let same = ap (λ atoms. implication_text c.args.self.now.1 d d.premise atoms) c.conclusion.ensures.atoms
    ∙ printed-alike c.args.self.now.1 d c.args.dep.now c.requires in
    if_err _ _ (first _ _ text (codes "\n")
    (subst (λ t. AppendsPrefix c.args.out.now c.print_before.new.out t) same c.in_err-print_before.ensures.err))

pub returns-clause-ok : goal.returns-clause-ok
returns-clause-ok c =
    let d = c.args.self.now.0 in
    let text = dependency_text c.args.self.now.1 c.args.dep.now in
    let same = ap (λ atoms. implication_text c.args.self.now.1 d d.premise atoms) c.conclusion.ensures.atoms
    ∙ printed-alike c.args.self.now.1 d c.args.dep.now c.requires in
    on_ok _ _ c.push_all.result
    (λ n. done _ _ _ text (codes "\n") (c.in_ok-print_before.ensures.ok ∙ ap (λ t. c.args.out.now ++ t) same) n)
    c.push_all.ensures.ok

pub returns-clause-err : goal.returns-clause-err
returns-clause-err c =
    let d = c.args.self.now.0 in
    let text = dependency_text c.args.self.now.1 c.args.dep.now in
    let same = ap (λ atoms. implication_text c.args.self.now.1 d d.premise atoms) c.conclusion.ensures.atoms
    ∙ printed-alike c.args.self.now.1 d c.args.dep.now c.requires in
    on_err _ _ c.push_all.result
    (λ n. then _ _ _ text (codes "\n") (c.in_ok-print_before.ensures.ok ∙ ap (λ t. c.args.out.now ++ t) same)
    (none _ _ _ n))
    c.push_all.ensures.err
