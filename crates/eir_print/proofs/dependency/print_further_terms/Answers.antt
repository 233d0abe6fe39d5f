use Rattle.std.proofs.Common.{◌++◌, codes, refl}
use Rattle.eir_term.specs.declared.term.Term.TheVariants.{Var}
use Rattle.eir_print.specs.Dependencies.{term_text}
use Rattle.eir_print.proofs.PrefixLaws.{stops-inside}
use Rattle.eir_print.proofs.dependency.print_further_terms.Goals as goal

pub returns-in_err-print_further_term-clause-err : goal.returns-in_err-print_further_term-clause-err
returns-in_err-print_further_term-clause-err c =
    stops-inside (λ t. codes "," ++ term_text c.args.numbered.now t) _ _ _ _ c.args.terms.now c.loop-term.term-index (Var 0) _ c.loop-term-test.true refl c.loop-term.invariant c.in_err-print_further_term.ensures.err
