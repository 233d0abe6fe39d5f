use Rattle.std.proofs.Common.{◌≡◌, ◌++◌, flat_map, take, codes}
use Rattle.eir_print.specs.Dependencies.{term_text}
use Rattle.eir_print.proofs.dependency.print_further_terms.Given as goal

abbrev pub invariant-loop-term : goal.invariant-loop-term
invariant-loop-term l = l.out ≡ l.initial.out ++ flat_map (λ t. codes "," ++ term_text l.numbered t) (take l.term-index l.terms)
