use Rattle.std.proofs.Common.{nat_eq, refl, ap}
use Rattle.std.proofs.lemmas.Bool.Decides.{Decides-eqb}
use Rattle.eir_term.specs.declared.term.Atom.{Atom}
use Rattle.eir_term.specs.Dependencies.{term_vars, vars}
use Rattle.eir_print.proofs.ValueLaws.{inserted-more, inserted-all}
use Rattle.eir_print.proofs.numbered.variables_in.Goals as goal

pub loop-atom-preserved : goal.loop-atom-preserved
loop-atom-preserved c =
    inserted-more nat_eq (λ (a : Atom). term_vars a.args) vars (λ a rest. refl) c.loop-atom.found.keys c.insert_variables.new.found.keys _ c.args.atoms.now c.loop-atom.atom-index _ c.atom-item.result _ c.loop-atom-test.true c.atom-item.is
    (ap (λ ts. term_vars ts) c.as_slice.ensures) c.in_ok-insert_variables.ensures c.loop-atom.invariant

pub returns : goal.returns
returns c = inserted-all nat_eq (λ (a : Atom). term_vars a.args) vars (λ a rest. refl) Decides-eqb refl c.loop-atom.found.keys c.args.atoms.now c.loop-atom.atom-index c.loop-atom-test.false c.loop-atom.invariant
