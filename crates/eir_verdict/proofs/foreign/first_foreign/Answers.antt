use Rattle.std.proofs.Common.{ap, sym, ◌∙◌}
use Rattle.eir_edit.specs.Pairs.{pair_of}
use Rattle.eir_verdict.proofs.ForeignLaws.{first_among-all}
use Rattle.eir_verdict.proofs.foreign.first_foreign.Goals as goal

pub returns : goal.returns
returns c =
    c.first_foreign_in.ensures
    ∙ first_among-all _ _ (pair_of c.args.example.now) (ap (λ x. x.source) (sym c.example.view_is) ∙ ap (λ i. i.facts) (sym c.deref.ensures)) (ap (λ x. x.target) (sym c.example.view_is) ∙ ap (λ i. i.facts) (sym c.deref-2.ensures))
