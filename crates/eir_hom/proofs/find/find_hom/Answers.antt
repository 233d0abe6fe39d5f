use Rattle.eir_hom.proofs.find.find_hom.Goals as goal

pub returns-in_err-homs-clause-spent : goal.returns-in_err-homs-clause-spent
returns-in_err-homs-clause-spent g c = λ e. absurd (let z = rw e at c.from_residual.ensures.1 in cc)
