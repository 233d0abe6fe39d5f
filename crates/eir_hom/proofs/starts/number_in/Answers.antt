use Rattle.std.proofs.Common.{◌∙◌, length, ap, sym}
use Rattle.std.proofs.lemmas.Bool.{false≢true}
use Rattle.eir_hom.proofs.StartLaws.{number-absent, number-there}
use Rattle.eir_hom.proofs.starts.number_in.Goals as goal

pub returns-in-Some : goal.returns-in-Some
returns-in-Some c = number-there c.args.b.now.facts c.args.value c.in-Some.number c.in-Some.ensures.there

pub returns-in-None : goal.returns-in-None
returns-in-None c =
    ap length c.values.ensures.values ∙ sym (number-absent c.args.b.now.facts c.args.value (λ h. false≢true (c.in-None.ensures.absent.1 h)))
