use Rattle.std.proofs.Common.{List, ℕ, ap, ap₂}
use Rattle.std.specs.Prelude.{option_map}
use Rattle.eir_term.specs.declared.val.Val.{Val}
use Rattle.eir_script.specs.declared.command.RawFact.{RawFact}
use Rattle.eir_script.specs.Reading.{written}
use Rattle.eir_script.proofs.reader.fact_of.Goals as goal

pub returns-clause-read : goal.returns-clause-read
returns-clause-read c =
    let r = c.in_ok-args.ensures.read in
    let raw : List ℕ → List Val → RawFact = λ r vs. record { relation = r; args = vs } in (
      written c.args.atom.relation.now r.0,
      ap (option_map (written c.args.atom.relation.now)) r.1,
      r.2,
      ap₂ raw c.in_ok-relation.ensures r.3,
    )
