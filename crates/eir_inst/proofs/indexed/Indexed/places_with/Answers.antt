use Rattle.std.proofs.Common.{◌≤◌, ◌^◌, ◌∙◌, ap, sym, arith}
use Rattle.eir_term.specs.Lists.{places}
use Rattle.eir_term.specs.Profiles.{has_at}
use Rattle.eir_inst.proofs.IndexLaws.{none-past}
use Rattle.eir_inst.proofs.indexed.Indexed.places_with.Goals as goal

pub returns-in-Err : goal.returns-in-Err
returns-in-Err c =
    let far : 2 ^ 32 ≤ c.args.column = omega (arith, c.in-Err.ensures) in
    let seen = ap (λ v. places (has_at c.args.rel c.args.column c.args.val) 0 v.facts) c.self.view_is in
    sym (sym seen ∙ none-past c.args.rel c.args.column c.args.val 0 c.self.inside.facts.keys far c.self.invariant.1.short)
