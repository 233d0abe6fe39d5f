use Rattle.std.proofs.Common.{◌≤◌, length, ◌∙◌, ap, subst, sym}
use Rattle.eir_schema.specs.Schemas.{relations_of}
use Rattle.eir_schema.specs.Tables.{declared}
use Rattle.eir_schema.proofs.StampLaws.{count-is}
use Rattle.eir_schema.proofs.TableLaws.{count-few}
use Rattle.eir_schema.proofs.schema.Schema.count.Goals as goal

pub returns-clause-exact : goal.returns-clause-exact
returns-clause-exact c =
    c.count.ensures ∙ count-is c.args.side (declared c.self.inside.declarations.entries) c.self.inside.summary c.self.invariant.summed_up ∙ ap (λ s. length (relations_of c.args.side s)) c.self.view_is

pub returns-clause-few : goal.returns-clause-few
returns-clause-few c = subst (λ n. n ≤ 64) (sym c.count.ensures) (count-few c.self.inside.declarations.entries c.self.inside.summary c.args.side c.self.invariant)
