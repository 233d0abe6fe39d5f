use Rattle.std.proofs.Common.{◌∙◌, sym}
use Rattle.eir_schema.specs.Schemas.{Relation}
use Rattle.eir_schema.proofs.SchemaLaws.{told-refusal}
use Rattle.eir_schema.proofs.schema.Schema.declare.Goals as goal

pub returns-in-Some-clause-refused : goal.returns-in-Some-clause-refused
returns-in-Some-clause-refused c =
    let d : Relation = record { side = c.args.side; name = c.args.name.now; columns = c.args.columns.now } in
    told-refusal c.args.self.now d c.in-Some.refused (sym c.in-Some.is ∙ c.refusal.ensures)
