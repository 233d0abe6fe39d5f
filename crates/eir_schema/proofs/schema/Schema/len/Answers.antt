use Rattle.std.proofs.Common.{◌≡◌, length, arith}
use Rattle.std.proofs.lemmas.List.{length-map}
use Rattle.eir_schema.specs.Tables.{declared}
use Rattle.eir_schema.proofs.SchemaLaws.{length-within}
use Rattle.eir_schema.proofs.schema.Schema.len.Goals as goal

pub overflow_cast-result : goal.overflow_cast-result
overflow_cast-result c =
    let few = length-within _ c.self.invariant.lawful in
    let all : length (declared c.self.inside.declarations.entries) ≡ length c.self.inside.declarations.entries = length-map c.self.inside.declarations.entries _ in
    let here = c.len.ensures.len in
    omega arith
