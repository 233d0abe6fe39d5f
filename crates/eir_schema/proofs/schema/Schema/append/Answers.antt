use Rattle.std.proofs.Common.{◌≡◌, ◌≤◌, ◌∙◌, length, ap, refl, rules, arith}
use Rattle.std.specs.Prelude.{IsOk}
use Rattle.eir_schema.specs.Schemas.{Relation}
use Rattle.eir_schema.proofs.SchemaLaws.{IsAdmitted-from_none}
use Rattle.eir_schema.proofs.TableLaws.{appended, appended-table, IsTable-same, from_ok}
use Rattle.eir_schema.proofs.schema.Schema.append.Goals as goal

pub overflow_cast-columns : goal.overflow_cast-columns
overflow_cast-columns c =
    let d : Relation = record { side = c.args.side; name = c.args.name.now; columns = c.args.columns.now } in
    let narrow : length c.args.columns.now ≤ 16 = (IsAdmitted-from_none c.args.self.now d c.requires.admitted).narrow in
    omega arith

pub invariant_of-self-in_err-add : goal.invariant_of-self-in_err-add
invariant_of-self-in_err-add c =
    IsTable-same c.self.inside.declarations.entries c.reserve.new.self.entries c.self.inside.summary c.add.new.self c.reserve.ensures.entries c.in_err-add.ensures.err c.self.invariant

pub invariant_of-self-2 : goal.invariant_of-self-2
invariant_of-self-2 c =
    let d : Relation = record { side = c.args.side; name = c.args.name.now; columns = c.args.columns.now } in
    let same : c.in_ok-key.key.items ≡ c.args.name.now = search rules in
    let room = c.in_ok-reserve.ensures.ok in
    let inserted : IsOk c.insert.result = c.insert.ensures.succeeds (omega arith) in
    appended-table c.reserve.new.self c.self.inside.declarations.entries c.insert.new.self.entries c.in_ok-key.key c.in_ok-declaration.declaration d c.args.self.now c.reserve.ensures.entries same
    c.in_ok-declaration.ensures.relation (c.in_ok-declaration.ensures.number ∙ c.next_number-number.ensures) c.self.inside.summary c.self.invariant c.self.view_is c.requires.admitted (from_ok c.insert.result inserted c.insert.ensures.entries)
    c.add.new.self (length c.args.columns.now) c.len-place.result refl c.requires.some c.len-place.ensures.exact c.in_ok-add.ensures.ok

pub returns-clause-ok : goal.returns-clause-ok
returns-clause-ok c =
    let d : Relation = record { side = c.args.side; name = c.args.name.now; columns = c.args.columns.now } in
    let same : c.in_ok-key.key.items ≡ c.args.name.now = search rules in
    let room = c.in_ok-reserve.ensures.ok in
    let inserted : IsOk c.insert.result = c.insert.ensures.succeeds (omega arith) in (
      c.next_number-number.ensures,
      appended c.reserve.new.self c.self.inside.declarations.entries c.insert.new.self.entries c.in_ok-key.key c.in_ok-declaration.declaration d c.args.self.now c.reserve.ensures.entries same
          c.in_ok-declaration.ensures.relation (c.in_ok-declaration.ensures.number ∙ c.next_number-number.ensures) c.self.inside.summary c.self.invariant c.self.view_is c.requires.admitted (from_ok c.insert.result inserted c.insert.ensures.entries),
    )
