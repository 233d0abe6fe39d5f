use Rattle.std.proofs.Common.{◌≡◌, rules}
use Rattle.eir_schema.proofs.NameLaws.{number-found, added, added-number, added-distinct}
use Rattle.eir_schema.proofs.names.Names.number.Goals as goal

pub returns-in-Some-clause-ok : goal.returns-in-Some-clause-ok
returns-in-Some-clause-ok c =
    number-found c.self.inside.names.keys c.args.self.now c.args.bytes.now c.get_index_of.result c.in-Some.place c.self.view_is c.get_index_of.ensures.index c.in-Some.is

pub invariant_of-self-2 : goal.invariant_of-self-2
invariant_of-self-2 c =
    let copied : c.in_ok-name.name.items ≡ c.args.bytes.now = search rules in
    added-distinct c.self.inside.names.keys c.insert_full.new.self.keys c.args.self.now c.args.bytes.now c.in_ok-name.name c.self.view_is copied c.in_ok-place.ensures.keys c.self.invariant

pub returns-clause-ok : goal.returns-clause-ok
returns-clause-ok c =
    let copied : c.in_ok-name.name.items ≡ c.args.bytes.now = search rules in (
      added c.self.inside.names.keys c.insert_full.new.self.keys c.args.self.now c.args.bytes.now c.in_ok-name.name c.self.view_is copied c.in_ok-place.ensures.keys,
      added-number c.self.inside.names.keys c.insert_full.new.self.keys c.args.self.now c.args.bytes.now c.in_ok-name.name c.self.view_is copied c.in_ok-place.ensures.keys c.in_ok-place.place c.in_ok-place.ensures.index,
    )
