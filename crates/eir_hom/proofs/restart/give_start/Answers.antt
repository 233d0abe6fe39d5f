use Rattle.std.proofs.Common.{length, arith}
use Rattle.std.proofs.lemmas.List.{length-take}
use Rattle.eir_hom.proofs.EntryLaws.{entries-take}
use Rattle.eir_hom.proofs.restart.give_start.Goals as goal

pub give_pairs-requires-clause-entries : goal.give_pairs-requires-clause-entries
give_pairs-requires-clause-entries c =
    rw (c.deref_mut.ensures.value, c.truncate.ensures.items) (entries-take c.args.source.now.facts c.args.was.now.value c.args.given.now.items c.len.result c.requires.entries)

pub give_pairs-requires-clause-few : goal.give_pairs-requires-clause-few
give_pairs-requires-clause-few c =
    let l = length-take c.len.result c.args.given.now.items in
    let e = c.len.ensures in
    rw (c.deref_mut.ensures.value, c.truncate.ensures.items) (omega arith)
