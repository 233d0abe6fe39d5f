use Rattle.eir_inst.proofs.AddLaws.{widened-below}
use Rattle.eir_inst.proofs.profiles.push_marks.Goals as goal

pub add_marks-added-requires-clause-numbered : goal.add_marks-added-requires-clause-numbered
add_marks-added-requires-clause-numbered c = λ n h.
    widened-below c.widen-pushed.result c.is_ok.result c.args.profiles.now.items c.widen-pushed.new.profiles.items c.deref_mut.result.now c.args.count n c.is_ok.ensures.value c.if-is_ok.true c.widen-pushed.ensures.ok c.deref_mut.ensures.value (c.requires.numbered n h)
