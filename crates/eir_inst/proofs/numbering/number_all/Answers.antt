use Rattle.std.proofs.Common.{◌∙◌, ap, length, take}
use Rattle.eir_inst.proofs.ValueLaws.{IsNumbered-kept, IsNumbered-next, kept-next}
use Rattle.eir_inst.proofs.numbering.number_all.Goals as goal

pub returns-in_err-number-clause-kept : goal.returns-in_err-number-clause-kept
returns-in_err-number-clause-kept c =
    ap (take (length c.args.values.now.keys)) c.in_err-number.ensures.err ∙ IsNumbered-kept c.args.values.now.keys (take c.loop-val.val-index c.args.vals.now) c.loop-val.values.keys c.loop-val.row c.loop-val.invariant

pub returns-in_err-push-clause-kept : goal.returns-in_err-push-clause-kept
returns-in_err-push-clause-kept c =
    kept-next c.args.values.now.keys (take c.loop-val.val-index c.args.vals.now) c.loop-val.values.keys c.insert_full.new.self.keys c.loop-val.row _ c.loop-val.invariant c.in_ok-number.ensures.keys

pub loop-val-preserved : goal.loop-val-preserved
loop-val-preserved c =
    IsNumbered-next c.args.values.now.keys c.args.vals.now c.loop-val.values.keys c.insert_full.new.self.keys c.loop-val.row c.push.new.self c.loop-val.val-index c.in_ok-number.number _ c.loop-val-test.true c.loop-val.invariant c.in_ok-number.ensures.keys c.in_ok-number.ensures.index c.in_ok-push.ensures.ok

pub returns-clause-kept : goal.returns-clause-kept
returns-clause-kept c = IsNumbered-kept c.args.values.now.keys (take c.loop-val.val-index c.args.vals.now) c.loop-val.values.keys c.loop-val.row c.loop-val.invariant
