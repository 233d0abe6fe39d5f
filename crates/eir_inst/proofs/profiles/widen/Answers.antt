use Rattle.std.proofs.Common.{◌≡◌, ◌∙◌, ◌++◌, ◌-◌, ◌≤◌, ap, arith, length, Result, Ok, Err, OnErr}
use Rattle.eir_inst.specs.Grown.{blank}
use Rattle.eir_inst.proofs.GrownLaws.{widen-step}
use Rattle.eir_inst.proofs.profiles.widen.Goals as goal

-- a fact that holds anyway holds where a call fails
on-err : {T E P : Type 0} (r : Result T E) → P → OnErr r P
on-err (Ok x) p = tt
on-err (Err e) p = p

pub returns-in_err-push-clause-err : goal.returns-in_err-push-clause-err
returns-in_err-push-clause-err c = on-err c.from_residual.result (c.loop.counter - length c.args.profiles.now.items, c.in_err-push.ensures.items ∙ c.loop.invariant.items)

pub loop-preserved : goal.loop-preserved
loop-preserved c =
    let start = c.loop.auto.counter in
    let known = c.len-counter.ensures in
    let le : length c.args.profiles.now.items ≤ c.loop.counter = omega arith in
    let more = c.loop-test.true in
    record {
      items = widen-step c.args.profiles.now.items c.loop.profiles.items c.push.new.self.items c.new.result c.loop.counter (length c.args.profiles.now.items) le c.loop.invariant.items c.in_ok-push.ensures.items c.new.ensures;
      few = omega arith;
    }

pub returns-clause-ok : goal.returns-clause-ok
returns-clause-ok c =
    let few = c.loop.invariant.few in
    let past = c.loop-test.false in
    let n : c.loop.counter - length c.args.profiles.now.items ≡ c.args.count - length c.args.profiles.now.items = omega arith in
    c.loop.invariant.items ∙ ap (λ k. c.args.profiles.now.items ++ blank k) n
