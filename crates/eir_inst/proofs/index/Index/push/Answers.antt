use Rattle.std.proofs.Common.{◌<◌, ◌^◌, length, refl, ap, arith}
use Rattle.eir_inst.specs.Postings.{listed}
use Rattle.eir_inst.proofs.IndexLaws.{IsIndex-same, IsIndex-push, IsIndex-pop, on-err}
use Rattle.eir_inst.proofs.index.Index.push.Goals as goal

pub returns-in_err-push-clause-err : goal.returns-in_err-push-clause-err
returns-in_err-push-clause-err c = on-err c.from_residual.result (λ K i. IsIndex-same K c.args.self.now _ i c.in_err-push.ensures.err refl refl refl)

pub returns-then-is_err-clause-err : goal.returns-then-is_err-clause-err
returns-then-is_err-clause-err c =
    IsIndex-pop c.push-pushed.result c.args.self.now _ c.args.fact.now c.args.place (listed c.push.new.self.lists) c.in_ok-push.ensures.ok c.pop.ensures c.push-pushed.ensures.same_values c.push-pushed.ensures.same_rows c.push-pushed.ensures.same_profiles

pub returns-else-is_err-clause-ok : goal.returns-else-is_err-clause-ok
returns-else-is_err-clause-ok c =
    let few : length c.args.fact.now.args < 2 ^ 32 = omega (arith, c.if-as_slice.false, ap length c.as_slice.ensures.values) in
    IsIndex-push c.push-pushed.result c.args.self.now _ c.args.fact.now c.args.place few c.in_ok-push.ensures.ok c.push-pushed.ensures.values c.push-pushed.ensures.rows c.push-pushed.ensures.profiles
