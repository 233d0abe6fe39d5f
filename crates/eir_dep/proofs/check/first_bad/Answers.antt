use Rattle.std.proofs.Common.{◌++◌, take, refl}
use Rattle.eir_term.specs.Dependencies.{vars}
use Rattle.eir_dep.specs.Refusals.{dependency}
use Rattle.eir_dep.proofs.MarkLaws.{no-from}
use Rattle.eir_dep.proofs.FirstLaws.{IsFirstBadExists-at, IsBadExists-bound, IsBadExists-unused, AreListable-more, AreMarks-more}
use Rattle.eir_dep.proofs.check.first_bad.Goals as goal

pub returns-then-has-clause-bad : goal.returns-then-has-clause-bad
returns-then-has-clause-bad c =
    let d = dependency c.args.premise.now c.args.exists.now c.args.conclusion.now in
    IsFirstBadExists-at d c.loop-place.place _ c.loop-place-test.true refl c.loop-place.invariant.1 (IsBadExists-bound d (take c.loop-place.place c.args.exists.now) _ (c.has.ensures.0 c.if-has.true))

pub returns-then-not-has-clause-bad : goal.returns-then-not-has-clause-bad
returns-then-not-has-clause-bad c =
    let d = dependency c.args.premise.now c.args.exists.now c.args.conclusion.now in
    IsFirstBadExists-at d c.loop-place.place _ c.loop-place-test.true refl c.loop-place.invariant.1 (IsBadExists-unused d (take c.loop-place.place c.args.exists.now) _ (no-from c.has-in-loop-place.result c.has-in-loop-place.ensures c.if-not-has.true))

pub loop-place-preserved : goal.loop-place-preserved
loop-place-preserved c =
    let d = dependency c.args.premise.now c.args.exists.now c.args.conclusion.now in (
      AreMarks-more _ (vars c.args.premise.now) c.args.exists.now c.loop-place.place _ c.loop-place-test.true refl (c.mark.ensures (vars c.args.premise.now ++ take c.loop-place.place c.args.exists.now) c.loop-place.invariant.0),
      AreListable-more d c.args.exists.now c.loop-place.place _ c.loop-place-test.true refl c.loop-place.invariant.1 (no-from c.has.result c.has.ensures c.if-has.false) (c.has-in-loop-place.ensures.0 c.if-not-has.false),
    )
