use Rattle.std.proofs.Common.{None, length, ap, ◌∙◌, arith}
use Rattle.eir_hom.specs.Matching.{Match}
use Rattle.eir_hom.proofs.ImageLaws.{slot-unbound, bind-turn, skip-turn}
use Rattle.eir_hom.proofs.compile.bind_start.Goals as goal
use Rattle.eir_hom.proofs.compile.bind_start.Goals.{in-Some+in_ok-bind-2, in_default}

pub bind-requires-in-Some-clause-unbound : goal.bind-requires-in-Some-clause-unbound
bind-requires-in-Some-clause-unbound c =
    rw (ap (λ (m : Match). m.start) c.loop-value.invariant) (slot-unbound (length c.args.images.now) c.loop-value.value c.args.images.now (omega (arith, c.loop-value-test.true)) c.loop-value-test.true)

pub loop-value-preserved : goal.loop-value-preserved
loop-value-preserved c = elim c.match-images-value.branch [
  | in-Some+in_ok-bind-2 w ↦ w.matcher-is ∙ bind-turn c.args.matcher.now c.loop-value.matcher w.bind-in-Some.new.self c.args.images.now c.loop-value.value w.in-Some.image None c.loop-value-test.true w.in-Some.is c.loop-value.invariant w.in_ok-bind-2.ensures.ok
  | in_default w ↦ w.matcher-is ∙ skip-turn c.args.matcher.now c.loop-value.matcher c.args.images.now c.loop-value.value None c.loop-value-test.true w.in_default.is c.loop-value.invariant
]
