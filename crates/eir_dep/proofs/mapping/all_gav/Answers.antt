use Rattle.std.proofs.Common.{subst}
use Rattle.std.proofs.lemmas.Bool.{false≢true}
use Rattle.std.proofs.lemmas.List.{take_all}
use Rattle.eir_term.specs.declared.val.Kind.TheVariants.{Gav}
use Rattle.eir_term.specs.Dependencies.{IsMapping}
use Rattle.std.proofs.Common.{refl}
use Rattle.eir_dep.proofs.MarkLaws.{no-from}
use Rattle.eir_dep.proofs.GavLaws.{IsMapping-more, ∈-item}
use Rattle.eir_dep.proofs.mapping.all_gav.Goals as goal

pub returns-then-not-is_gav : goal.returns-then-not-is_gav
returns-then-not-is_gav c = (
  λ t. absurd (false≢true t),
  λ m. absurd (no-from c.is_gav.result c.is_gav.ensures.gav c.if-not-is_gav.true (m c.dep-item.result (∈-item c.args.deps.now c.loop-dep.dep-index c.dep-item.result c.loop-dep-test.true c.dep-item.is)).1),
)

pub loop-dep-preserved : goal.loop-dep-preserved
loop-dep-preserved c =
    IsMapping-more Gav c.args.deps.now c.loop-dep.dep-index c.dep-item.result c.loop-dep-test.true c.dep-item.is c.loop-dep.invariant (c.is_gav.ensures.well_formed, c.is_gav.ensures.gav.0 c.if-not-is_gav.false)

pub returns : goal.returns
returns c = (λ t. subst (λ M. IsMapping Gav M) (take_all c.loop-dep.dep-index c.args.deps.now c.loop-dep-test.false) c.loop-dep.invariant, λ m. refl)
