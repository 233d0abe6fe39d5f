use Rattle.std.proofs.Common.{sym, subst}
use Rattle.eir_term.specs.Instances.{IsSource}
use Rattle.eir_edit.specs.Histories.{Example}
use Rattle.eir_edit.specs.Pairs.{pair_of}
use Rattle.eir_canon.specs.Parts.{HasNoForeign}
use Rattle.eir_canon.proofs.PairLaws.{pair-clean, pair-known}
use Rattle.eir_canon.proofs.mapping.canonical.Goals as goal

pub push_dependencies-requires-clause-clean : goal.push_dependencies-requires-clause-clean
push_dependencies-requires-clause-clean c =
    subst (λ (x : Example). IsSource x.source) (sym c.deref.ensures)
    (pair-clean c.args.examples.now c.loop-example.example-index _ c.example-item.result c.loop-example-test.true
    c.example-item.is c.requires.sources)

pub push_dependencies-requires-clause-known : goal.push_dependencies-requires-clause-known
push_dependencies-requires-clause-known c =
    subst (λ (x : Example). HasNoForeign (pair_of x)) (sym c.deref.ensures)
    (pair-known c.args.examples.now c.loop-example.example-index _ c.example-item.result c.loop-example-test.true
    c.example-item.is c.requires.none_foreign)
