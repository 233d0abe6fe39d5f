use Rattle.std.proofs.Common.{ap, refl, arith}
use Rattle.eir_hom.specs.Matching.{Match}
use Rattle.eir_hom.specs.Lazy.{all_levels}
use Rattle.eir_hom.proofs.lazy.LazyMatcher.new.Goals as goal

pub reach-requires : goal.reach-requires
reach-requires c = rw c.deref.ensures (record {
  facts = c.requires.facts;
  slots = c.requires.slots;
  ready = c.requires.ready;
  levels = rw c.requires.levels refl;
  deep = rw (c.requires.levels, c.requires.placed) (omega arith);
})

pub invariant_of-result : goal.invariant_of-result
invariant_of-result c = rw c.in_ok-clone.ensures.cases (rw c.deref.ensures at c.reach.ensures.cut, rw c.deref.ensures at c.reach.ensures.reached)

pub returns : goal.returns
returns c =
    let f : Match → Match = λ x. record x { levels = all_levels c.args.source.now.value.facts x } in
    rw c.in_ok-clone.ensures.cases (ap f c.reach.ensures.same)
