use Rattle.std.proofs.Common.{◌≡◌, Some, ap, ◌∙◌, subst}
use Rattle.eir_term.specs.Lists.{IsDistinct}
use Rattle.eir_term.specs.Instances.{values}
use Rattle.eir_hom.specs.Levels.{levels_of, bindings_of}
use Rattle.eir_hom.specs.Listings.{AreEntries}
use Rattle.eir_hom.proofs.ListingLaws.{begun-listing, begun-progress}
use Rattle.eir_hom.proofs.homs.Homs.begin_along.Goals as goal

pub invariant_of-result : goal.invariant_of-result
invariant_of-result g c =
    let A = c.args.a.now.value.facts in
    let B = c.args.b.now.value.facts in
    let S = c.args.start.now in
    let m = c.in_ok-matcher.matcher in
    let levels : m.levels ≡ levels_of A B S = c.in_ok-matcher.ensures.levels in
    let numbers : m.start ≡ bindings_of A B S = c.in_ok-matcher.ensures.start in
    let distinct : IsDistinct B = subst (λ x. IsDistinct x.facts) c.deref-3.ensures c.as_slice-facts.ensures.distinct in
    let entries : AreEntries A S c.in_ok-given.given.items = subst (λ x. AreEntries x.facts S c.in_ok-given.given.items) c.deref.ensures c.in_ok-given.ensures in
    rw (c.in_ok-clone.ensures.cases, c.in_ok-clone-2.ensures.cases, c.of.ensures, c.in-Ok.ensures.ok)
    (begun-listing A B S m levels numbers c.in_ok-given.given.items c.in_ok-map.map distinct c.requires.fixed c.as_slice-pairs.ensures.distinct entries (c.in_ok-map.ensures ∙ ap (λ x. values x.facts) c.deref-2.ensures))

pub returns : goal.returns
returns g c =
    let A = c.args.a.now.value.facts in
    let B = c.args.b.now.value.facts in
    let S = c.args.start.now in
    let m = c.in_ok-matcher.matcher in
    let levels : m.levels ≡ levels_of A B S = c.in_ok-matcher.ensures.levels in
    let numbers : m.start ≡ bindings_of A B S = c.in_ok-matcher.ensures.start in
    let distinct : IsDistinct B = subst (λ x. IsDistinct x.facts) c.deref-3.ensures c.as_slice-facts.ensures.distinct in
    begun-progress A B _ _ S _ m (Some c.in-Ok.search) (ap (λ x. x.facts) c.in_ok-clone.ensures.cases) (ap (λ x. x.facts) c.in_ok-clone-2.ensures.cases) c.of.ensures (ap Some c.in-Ok.ensures.ok) levels numbers distinct c.requires.fixed
