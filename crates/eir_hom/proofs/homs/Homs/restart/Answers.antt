use Rattle.std.proofs.Common.{◌≡◌, ◌↔◌, Some, sym, ap, ap₂, ◌∙◌, subst, refl}
use Rattle.eir_term.specs.declared.val.Val.{Val}
use Rattle.eir_term.specs.Lists.{◌∈◌}
use Rattle.eir_term.specs.Instances.{values}
use Rattle.eir_term.specs.Maps.{domain_of}
use Rattle.eir_hom.specs.Levels.{levels_of, bindings_of}
use Rattle.eir_hom.specs.Listings.{AreEntries, IsListing}
use Rattle.eir_hom.proofs.NumberLaws.{levels_of-names}
use Rattle.eir_hom.proofs.RestartLaws.{named-alike}
use Rattle.eir_hom.proofs.ListingLaws.{begun, begun-listing, begun-progress}
use Rattle.eir_hom.proofs.homs.Homs.restart.Goals as goal

pub give_start-requires-clause-same : goal.give_start-requires-clause-same
give_start-requires-clause-same c = λ v i.
    subst (λ s. (v ∈ domain_of c.args.start.now) ↔ (v ∈ domain_of s)) (sym (ap (λ p. p.start) c.self.view_is))
    (c.requires.same v (subst (λ K. v ∈ values K) (ap (λ x. x.facts) c.deref.ensures ∙ ap (λ p. p.source) c.self.view_is) i))

pub invariant_of-self : goal.invariant_of-self
invariant_of-self c =
    let h = c.self.inside in
    let A = h.a.value.facts in
    let B = h.b.value.facts in
    let S = h.start.value in
    let T = c.args.start.now in
    let m = c.give_start.new.matcher in
    let is = subst (λ o. IsListing A B S h.given.items h.map o) (sym c.take.ensures.value ∙ c.in-Some.is) c.self.invariant in
    let same : (v : Val) → v ∈ values A → (v ∈ domain_of T) ↔ (v ∈ domain_of S) = λ v i.
    subst (λ s. (v ∈ domain_of T) ↔ (v ∈ domain_of s)) (sym (ap (λ p. p.start) c.self.view_is)) (c.requires.same v (subst (λ K. v ∈ values K) (ap (λ p. p.source) c.self.view_is) i)) in
    let levels : m.levels ≡ levels_of A B T =
    ap (λ q. q.levels) c.give_start.ensures.numbers ∙ ap (λ q. q.levels) c.end-matcher.ensures.base ∙ is.numbers.0 ∙ levels_of-names A B S T (named-alike A T S same) in
    let numbers : m.start ≡ bindings_of A B T = ap (λ q. q.start) c.give_start.ensures.numbers ∙ ap₂ (λ x y. bindings_of x.facts y.facts T) c.deref.ensures c.deref-2.ensures in
    let entries : AreEntries A T c.give_start.new.given.items = subst (λ x. AreEntries x.facts T c.give_start.new.given.items) c.deref.ensures c.give_start.ensures.entries in
    rw (c.of.ensures, c.again.ensures.start) (begun-listing A B T m levels numbers c.give_start.new.given.items h.map is.distinct c.requires.fixed c.give_start.ensures.names entries is.domain)

pub returns : goal.returns
returns c =
    let h = c.self.inside in
    let A = h.a.value.facts in
    let B = h.b.value.facts in
    let S = h.start.value in
    let T = c.args.start.now in
    let m = c.give_start.new.matcher in
    let is = subst (λ o. IsListing A B S h.given.items h.map o) (sym c.take.ensures.value ∙ c.in-Some.is) c.self.invariant in
    let same : (v : Val) → v ∈ values A → (v ∈ domain_of T) ↔ (v ∈ domain_of S) = λ v i.
    subst (λ s. (v ∈ domain_of T) ↔ (v ∈ domain_of s)) (sym (ap (λ p. p.start) c.self.view_is)) (c.requires.same v (subst (λ K. v ∈ values K) (ap (λ p. p.source) c.self.view_is) i)) in
    let levels : m.levels ≡ levels_of A B T =
    ap (λ q. q.levels) c.give_start.ensures.numbers ∙ ap (λ q. q.levels) c.end-matcher.ensures.base ∙ is.numbers.0 ∙ levels_of-names A B S T (named-alike A T S same) in
    let numbers : m.start ≡ bindings_of A B T = ap (λ q. q.start) c.give_start.ensures.numbers ∙ ap₂ (λ x y. bindings_of x.facts y.facts T) c.deref.ensures c.deref-2.ensures in
    begun-progress A B A B T _ m (Some c.again.result) refl refl c.of.ensures (ap Some c.again.ensures.start) levels numbers is.distinct c.requires.fixed
    ∙ ap₂ (λ K L. begun K L T) (ap (λ p. p.source) c.self.view_is) (ap (λ p. p.target) c.self.view_is)
