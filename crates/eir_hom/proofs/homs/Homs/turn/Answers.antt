use Rattle.std.proofs.Common.{Some, ◌∷◌, map, sym, ap, ◌∙◌, subst, refl}
use Rattle.eir_hom.specs.Levels.{matched_hom}
use Rattle.eir_hom.specs.Listings.{IsListing, homs_to_come}
use Rattle.eir_hom.proofs.ListingLaws.{turn-quiet, turn-tells, quiet-next, told-there, told-bound, told-hom, told-next}
use Rattle.eir_hom.proofs.homs.Homs.turn.Goals as goal

pub invariant_of-self : goal.invariant_of-self
invariant_of-self g c =
    let h = c.self.inside in
    let is = subst (λ o. IsListing h.a.value.facts h.b.value.facts h.start.value h.given.items h.map o) c.in-Some.is c.self.invariant in
    let base = c.turn-turn.ensures.base in
    quiet-next _ _ _ _ _ c.in-Some.search c.turn-turn.new.self is (ap (λ m. m.levels) base) (ap (λ m. m.start) base) (turn-quiet c.in-Some.search c.turn-turn.new.self _ c.in-Going.ensures.takes)

pub invariant_of-self-in-Spent : goal.invariant_of-self-in-Spent
invariant_of-self-in-Spent g c =
    let h = c.self.inside in
    let is = subst (λ o. IsListing h.a.value.facts h.b.value.facts h.start.value h.given.items h.map o) c.in-Some.is c.self.invariant in
    let base = c.turn-turn.ensures.base in
    quiet-next _ _ _ _ _ c.in-Some.search c.turn-turn.new.self is (ap (λ m. m.levels) base) (ap (λ m. m.start) base) (turn-quiet c.in-Some.search c.turn-turn.new.self _ c.in-Spent.ensures.takes)

pub write_images-requires-clause-bound : goal.write_images-requires-clause-bound
write_images-requires-clause-bound g c =
    let h = c.self.inside in
    let is = subst (λ o. IsListing h.a.value.facts h.b.value.facts h.start.value h.given.items h.map o) c.in-Some.is c.self.invariant in
    let base = c.turn-turn.ensures.base in
    let tells = turn-tells c.in-Some.search c.turn-turn.new.self _ c.turn-turn.new.self.choices c.in-Found.ensures.takes.1 in
    rw c.deref.ensures
    (told-bound h.a.value.facts h.b.value.facts h.start.value h.given.items h.map c.in-Some.search c.turn-turn.new.self is (ap (λ m. m.levels) base) (ap (λ m. m.start) base) tells)

pub write_images-requires-clause-there : goal.write_images-requires-clause-there
write_images-requires-clause-there g c =
    let h = c.self.inside in
    let is = subst (λ o. IsListing h.a.value.facts h.b.value.facts h.start.value h.given.items h.map o) c.in-Some.is c.self.invariant in
    let base = c.turn-turn.ensures.base in
    let tells = turn-tells c.in-Some.search c.turn-turn.new.self _ c.turn-turn.new.self.choices c.in-Found.ensures.takes.1 in
    told-there h.a.value.facts h.b.value.facts h.start.value h.given.items h.map c.in-Some.search c.turn-turn.new.self is (ap (λ m. m.levels) base) (ap (λ m. m.start) base) tells

pub invariant_of-self-in-Found : goal.invariant_of-self-in-Found
invariant_of-self-in-Found g c =
    let h = c.self.inside in
    let is = subst (λ o. IsListing h.a.value.facts h.b.value.facts h.start.value h.given.items h.map o) c.in-Some.is c.self.invariant in
    let base = c.turn-turn.ensures.base in
    let tells = turn-tells c.in-Some.search c.turn-turn.new.self _ c.turn-turn.new.self.choices c.in-Found.ensures.takes.1 in
    told-next h.a.value.facts h.b.value.facts h.start.value h.given.items h.map c.in-Some.search c.turn-turn.new.self is (ap (λ m. m.levels) base) (ap (λ m. m.start) base) tells c.write_images.new.map
    c.write_images.ensures.domain

pub returns-in-Found-clause-found : goal.returns-in-Found-clause-found
returns-in-Found-clause-found g c = λ _.
    let h = c.self.inside in
    let is = subst (λ o. IsListing h.a.value.facts h.b.value.facts h.start.value h.given.items h.map o) c.in-Some.is c.self.invariant in
    let base = c.turn-turn.ensures.base in
    let tells = turn-tells c.in-Some.search c.turn-turn.new.self _ c.turn-turn.new.self.choices c.in-Found.ensures.takes.1 in
    let found = told-hom h.a.value.facts h.b.value.facts h.start.value h.given.items h.map c.in-Some.search c.turn-turn.new.self is (ap (λ m. m.levels) base) (ap (λ m. m.start) base) tells c.write_images.new.map
    c.write_images.ensures.domain (rw c.deref.ensures at c.write_images.ensures.images) in (
      c.write_images.new.map,
      refl,
      sym (ap (λ p. p.to_come) c.self.view_is)
          ∙ ap (homs_to_come h.a.value.facts h.b.value.facts h.start.value) c.in-Some.is
          ∙ ap (map (matched_hom h.a.value.facts h.b.value.facts h.start.value)) tells
          ∙ ap (λ m. m ∷ homs_to_come h.a.value.facts h.b.value.facts h.start.value (Some c.turn-turn.new.self)) (sym found),
    )

pub returns-in-Going-clause-not_found : goal.returns-in-Going-clause-not_found
returns-in-Going-clause-not_found g c = λ _.
    let h = c.self.inside in (
      refl,
      ap (map (matched_hom h.a.value.facts h.b.value.facts h.start.value)) (sym (turn-quiet c.in-Some.search c.turn-turn.new.self _ c.in-Going.ensures.takes))
          ∙ ap (homs_to_come h.a.value.facts h.b.value.facts h.start.value) (sym c.in-Some.is)
          ∙ ap (λ p. p.to_come) c.self.view_is,
    )

pub returns-in-Spent-clause-not_found : goal.returns-in-Spent-clause-not_found
returns-in-Spent-clause-not_found g c = λ _.
    let h = c.self.inside in (
      refl,
      ap (map (matched_hom h.a.value.facts h.b.value.facts h.start.value)) (sym (turn-quiet c.in-Some.search c.turn-turn.new.self _ c.in-Spent.ensures.takes))
          ∙ ap (homs_to_come h.a.value.facts h.b.value.facts h.start.value) (sym c.in-Some.is)
          ∙ ap (λ p. p.to_come) c.self.view_is,
    )

pub returns-in-Done-clause-not_found : goal.returns-in-Done-clause-not_found
returns-in-Done-clause-not_found g c = λ _.
    let h = c.self.inside in (
      refl,
      ap (map (matched_hom h.a.value.facts h.b.value.facts h.start.value)) (sym (turn-quiet c.in-Some.search c.turn-turn.new.self _ c.in-Done.ensures.takes.0))
          ∙ ap (homs_to_come h.a.value.facts h.b.value.facts h.start.value) (sym c.in-Some.is)
          ∙ ap (λ p. p.to_come) c.self.view_is,
    )
