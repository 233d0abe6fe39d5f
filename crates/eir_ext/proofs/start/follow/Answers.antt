use Rattle.std.proofs.Common.{◌+◌, length, subst, sym, ap, arith}
use Rattle.std.proofs.lemmas.List.{length-map}
use Rattle.eir_term.specs.declared.val.Val.TheVariants.{Null}
use Rattle.eir_term.specs.Maps.{domain_of, image}
use Rattle.eir_ext.proofs.StartLaws.{AreNumbers-length, AreNumbers-at, Follows, Follows-more, Follows-all, image-placed, named-below}
use Rattle.eir_ext.proofs.start.follow.Goals as goal

pub image_at-requires : goal.image_at-requires
image_at-requires c =
    named-below c.args.hom.now _ _ (AreNumbers-at (domain_of c.args.hom.now) (domain_of c.args.start.now) c.args.numbers.now c.loop-place.place 0 (Null 0) c.requires.numbers c.loop-place-test.true)

pub set_at-requires : goal.set_at-requires
set_at-requires c = omega (
  arith,
  AreNumbers-length (domain_of c.args.hom.now) (domain_of c.args.start.now) c.args.numbers.now c.requires.numbers,
  ap length c.loop-place.invariant.names,
  length-map c.loop-place.start (λ p. p.0),
)

pub loop-place-preserved : goal.loop-place-preserved
loop-place-preserved c =
    let at = AreNumbers-at (domain_of c.args.hom.now) (domain_of c.args.start.now) c.args.numbers.now c.loop-place.place 0 (Null 0) c.requires.numbers c.loop-place-test.true in
    let same = AreNumbers-length (domain_of c.args.hom.now) (domain_of c.args.start.now) c.args.numbers.now c.requires.numbers in
    subst (Follows (image c.args.hom.now) (domain_of c.args.start.now) (c.loop-place.place + 1)) (sym c.set_at.ensures)
    (Follows-more (image c.args.hom.now) (domain_of c.args.start.now) c.loop-place.place (Null 0) c.image_at.result c.loop-place.start (omega arith)
    (image-placed c.args.hom.now _ _ c.image_at.result c.requires.distinct at c.image_at.ensures) c.loop-place.invariant)

pub returns : goal.returns
returns c =
    let same = AreNumbers-length (domain_of c.args.hom.now) (domain_of c.args.start.now) c.args.numbers.now c.requires.numbers in
    Follows-all (image c.args.hom.now) (domain_of c.args.start.now) c.loop-place.place c.loop-place.start (omega arith) c.loop-place.invariant
