use Rattle.std.proofs.Common.{[], length, refl, ◌∙◌, ap, arith}
use Rattle.std.proofs.lemmas.List.{length-map}
use Rattle.eir_term.specs.Instances.{values}
use Rattle.eir_hom.specs.Occurring.{Occurring}
use Rattle.eir_hom.proofs.MarkLaws.{marked-first}
use Rattle.eir_hom.proofs.OrderLaws.{plan-first, views-first}
use Rattle.eir_hom.proofs.StepLaws.{columns-numbered}
use Rattle.eir_hom.proofs.course.Course.new.Goals as goal

pub new-requires : goal.new-requires
new-requires g c k l =
    let K = c.args.a.now.facts in
    let below = columns-numbered K c.in_ok-columns.columns.items c.in_ok-columns.ensures k l in
    let known = ap length c.in_ok-known.ensures ∙ length-map (values K) _ in
    let len = c.len.ensures in
    let vec = c.in_ok-known.known.ok.0 in
    omega arith

pub invariant_of-result : goal.invariant_of-result
invariant_of-result g c =
    let K = c.args.a.now.facts in
    let L = c.args.b.now.facts in
    let s = c.args.start.now in
    let seats = c.in_ok-front.ensures ∙ c.in_ok-seats.ensures.seats in
    let known = ap length c.in_ok-known.ensures ∙ length-map (values K) _ in
    rw (c.of.ensures, c.of-2.ensures, c.of-3.ensures, c.in_ok-shapes.ensures.items) (record {
      listed = record {
        views = views-first K L s c.in_ok-front.front seats;
        marks = marked-first (values K) s [] c.in_ok-known.known.items c.in_ok-known.ensures;
        order = plan-first K L s c.in_ok-front.front seats;
      };
      columns = ap (λ (o : Occurring). o.columns) c.in_ok-occurrences.ensures ∙ c.in_ok-columns.ensures;
      numbers = ap (λ (o : Occurring). o.values) c.in_ok-occurrences.ensures ∙ c.len.ensures ∙ omega (arith, known, c.in_ok-known.known.ok.0);
      shapes = refl;
      rest = rw c.in_ok-known.ensures refl;
      room = omega (arith, c.in_ok-shapes.ensures.exact, c.len-2.ensures);
    })
