use Rattle.std.proofs.Common.{◌≤◌, length, true, sym, ap, subst, arith}
use Rattle.std.specs.Prelude.{IsSome}
use Rattle.std.proofs.Math.ListN.{set}
use Rattle.std.proofs.lemmas.Bool.{false≢true}
use Rattle.std.proofs.lemmas.List.{set_past}
use Rattle.std.proofs.lemmas.Option.{slice_get_within}
use Rattle.eir_term.specs.Lists.{place_of}
use Rattle.eir_term.specs.Values.{val_eq}
use Rattle.eir_term.specs.Instances.{values}
use Rattle.eir_term.proofs.HomLaws.{IsDistinct-values}
use Rattle.eir_hom.proofs.MarkLaws.{place_of-unique, place_of-absent}
use Rattle.eir_hom.proofs.plan.mark.Goals as goal

pub bounds-known-number : goal.bounds-known-number
bounds-known-number c =
    let there = (c.number_of.ensures.there c.in-Some.number).0 c.in-Some.is in
    let within = slice_get_within (values c.args.a.now.facts) c.in-Some.number c.args.value there in
    omega arith

pub returns-in-Some : goal.returns-in-Some
returns-in-Some c =
    let there = (c.number_of.ensures.there c.in-Some.number).0 c.in-Some.is in
    ap (λ n. set c.args.known.now n true) (sym (place_of-unique (values c.args.a.now.facts) c.in-Some.number c.args.value (IsDistinct-values c.args.a.now.facts) there))

pub returns-in_default : goal.returns-in_default
returns-in_default c =
    let ends = place_of-absent c.args.value (values c.args.a.now.facts) (λ h. false≢true (subst (λ o. IsSome o) c.in_default.is (c.number_of.ensures.absent.1 h))) in
    let past : length c.args.known.now ≤ place_of val_eq c.args.value (values c.args.a.now.facts) = omega arith in
    sym (set_past c.args.known.now (place_of val_eq c.args.value (values c.args.a.now.facts)) true past)
