use Rattle.std.proofs.Common.{◌≡◌, ℕ, ◌<◌, ◌≤◌, ◌++◌, ◌∷◌, [], false, Some, get_or, length, sym, ◌∙◌, ap, ap₂, subst, arith}
use Rattle.std.proofs.lemmas.List.{length-map}
use Rattle.eir_term.specs.declared.fact.Fact.{Fact}
use Rattle.eir_term.specs.Instances.{values}
use Rattle.eir_inst.specs.Numbers.{numbers_of}
use Rattle.eir_hom.specs.declared.front.Seat.{Seat}
use Rattle.eir_hom.specs.Fronts.{AreViews}
use Rattle.eir_hom.proofs.MarkLaws.{row-read, row-below, row-length, fact-read}
use Rattle.eir_hom.proofs.OrderLaws.{seats-more, AreViews-push, IsView-filled}
use Rattle.eir_hom.proofs.plan.seats_of.Goals as goal

pub known_among-requires-clause-numbered : goal.known_among-requires-clause-numbered
known_among-requires-clause-numbered c k l =
    let K = c.args.a.now.facts in
    let row = row-read K c.loop-place.place c.numbers_at.result.now c.numbers_at.ensures in
    let below = row-below K c.loop-place.place c.numbers_at.result.now row k l in
    let wide = ap length c.requires ∙ length-map (values K) _ in
    omega arith

pub known_among-requires-clause-few : goal.known_among-requires-clause-few
known_among-requires-clause-few c =
    let K = c.args.a.now.facts in
    let f = c.index-as_slice-place.result in
    let row = row-read K c.loop-place.place c.numbers_at.result.now c.numbers_at.ensures in
    let same = fact-read K c.loop-place.place c.numbers_at.result.now row f f (c.index-as_slice-place.is ∙ ap (λ xs. get_or xs c.loop-place.place f) c.as_slice.ensures.facts) in
    let long : length c.numbers_at.result.now ≡ length c.as_slice-in-loop-place.result.now =
    row-length K c.loop-place.place c.numbers_at.result.now row ∙ ap (λ (h : Fact). length h.args) same ∙ sym (ap length c.as_slice-in-loop-place.ensures.values) in
    let few = c.as_slice-in-loop-place.ensures.few in
    omega arith

pub loop-place-preserved : goal.loop-place-preserved
loop-place-preserved c =
    let K = c.args.a.now.facts in
    let f = c.index-as_slice-place.result in
    let ss = c.loop-place.seats.items in
    let n = c.known_among.result in
    let row = row-read K c.loop-place.place c.numbers_at.result.now c.numbers_at.ensures in
    let same = fact-read K c.loop-place.place c.numbers_at.result.now row f f (c.index-as_slice-place.is ∙ ap (λ xs. get_or xs c.loop-place.place f) c.as_slice.ensures.facts) in
    let there = row.there ∙ ap Some same in
    let numbers = row.numbers ∙ ap (λ (h : Fact). numbers_of (values K) h.args) same in
    let long : length c.numbers_at.result.now ≡ length c.as_slice-in-loop-place.result.now =
    row-length K c.loop-place.place c.numbers_at.result.now row ∙ ap (λ (h : Fact). length h.args) same ∙ sym (ap length c.as_slice-in-loop-place.ensures.values) in
    let bound = c.known_among.ensures.within in
    let within : n ≤ length c.as_slice-in-loop-place.result.now = omega arith in
    let rel : f.rel < 4294967296 = omega arith in
    let count : c.count_in.result < 18446744073709551616 = omega arith in
    record {
      seats = c.in_ok-push.ensures.items
          ∙ ap₂ (λ (m k : ℕ). let s : Seat = record { view = record { rel = f.rel; arity = m; bound = n; count = k }; is_listed = false } in ss ++ s ∷ []) (ap length c.as_slice-in-loop-place.ensures.values)
          c.count_in.ensures.count
          ∙ seats-more K c.args.b.now.facts c.args.start.now c.args.known.now c.loop-place.place n f c.numbers_at.result.now ss c.requires there numbers c.known_among.ensures.known c.loop-place.invariant.seats;
      views = subst (λ xs. AreViews xs) (sym c.in_ok-push.ensures.items) (AreViews-push ss _ c.loop-place.invariant.views
          (IsView-filled f.rel n (length c.as_slice-in-loop-place.result.now) c.count_in.result rel c.as_slice-in-loop-place.ensures.some c.as_slice-in-loop-place.ensures.few within count));
      counts = c.count_in.ensures.known;
    }
