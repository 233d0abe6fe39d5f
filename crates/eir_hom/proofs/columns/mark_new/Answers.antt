use Rattle.std.proofs.Common.{◌≡◌, ◌<◌, length, get_or, not, false, take, arith, sym, ◌∙◌, refl, ap, ◌≤◌}
use Rattle.std.proofs.lemmas.List.{take_more_set, take_more, take_all, length-map, length-set, get_or-map}
use Rattle.eir_hom.specs.declared.columns.Column.{Column}
use Rattle.eir_hom.specs.Columns.{is_among, seen_after, slots_of}
use Rattle.eir_hom.proofs.ColumnLaws.{slot-below_as, slots-set, columns-push, seen_after-push, marked-at, take-slots}
use Rattle.eir_hom.proofs.columns.mark_new.Goals as goal

pub bounds-is_bound-slot : goal.bounds-is_bound-slot
bounds-is_bound-slot c =
    let lt : c.loop-i.i < length c.loop-i.columns = omega arith in
    rw c.loop-i.invariant.cells (slot-below_as _ _ _ _ _ c.requires c.loop-i.invariant.slots lt)

pub bounds-is_bound-slot-in-loop-i : goal.bounds-is_bound-slot-in-loop-i
bounds-is_bound-slot-in-loop-i c =
    let lt : c.loop-i.i < length c.loop-i.columns = omega arith in
    rw c.loop-i.invariant.cells (slot-below_as _ _ _ _ _ c.requires c.loop-i.invariant.slots lt)

pub loop-i-preserved : goal.loop-i-preserved
loop-i-preserved c =
    let lt : c.loop-i.i < length c.loop-i.columns = omega arith in
    let d : Column = record { slot = 0; is_new = false } in
    let s = (get_or c.loop-i.columns c.loop-i.i d).slot in
    let below : s < length c.loop-i.is_bound = rw c.loop-i.invariant.cells (slot-below_as _ _ _ _ _ c.requires c.loop-i.invariant.slots lt) in
    record {
      slots = slots-set c.loop-i.columns c.loop-i.i _ d lt refl ∙ c.loop-i.invariant.slots;
      cells = length-set _ _ _ ∙ c.loop-i.invariant.cells;
      marked = λ seen h.
          rw (take_more_set c.loop-i.columns c.loop-i.i _ lt)
          (columns-push seen (take c.loop-i.i c.loop-i.columns) _ (c.loop-i.invariant.marked seen h)
          (ap not (c.loop-i.invariant.bound seen h s ∙ ap (λ l. is_among s (seen_after seen l)) (ap (take c.loop-i.i) (sym c.loop-i.invariant.slots) ∙ take-slots c.loop-i.i c.loop-i.columns))));
      bound = λ seen h t.
          (let at : get_or (slots_of c.args.columns.now) c.loop-i.i 0 ≡ s = ap (λ l. get_or l c.loop-i.i 0) (sym c.loop-i.invariant.slots) ∙ get_or-map (λ b. b.slot) c.loop-i.columns c.loop-i.i d 0 lt in
          let long : c.loop-i.i < length (slots_of c.args.columns.now) = omega (arith, c.loop-i-test.true, length-map c.args.columns.now (λ b. b.slot)) in
          rw (take_more (slots_of c.args.columns.now) c.loop-i.i 0 long, seen_after-push, at)
          (marked-at c.loop-i.is_bound (seen_after seen (take c.loop-i.i (slots_of c.args.columns.now))) s t below (c.loop-i.invariant.bound seen h t)));
    }

pub returns-clause-bound : goal.returns-clause-bound
returns-clause-bound c = λ seen h s.
    let long : length (slots_of c.args.columns.now) ≤ c.loop-i.i = omega (arith, c.loop-i-test.false, length-map c.args.columns.now (λ b. b.slot)) in
    let e : take c.loop-i.i (slots_of c.args.columns.now) ≡ slots_of c.args.columns.now = take_all c.loop-i.i (slots_of c.args.columns.now) long in
    rw e at (c.loop-i.invariant.bound seen h s)
