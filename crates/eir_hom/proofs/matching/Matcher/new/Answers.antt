use Rattle.std.proofs.Common.{◌≡◌, [], false, length, get_or, ◌∙◌, ap, replicate, arith}
use Rattle.eir_hom.proofs.BuildLaws.{fresh, never-flagged}
use Rattle.eir_hom.proofs.matching.Matcher.new.Goals as goal

pub invariant_of-result : goal.invariant_of-result
invariant_of-result c =
    let ranges = c.in_ok-vec.field-0 in
    let images = c.in_ok-vec-2.field-0 in
    let flags = c.in_ok-vec-3.field-0 in
    let placed = c.in_ok-vec-4.field-0 in
    let long : length flags.items ≡ length images.items = omega (arith, c.in_ok-vec-2.ensures.len, c.in_ok-vec-3.ensures.len, images.ok.0, flags.ok.0) in
    let unset : flags.items ≡ replicate c.args.slots false = c.in_ok-vec-3.ensures.items_if_clones_equal (λ y h. cc) in
    rw (c.in_ok-new.ensures.ok, c.in_ok-with_capacity.ensures.items, c.in_ok-with_capacity-2.ensures.items, c.new-2.ensures.items) (
      fresh c.args.stock [] [] [] images.items flags.items ranges.items placed.items 0 (omega arith) long (omega arith) (omega arith) (λ k h. absurd (omega arith)) tt (λ s. ap (λ xs. get_or xs s false) unset ∙ never-flagged c.args.slots s) (λ l r a b. absurd (cc)),
      record {
        levels_room = omega (arith, c.requires.levels, c.in_ok-with_capacity.ensures.exact);
        columns_room = omega (arith, c.requires.columns, c.in_ok-with_capacity-2.ensures.exact);
        ranges_room = omega (arith, c.requires.levels, c.in_ok-vec.ensures.len, ranges.ok.0);
        placed_room = omega (arith, c.requires.levels, c.in_ok-vec-4.ensures.len, placed.ok.0);
        filled = omega arith;
      },
    )
