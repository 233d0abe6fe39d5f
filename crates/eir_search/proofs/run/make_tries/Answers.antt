use Rattle.std.proofs.Common.{◌≡◌, ◌+◌, ◌-◌, ◌<◌, inl, inr, [], ◌∷◌, ◌++◌, length, take, set, min, arith, refl, sym, ◌∙◌}
use Rattle.std.proofs.lemmas.List.{length-set, length-take-le}
use Rattle.eir_search.specs.declared.search.Turn.TheVariants.{Done, Found}
use Rattle.eir_search.specs.Tries.{tries_left}
use Rattle.eir_search.proofs.CountLaws.{tries_left-some}
use Rattle.eir_search.proofs.TryLaws.{take-placed}
use Rattle.eir_search.proofs.TakenLaws.{tries_left-turn}
use Rattle.eir_search.proofs.RunLaws.{running-up, running-none, running-next, running-some, running-on, running-down, running-found, running-smaller}
use Rattle.eir_search.proofs.run.make_tries.Goals as goal

pub tries-smaller-then-choice-width : goal.tries-smaller-then-choice-width
tries-smaller-then-choice-width g c =
    let r = c.tries.invariant.4 in
    let s : g.P.Problem.space c.lift.new.self ≡ g.P.Problem.space c.args.problem.now = c.lift.ensures.space ∙ c.tries.invariant.0 in
    let up : c.tries.level ≡ c.tries.level - 1 + 1 = omega arith in
    let w : c.width-width.result ≡ (g.P.Problem.space c.args.problem.now).width (take (c.tries.level - 1) (g.P.Problem.placed c.lift.new.self)) = cc in
    running-smaller r (running-up _ _ _ _ _ _ _ _ _ _ _ _ r c.if-choice-width.true up c.lift.ensures.placed refl w) (inr (refl, omega arith))

pub tries-preserved-then-choice-width : goal.tries-preserved-then-choice-width
tries-preserved-then-choice-width g c =
    let r = c.tries.invariant.4 in
    let s : g.P.Problem.space c.lift.new.self ≡ g.P.Problem.space c.args.problem.now = c.lift.ensures.space ∙ c.tries.invariant.0 in
    let up : c.tries.level ≡ c.tries.level - 1 + 1 = omega arith in
    let w : c.width-width.result ≡ (g.P.Problem.space c.args.problem.now).width (take (c.tries.level - 1) (g.P.Problem.placed c.lift.new.self)) = cc in
    (s, c.lift.ensures.base ∙ c.tries.invariant.1, c.tries.invariant.2, c.tries.invariant.3, running-up _ _ _ _ _ _ _ _ _ _ _ _ r c.if-choice-width.true up c.lift.ensures.placed refl w)

pub tries-smaller-then-found-end : goal.tries-smaller-then-found-end
tries-smaller-then-found-end g c =
    let r = c.tries.invariant.4 in
    let bad = rw c.tries.invariant.0 at c.scan-found.ensures.bad in
    let tried : 0 < c.min.result = omega arith in
    let made : c.args.tries - (c.tries.left - (c.tries.choice + c.min.result - c.tries.choice)) ≡ c.args.tries - c.tries.left + (c.tries.choice + c.min.result - c.tries.choice) = omega arith in
    running-smaller r
    (running-on _ _ _ _ _ _ _ _ (c.tries.choice + c.min.result) _ _ r c.if-choice-width.false (omega arith) (omega arith) (λ k f t. bad k f (omega arith)) (c.scan-found.ensures.none c.if-found-end.true) made)
    (inl (omega arith, omega arith))

pub tries-preserved-then-found-end : goal.tries-preserved-then-found-end
tries-preserved-then-found-end g c =
    let r = c.tries.invariant.4 in
    let bad = rw c.tries.invariant.0 at c.scan-found.ensures.bad in
    let made : c.args.tries - (c.tries.left - (c.tries.choice + c.min.result - c.tries.choice)) ≡ c.args.tries - c.tries.left + (c.tries.choice + c.min.result - c.tries.choice) = omega arith in (
      c.scan-found.ensures.space ∙ c.tries.invariant.0,
      c.scan-found.ensures.base ∙ c.tries.invariant.1,
      c.tries.invariant.2,
      omega arith,
      running-on _ _ _ _ _ _ _ _ (c.tries.choice + c.min.result) _ _ r c.if-choice-width.false (omega arith) (omega arith) (λ k f t. bad k f (omega arith)) (c.scan-found.ensures.none c.if-found-end.true) made,
    )

pub tries-smaller : goal.tries-smaller
tries-smaller g c =
    let r = c.tries.invariant.4 in
    let s : g.P.Problem.space c.scan-found.new.self ≡ g.P.Problem.space c.args.problem.now = c.scan-found.ensures.space ∙ c.tries.invariant.0 in
    let before : c.scan-found.result < c.tries.choice + c.min.result = omega arith in
    let bad = rw c.tries.invariant.0 at c.scan-found.ensures.bad in
    let good = rw c.tries.invariant.0 at (c.scan-found.ensures.good before) in
    let w : c.width-width-in-tries.result ≡ (g.P.Problem.space c.args.problem.now).width (take (c.tries.level + 1) (g.P.Problem.placed c.scan-found.new.self)) = cc in
    let made : c.args.tries - (c.tries.left - (c.scan-found.result - c.tries.choice + 1)) ≡ c.args.tries - c.tries.left + (c.scan-found.result - c.tries.choice + 1) = omega arith in
    running-smaller r
    (running-down _ _ _ _ _ _ _ _ _ _ _ _ r c.if-choice-width.false c.scan-found.ensures.from (omega arith) (omega arith) bad good (λ e. c.if-level-levels.false (e ∙ sym c.levels-levels.ensures)) (c.scan-found.ensures.placed before) w made)
    (inl (omega arith, omega arith))

pub tries-preserved : goal.tries-preserved
tries-preserved g c =
    let r = c.tries.invariant.4 in
    let s : g.P.Problem.space c.scan-found.new.self ≡ g.P.Problem.space c.args.problem.now = c.scan-found.ensures.space ∙ c.tries.invariant.0 in
    let before : c.scan-found.result < c.tries.choice + c.min.result = omega arith in
    let bad = rw c.tries.invariant.0 at c.scan-found.ensures.bad in
    let good = rw c.tries.invariant.0 at (c.scan-found.ensures.good before) in
    let w : c.width-width-in-tries.result ≡ (g.P.Problem.space c.args.problem.now).width (take (c.tries.level + 1) (g.P.Problem.placed c.scan-found.new.self)) = cc in
    let made : c.args.tries - (c.tries.left - (c.scan-found.result - c.tries.choice + 1)) ≡ c.args.tries - c.tries.left + (c.scan-found.result - c.tries.choice + 1) = omega arith in (
      s,
      c.scan-found.ensures.base ∙ c.tries.invariant.1,
      omega (arith, length-set c.tries.choices c.tries.level c.scan-found.result, c.tries.invariant.2),
      omega arith,
      running-down _ _ _ _ _ _ _ _ _ _ _ _ r c.if-choice-width.false c.scan-found.ensures.from (omega arith) (omega arith) bad good (λ e. c.if-level-levels.false (e ∙ sym c.levels-levels.ensures)) (c.scan-found.ensures.placed before) w made,
    )

pub returns-then-level-eq0-clause-takes : goal.returns-then-level-eq0-clause-takes
returns-then-level-eq0-clause-takes g c =
    let r = c.tries.invariant.4 in
    let none = running-none _ _ _ _ _ _ _ _ r c.if-choice-width.true c.if-level-eq0.true in
    rw (← r.placed_is) (r.came, none)

pub returns-then-left-eq0-clause-going : goal.returns-then-left-eq0-clause-going
returns-then-left-eq0-clause-going g c = λ _.
    let r = c.tries.invariant.4 in
    let below = running-next _ _ _ _ _ _ _ _ r c.if-choice-width.false in
    let some = running-some _ _ _ _ _ _ _ _ r c.if-choice-width.false in
    let left : 0 < tries_left (g.P.Problem.space c.args.problem.now) (g.P.Problem.placed c.tries.problem) c.tries.choice =
    rw (tries_left-some (g.P.Problem.space c.args.problem.now) (g.P.Problem.placed c.tries.problem) c.tries.choice (omega (arith, below))) some in
    (c.if-left-eq0.true, rw r.placed_is at left)

pub returns-then-level-levels-clause-takes : goal.returns-then-level-levels-clause-takes
returns-then-level-levels-clause-takes g c =
    let r = c.tries.invariant.4 in
    let before : c.scan-found.result < c.tries.choice + c.min.result = omega arith in
    let bad = rw c.tries.invariant.0 at c.scan-found.ensures.bad in
    let good = rw c.tries.invariant.0 at (c.scan-found.ensures.good before) in
    let full : c.tries.level + 1 ≡ (g.P.Problem.space c.args.problem.now).levels = c.if-level-levels.true ∙ c.levels-levels.ensures in
    let one : min 1 (g.P.Problem.space c.args.problem.now).levels ≡ 1 = omega arith in
    let made : c.args.tries - (c.tries.left - (c.scan-found.result - c.tries.choice + 1)) - 1 ≡ c.args.tries - c.tries.left + (c.scan-found.result - c.tries.choice) = omega arith in
    let room : c.tries.level < length c.tries.choices = omega (arith, r.room) in
    let placed : take (c.tries.level + 1) (set c.tries.choices c.tries.level c.scan-found.result) ≡ g.P.Problem.placed c.tries.problem ++ c.scan-found.result ∷ [] =
    take-placed c.tries.choices (g.P.Problem.placed c.tries.problem) c.tries.level c.scan-found.result room (sym r.placed_is) in
    rw one (omega arith, running-found _ _ _ _ _ _ _ _ c.scan-found.result _ _ r c.if-choice-width.false c.scan-found.ensures.from (omega arith) bad good full placed made)

pub returns-then-level-eq0-clause-fewer : goal.returns-then-level-eq0-clause-fewer
returns-then-level-eq0-clause-fewer g c =
    let long : length (take c.args.level c.args.choices.now) ≡ c.args.level = length-take-le c.args.level c.args.choices.now (omega (arith, c.requires.within, c.requires.room)) in
    tries_left-turn Done _ _ _ _ _ _ (take c.tries.level c.tries.choices) (omega (arith, c.requires.within)) (returns-then-level-eq0-clause-takes g c)

pub returns-then-level-levels-clause-fewer : goal.returns-then-level-levels-clause-fewer
returns-then-level-levels-clause-fewer g c =
    let long : length (take c.args.level c.args.choices.now) ≡ c.args.level = length-take-le c.args.level c.args.choices.now (omega (arith, c.requires.within, c.requires.room)) in
    tries_left-turn Found _ _ _ _ _ _ (take (c.tries.level + 1) (set c.tries.choices c.tries.level c.scan-found.result)) (omega (arith, c.requires.within)) (returns-then-level-levels-clause-takes g c)
