use Rattle.std.proofs.Common.{◌≡◌, ◌+◌, ◌-◌, ◌<◌, ◌≤◌, take, length, get_or, arith, ap, sym, ◌∙◌, ◌^◌, rules}
use Rattle.std.proofs.lemmas.Grind.{get_or_default_zero}
use Rattle.std.proofs.lemmas.List.{get_or-take, length-take-le}
use Rattle.eir_search.proofs.TryLaws.{IsExhausted, exhausted-at, coming-none, coming-up-in}
use Rattle.eir_search.proofs.search.Search.next_try.Goals as goal
use Rattle.eir_search.proofs.search.Search.next_try.Goals.{then-level-levels, else-level-levels+then-choice-width}

pub returns-then-level-eq0-clause-none : goal.returns-then-level-eq0-clause-none
returns-then-level-eq0-clause-none g c =
    let problem : c.self.inside.problem ≡ c.args.self.now.problem = ap (λ s. s.problem) c.self.view_is in
    let placed : take c.self.inside.depth c.self.inside.choices.items ≡ c.args.self.now.choices = ap (λ s. s.choices) c.self.view_is in
    let depth : length c.args.self.now.choices ≡ c.self.inside.depth = ap length (sym placed) ∙ length-take-le c.self.inside.depth c.self.inside.choices.items (omega arith) in
    let levels : c.levels-levels.result ≡ (g.P.Problem.space c.args.self.now.problem).levels = cc in
    let tried : c.loop-level.level < (g.P.Problem.space c.args.self.now.problem).levels →
    (g.P.Problem.space c.args.self.now.problem).width (take c.loop-level.level c.args.self.now.choices) ≤ c.loop-level.choice =
    elim c.if-level-levels.branch [
      | then-level-levels w ↦ (λ lt. absurd (omega (arith, w.if-level-levels.true)))
      | else-level-levels+then-choice-width w ↦ (λ lt.
          let e : w.width.result ≡ (g.P.Problem.space c.args.self.now.problem).width (take c.loop-level.level c.args.self.now.choices) = cc in
          omega (arith, w.if-choice-width.true))
    ] in
    let x : IsExhausted (g.P.Problem.space c.args.self.now.problem) (take c.loop-level.level c.args.self.now.choices) c.loop-level.choice =
    exhausted-at _ _ _ _ c.loop-level.invariant.0 (omega arith) (λ e. c.loop-level.invariant.1 (e ∙ sym levels)) tried in
    let none : length (take c.loop-level.level c.args.self.now.choices) ≡ 0 = omega (arith, length-take-le c.loop-level.level c.args.self.now.choices c.loop-level.invariant.0) in
    rw c.loop-level.invariant.2 (coming-none _ _ _ none x)

pub overflow_add-choice : goal.overflow_add-choice
overflow_add-choice g c =
    let placed : take c.self.inside.depth c.self.inside.choices.items ≡ c.args.self.now.choices = ap (λ s. s.choices) c.self.view_is in
    let depth : length c.args.self.now.choices ≡ c.self.inside.depth = ap length (sym placed) ∙ length-take-le c.self.inside.depth c.self.inside.choices.items (omega arith) in
    let lt : c.loop-level.level - 1 < length c.self.inside.choices.items = omega arith in
    let e : c.index.result.now ≡ get_or c.self.inside.choices.items (c.loop-level.level - 1) 0 = c.index.ensures ∙ get_or_default_zero _ _ _ lt in
    let h : c.index.result.now + 1 < 2 ^ 64 = rw e (c.self.invariant.4 (c.loop-level.level - 1)) in
    search rules

pub loop-level-preserved : goal.loop-level-preserved
loop-level-preserved g c =
    let problem : c.self.inside.problem ≡ c.args.self.now.problem = ap (λ s. s.problem) c.self.view_is in
    let placed : take c.self.inside.depth c.self.inside.choices.items ≡ c.args.self.now.choices = ap (λ s. s.choices) c.self.view_is in
    let depth : length c.args.self.now.choices ≡ c.self.inside.depth = ap length (sym placed) ∙ length-take-le c.self.inside.depth c.self.inside.choices.items (omega arith) in
    let levels : c.levels-levels.result ≡ (g.P.Problem.space c.args.self.now.problem).levels = cc in
    let tried : c.loop-level.level < (g.P.Problem.space c.args.self.now.problem).levels →
    (g.P.Problem.space c.args.self.now.problem).width (take c.loop-level.level c.args.self.now.choices) ≤ c.loop-level.choice =
    elim c.if-level-levels.branch [
      | then-level-levels w ↦ (λ lt. absurd (omega (arith, w.if-level-levels.true)))
      | else-level-levels+then-choice-width w ↦ (λ lt.
          let e : w.width.result ≡ (g.P.Problem.space c.args.self.now.problem).width (take c.loop-level.level c.args.self.now.choices) = cc in
          omega (arith, w.if-choice-width.true))
    ] in
    let x : IsExhausted (g.P.Problem.space c.args.self.now.problem) (take c.loop-level.level c.args.self.now.choices) c.loop-level.choice =
    exhausted-at _ _ _ _ c.loop-level.invariant.0 (omega arith) (λ e. c.loop-level.invariant.1 (e ∙ sym levels)) tried in
    let lt : c.loop-level.level - 1 < length c.self.inside.choices.items = omega arith in
    let up : c.loop-level.level ≡ c.loop-level.level - 1 + 1 = omega arith in
    let read : c.index.result.now ≡ get_or c.self.inside.choices.items (c.loop-level.level - 1) 0 = c.index.ensures ∙ get_or_default_zero _ _ _ lt in
    let kept : get_or c.args.self.now.choices (c.loop-level.level - 1) 0 ≡ get_or c.self.inside.choices.items (c.loop-level.level - 1) 0 =
    rw (← placed) (get_or-take c.self.inside.depth c.self.inside.choices.items (c.loop-level.level - 1) 0 (omega arith)) in (
      omega arith,
      (λ e. omega arith),
      rw (c.loop-level.invariant.2, read, ← kept) (coming-up-in _ _ _ _ (c.loop-level.level - 1) up (omega arith) x),
    )
