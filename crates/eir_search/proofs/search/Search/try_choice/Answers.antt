use Rattle.std.proofs.Common.{◌≡◌, ◌<◌, true, false, ◌++◌, ◌∷◌, [], take, length, arith, ap, sym, ◌∙◌}
use Rattle.std.proofs.lemmas.List.{length-take-le}
use Rattle.eir_search.proofs.TryLaws.{take-placed, coming-bad, coming-full, coming-deeper}
use Rattle.eir_search.proofs.search.Search.try_choice.Goals as goal

pub returns-then-not-place-clause-takes : goal.returns-then-not-place-clause-takes
returns-then-not-place-clause-takes g c =
    let problem : c.self.inside.problem ≡ c.args.self.now.problem = ap (λ s. s.problem) c.self.view_is in
    let placed : take c.self.inside.depth c.self.inside.choices.items ≡ c.args.self.now.choices = ap (λ s. s.choices) c.self.view_is in
    let bad : (g.P.Problem.space c.args.self.now.problem).good (c.args.self.now.choices ++ c.args.choice ∷ []) ≡ false = cc in
    rw (c.place.ensures.space, placed, problem) (coming-bad _ _ _ c.requires.below c.requires.choice bad)

pub returns-then-level-levels-clause-takes : goal.returns-then-level-levels-clause-takes
returns-then-level-levels-clause-takes g c =
    let problem : c.self.inside.problem ≡ c.args.self.now.problem = ap (λ s. s.problem) c.self.view_is in
    let placed : take c.self.inside.depth c.self.inside.choices.items ≡ c.args.self.now.choices = ap (λ s. s.choices) c.self.view_is in
    let good : (g.P.Problem.space c.args.self.now.problem).good (c.args.self.now.choices ++ c.args.choice ∷ []) ≡ true = cc in
    let levels : c.levels.result ≡ (g.P.Problem.space c.args.self.now.problem).levels = cc in
    let within : (g.P.Problem.space c.self.inside.problem).levels ≡ (g.P.Problem.space c.args.self.now.problem).levels = cc in
    let depth : length c.args.self.now.choices ≡ c.self.inside.depth = ap length (sym placed) ∙ length-take-le c.self.inside.depth c.self.inside.choices.items (omega arith) in
    let room : c.self.inside.depth < length c.self.inside.choices.items = omega arith in
    rw (take-placed c.self.inside.choices.items c.args.self.now.choices c.self.inside.depth c.args.choice room placed, c.place.ensures.space, problem)
    (coming-deeper _ _ _ (omega arith) c.requires.choice good)

pub returns-clause-takes : goal.returns-clause-takes
returns-clause-takes g c =
    let problem : c.self.inside.problem ≡ c.args.self.now.problem = ap (λ s. s.problem) c.self.view_is in
    let placed : take c.self.inside.depth c.self.inside.choices.items ≡ c.args.self.now.choices = ap (λ s. s.choices) c.self.view_is in
    let good : (g.P.Problem.space c.args.self.now.problem).good (c.args.self.now.choices ++ c.args.choice ∷ []) ≡ true = cc in
    let levels : c.levels.result ≡ (g.P.Problem.space c.args.self.now.problem).levels = cc in
    let within : (g.P.Problem.space c.self.inside.problem).levels ≡ (g.P.Problem.space c.args.self.now.problem).levels = cc in
    let depth : length c.args.self.now.choices ≡ c.self.inside.depth = ap length (sym placed) ∙ length-take-le c.self.inside.depth c.self.inside.choices.items (omega arith) in
    let room : c.self.inside.depth < length c.self.inside.choices.items = omega arith in
    rw (take-placed c.self.inside.choices.items c.args.self.now.choices c.self.inside.depth c.args.choice room placed, c.place.ensures.space, problem)
    (coming-full _ _ _ (omega arith) c.requires.choice good)
