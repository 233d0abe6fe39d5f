use Rattle.std.proofs.Common.{rules, ◌≡◌, ◌+◌, ◌<◌, ◌^◌, take, arith, ap, ◌∙◌}
use Rattle.std.proofs.lemmas.List.{take_all}
use Rattle.eir_hom.specs.Matching.{match_space}
use Rattle.eir_hom.proofs.lazy.LazyMatcherProblem.place.Goals as goal

pub overflow_add-choice : goal.overflow_add-choice
overflow_add-choice c =
    let all : take c.args.level c.args.self.now.placed ≡ c.args.self.now.placed = take_all c.args.level c.args.self.now.placed (omega (arith, c.requires.level)) in
    let wide = c.width-width.ensures ∙ ap (match_space c.args.self.now.levels c.args.self.now.start).width all in
    let fits : c.args.choice + 1 < 2 ^ 64 = omega (arith, wide, c.width-width.type_inv, c.requires.choice) in
    search rules
