use Rattle.std.proofs.Common.{◌++◌, ◌∷◌, [], ap, ◌∙◌}
use Rattle.std.proofs.lemmas.Bool.{false≢true}
use Rattle.eir_canon.proofs.GavLaws.{implies-lists}
use Rattle.eir_canon.proofs.gav.implication.Goals as goal

pub unreachable-requires : goal.unreachable-requires
unreachable-requires c =
    false≢true
    (c.in-Err.ensures.accepted.1
    (implies-lists _ _ _ _ c.args.conclusion c.in_ok-premise.ensures c.new.ensures.items
    (c.in_ok-push.ensures.items ∙ ap (λ xs. xs ++ c.args.conclusion ∷ []) c.in_ok-conclusions.ensures.items)
    c.requires))
