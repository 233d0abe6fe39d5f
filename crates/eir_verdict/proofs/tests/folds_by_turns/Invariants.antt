use Rattle.eir_verdict.proofs.tests.folds_by_turns.Given as goal

abbrev pub ghosts-by_turns : goal.ghosts-by_turns
ghosts-by_turns a = record { name = a.blank.name; parts = a.blank.parts }
