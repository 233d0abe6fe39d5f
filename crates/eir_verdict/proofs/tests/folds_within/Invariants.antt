use Rattle.eir_verdict.proofs.tests.folds_within.Given as goal

abbrev pub ghosts-within : goal.ghosts-within
ghosts-within a = record { name = a.blank.name; parts = a.blank.parts }
