use Rattle.eir_search.proofs.tests.by_steps.Given as goal

abbrev pub ghosts-tell_by_steps : goal.ghosts-tell_by_steps
ghosts-tell_by_steps a = record { name = a.blank.name; parts = a.blank.parts }
