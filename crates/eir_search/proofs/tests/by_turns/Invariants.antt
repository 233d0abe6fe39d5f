use Rattle.eir_search.proofs.tests.by_turns.Given as goal

abbrev pub ghosts-tell_by_turns : goal.ghosts-tell_by_turns
ghosts-tell_by_turns a = record { name = a.blank.name; parts = a.blank.parts }
