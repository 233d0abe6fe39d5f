use Rattle.eir_ext.proofs.tests.outcomes.Given as goal

abbrev pub ghosts-in_each_way : goal.ghosts-in_each_way
ghosts-in_each_way a = record { name = a.blank.name; parts = a.blank.parts }
