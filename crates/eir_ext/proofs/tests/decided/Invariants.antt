use Rattle.eir_ext.proofs.tests.decided.Given as goal

abbrev pub ghosts-at_last : goal.ghosts-at_last
ghosts-at_last a = record { name = a.blank.name; parts = a.blank.parts }
