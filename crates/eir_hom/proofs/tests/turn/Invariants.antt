use Rattle.eir_hom.proofs.tests.turn.Given as goal

abbrev pub ghosts-turn_cycle : goal.ghosts-turn_cycle
ghosts-turn_cycle a = record { name = a.blank.name; parts = a.blank.parts }
