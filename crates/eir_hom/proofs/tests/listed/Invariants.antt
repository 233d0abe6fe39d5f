use Rattle.eir_hom.proofs.tests.listed.Given as goal

abbrev pub ghosts-list : goal.ghosts-list
ghosts-list a = record { name = a.blank.name; parts = a.blank.parts }
