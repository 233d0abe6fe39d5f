use Rattle.eir_hom.proofs.plan_tests.listed.Given as goal

abbrev pub ghosts-list_all : goal.ghosts-list_all
ghosts-list_all a = record { name = a.blank.name; parts = a.blank.parts }
