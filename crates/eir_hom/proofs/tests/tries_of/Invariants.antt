use Rattle.eir_hom.proofs.tests.tries_of.Given as goal

abbrev pub ghosts-pair_tries : goal.ghosts-pair_tries
ghosts-pair_tries a = record { name = a.blank.name; parts = a.blank.parts }
