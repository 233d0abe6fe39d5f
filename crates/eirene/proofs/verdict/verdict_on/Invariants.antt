use Rattle.eirene.proofs.verdict.verdict_on.Given as goal

abbrev pub ghosts-searched_finding : goal.ghosts-searched_finding
ghosts-searched_finding a = record { name = a.blank.name; parts = a.blank.parts }
