use Rattle.test_stages.proofs.changes.play.Given as goal

abbrev pub ghosts-set : goal.ghosts-set
ghosts-set a = record { name = a.blank.name; parts = a.blank.parts }
