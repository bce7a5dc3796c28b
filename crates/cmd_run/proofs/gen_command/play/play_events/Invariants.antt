use Rattle.cmd_run.proofs.gen_command.play.play_events.Given as goal

abbrev pub ghosts-play_with : goal.ghosts-play_with
ghosts-play_with a = record { name = a.blank.name; parts = a.blank.parts }
