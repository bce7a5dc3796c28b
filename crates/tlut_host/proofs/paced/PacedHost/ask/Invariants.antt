use Rattle.tlut_host.proofs.paced.PacedHost.ask.Given as goal

abbrev pub ghosts-request_with : goal.ghosts-request_with
ghosts-request_with a = record { name = a.blank.name; parts = a.blank.parts }
