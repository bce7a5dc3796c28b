use Rattle.dirty_idx.proofs.readers.node_lists.Given as goal

abbrev pub ghosts-node_readings_with : goal.ghosts-node_readings_with
ghosts-node_readings_with a = record { name = a.blank.name; parts = a.blank.parts }
