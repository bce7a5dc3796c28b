use Rattle.flow_label.proofs.trunks.follow.Given as goal

abbrev pub decreases-loop-at : goal.decreases-loop-at
decreases-loop-at l = l.at
