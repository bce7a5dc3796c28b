use Rattle.ppc_file.proofs.number.+sevens_at.Given as goal

abbrev pub decreases-sevens_at : goal.decreases-sevens_at
decreases-sevens_at l = l.left
