use Rattle.std.proofs.Common.{length}
use Rattle.aig_build.proofs.balanced.+balanced_and.Given as goal

abbrev pub decreases-balanced_and : goal.decreases-balanced_and
decreases-balanced_and l = length l.lits.now
