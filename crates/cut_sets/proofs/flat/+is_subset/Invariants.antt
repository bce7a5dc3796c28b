use Rattle.std.proofs.Common.{length}
use Rattle.cut_sets.proofs.flat.+is_subset.Given as goal

abbrev pub decreases-is_subset : goal.decreases-is_subset
decreases-is_subset l = length l.ys.now
