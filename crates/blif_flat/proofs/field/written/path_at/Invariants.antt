use Rattle.blif_flat.proofs.Common.{◌<◌, length}
use Rattle.blif_flat.proofs.Hierarchy.PlaceLemmas.{IsSoFar}
use Rattle.blif_flat.proofs.field.written.path_at.Given as goal

abbrev pub invariant-loop-parent : goal.invariant-loop-parent
invariant-loop-parent l = (l.at < length l.instances) × IsSoFar l.instances l.initial.at l.at l.path.items

abbrev pub decreases-loop-parent : goal.decreases-loop-parent
decreases-loop-parent l = l.at
