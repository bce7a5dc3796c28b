use Rattle.blif_flat.proofs.Hierarchy.PlaceLemmas.{so_far_end}
use Rattle.blif_flat.proofs.field.written.path_at.Goals as goal

pub returns : goal.returns
returns c = so_far_end c.args.instances.now c.requires.instances c.loop-parent.at c.row_at.result c.row_at.ensures c.args.i c.loop-parent.path.items c.in_default.is c.loop-parent.invariant.1
