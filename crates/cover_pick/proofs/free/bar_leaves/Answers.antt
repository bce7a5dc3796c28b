use Rattle.cover_pick.proofs.Common.{◌<◌, length, get_or, arith, In-get_or}
use Rattle.cover_pick.proofs.free.bar_leaves.Goals as goal

pub bounds-marks-leaf : goal.bounds-marks-leaf
bounds-marks-leaf c =
    let inside : c.loop-leaf.leaf-index < length c.args.leaves.now = omega arith in
    let w : get_or c.args.leaves.now c.loop-leaf.leaf-index 0 < length c.args.marks.now = c.requires _ (In-get_or c.args.leaves.now c.loop-leaf.leaf-index 0 inside) in
    omega (arith, c.loop-leaf.invariant.long)
