use Rattle.bit_fun.proofs.Common.{◌<◌, length, get_or, arith, In-get_or}
use Rattle.bit_fun.proofs.cone_functions.set_leaves.Goals as goal

pub bounds-lits-leaf : goal.bounds-lits-leaf
bounds-lits-leaf c =
    let inside : c.loop-leaf.leaf-index < length c.args.leaves.now = omega arith in
    let w : get_or c.args.leaves.now c.loop-leaf.leaf-index 0 < length c.args.lits.now = c.requires.inside _ (In-get_or c.args.leaves.now c.loop-leaf.leaf-index 0 inside) in
    omega arith
