use Rattle.bit_fun.proofs.Common.{◌<◌, length, get_or, arith, In-get_or}
use Rattle.bit_fun.proofs.marks.mark_order.Goals as goal

pub bounds-kept-n : goal.bounds-kept-n
bounds-kept-n c =
    let inside : c.loop-n.n-index < length c.args.order.now = omega arith in
    let w : get_or c.args.order.now c.loop-n.n-index 0 < length c.args.kept.now = c.requires _ (In-get_or c.args.order.now c.loop-n.n-index 0 inside) in
    omega (arith, c.loop-n.invariant.long)
