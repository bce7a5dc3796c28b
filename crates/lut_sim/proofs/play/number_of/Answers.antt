use Rattle.lut_sim.proofs.Common.{arith, ◌<◌, ◌-◌, ℕ, length, get_or, ap, In-get_or}
use Rattle.lut_sim.proofs.play.number_of.Goals as goal

pub bounds-values-leaf : goal.bounds-values-leaf
bounds-values-leaf c =
    let place : ℕ = c.len-count.result - 1 - c.loop-i.i in
    let inside : place < length c.args.cut.now = omega (arith, c.len-count.ensures.count) in
    omega (arith, c.requires (get_or c.args.cut.now place 0) (In-get_or c.args.cut.now place 0 inside), ap (λ ls. get_or ls place 0) c.leaves-leaves.ensures)
