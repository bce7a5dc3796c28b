use Rattle.cover_pick.proofs.Lemmas.{◌≡◌, ◌+◌, arith, cut_at, price, cost_below, cost_next}
use Rattle.cover_pick.proofs.uses.cost_of.Goals as goal

pub loop-n-preserved : goal.loop-n-preserved
loop-n-preserved c =
    let next : cost_below (cut_at c.args.cuts.now) (c.loop-n.n + 1) ≡ cost_below (cut_at c.args.cuts.now) c.loop-n.n + price (cut_at c.args.cuts.now c.loop-n.n) = cost_next (cut_at c.args.cuts.now) c.loop-n.n in
    record { cost = omega (arith, c.price-cost.ensures.value); small = omega (arith, c.price-cost.ensures.small) }
