use Rattle.cover_pick.proofs.Lemmas.{arith, ◌/◌, ◌<◌, counts_small, counted_next}
use Rattle.cover_pick.proofs.flow.count_pairs.Goals as goal

pub count_pair-requires-clause-room : goal.count_pair-requires-clause-room
count_pair-requires-clause-room c m = omega (arith, counts_small c.args.graph.now c.loop-n.n c.loop-n.counts c.loop-n.invariant.counted m)

pub loop-n-preserved : goal.loop-n-preserved
loop-n-preserved c =
    let x : c.pair_at.result.x.0 / 2 < c.pair_at.result.y.0 / 2 = c.pair_at.ensures.normal.ordered in
    let y : c.pair_at.result.y.0 / 2 < c.loop-n.n = c.pair_at.ensures.normal.below in
    record {
      counted = counted_next c.args.graph.now c.loop-n.n c.loop-n.counts c.count_pair.new.counts c.pair_at.result c.loop-n.invariant.counted c.loop-n.invariant.from (omega arith) c.pair_at.ensures.pair (omega arith) (omega arith) c.count_pair.ensures;
      from = omega arith;
    }
