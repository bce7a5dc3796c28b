use Rattle.cover_pick.proofs.Common.{arith, ◌∙◌, ap, IsAnd, reach}
use Rattle.cover_pick.proofs.SearchLemmas.{Meets, search_start, search_step, reached_own, reached_meets, found_and}
use Rattle.cover_pick.proofs.cone.Search.cone_size.Goals as goal

pub loop-next-init : goal.loop-next-init
loop-next-init c =
    (search_start c.args.graph.now c.args.once.now c.args.leaves.now c.args.top c.args.stamp c.args.self.now.stamps c.args.self.now.met c.reach.new.self c.requires.len c.requires.fresh c.requires.met c.requires.top
    (c.in_ok-reach.ensures ∙ ap (λ s. reach c.args.graph.now c.args.once.now c.args.leaves.now c.args.stamp s c.args.top) c.forget.ensures)).0

pub pair_at-pair-requires : goal.pair_at-pair-requires
pair_at-pair-requires c = found_and c.args.graph.now c.args.once.now c.args.leaves.now c.args.top c.args.stamp c.reach.new.self.met c.loop-next.self c.loop-next.next c.node.result c.loop-next.invariant (omega arith) c.node.ensures

pub reach_fan_ins-requires-clause-x : goal.reach_fan_ins-requires-clause-x
reach_fan_ins-requires-clause-x c =
    let and : IsAnd c.args.graph.now c.node.result = found_and c.args.graph.now c.args.once.now c.args.leaves.now c.args.top c.args.stamp c.reach.new.self.met c.loop-next.self c.loop-next.next c.node.result c.loop-next.invariant (omega arith) c.node.ensures in
    omega (arith, c.loop-next.invariant.is.size, c.pair_at-pair.ensures.normal.ordered, c.pair_at-pair.ensures.normal.below)

pub reach_fan_ins-requires-clause-y : goal.reach_fan_ins-requires-clause-y
reach_fan_ins-requires-clause-y c =
    let and : IsAnd c.args.graph.now c.node.result = found_and c.args.graph.now c.args.once.now c.args.leaves.now c.args.top c.args.stamp c.reach.new.self.met c.loop-next.self c.loop-next.next c.node.result c.loop-next.invariant (omega arith) c.node.ensures in
    omega (arith, c.loop-next.invariant.is.size, c.pair_at-pair.ensures.normal.below)

pub loop-next-preserved : goal.loop-next-preserved
loop-next-preserved c =
    search_step c.args.graph.now c.args.once.now c.args.leaves.now c.args.top c.args.stamp c.reach.new.self.met c.loop-next.self c.reach_fan_ins.new.self c.loop-next.next c.node.result c.pair_at-pair.result c.loop-next.invariant (omega arith) c.node.ensures
    c.pair_at-pair.ensures.pair c.pair_at-pair.ensures.normal c.in_ok-reach_fan_ins.ensures

start : (c : goal.After-count-2) → Meets c.args.graph.now c.args.once.now c.args.leaves.now c.args.top c.args.self.now.met c.reach.new.self.met
start c =
    (search_start c.args.graph.now c.args.once.now c.args.leaves.now c.args.top c.args.stamp c.args.self.now.stamps c.args.self.now.met c.reach.new.self c.requires.len c.requires.fresh c.requires.met c.requires.top
    (c.in_ok-reach.ensures ∙ ap (λ s. reach c.args.graph.now c.args.once.now c.args.leaves.now c.args.stamp s c.args.top) c.forget.ensures)).1

pub returns-clause-size : goal.returns-clause-size
returns-clause-size c =
    reached_own c.args.graph.now c.args.once.now c.args.leaves.now c.args.top c.args.stamp c.args.self.now.met c.reach.new.self.met c.loop-next.self c.loop-next.next c.requires.closed c.requires.once (start c) c.loop-next.invariant (omega arith)
    c.len-count.ensures.normal c.requires.top c.count-2.result c.count-2.ensures

pub returns-clause-met : goal.returns-clause-met
returns-clause-met c =
    reached_meets c.args.graph.now c.args.once.now c.args.leaves.now c.args.top c.args.stamp c.args.self.now.met c.reach.new.self.met c.loop-next.self c.loop-next.next c.requires.closed c.requires.once (start c) c.loop-next.invariant (omega arith)
