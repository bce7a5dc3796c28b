use Rattle.cover_pick.proofs.Common.{◌≡◌, ◌*◌, ◌≤◌, take, sum_by, MOST_FLOW, leaf_cost}
use Rattle.cover_pick.proofs.cost.leaves_cost.Given as goal

abbrev pub invariant-loop-m : goal.invariant-loop-m
invariant-loop-m l = record {
  sum : l.cost ≡ sum_by (leaf_cost l.flows l.reqs) (take l.m-index l.leaves);
  small : l.cost ≤ l.m-index * MOST_FLOW;
}
