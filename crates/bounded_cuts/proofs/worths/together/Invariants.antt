use Rattle.bounded_cuts.proofs.Common.{◌≡◌, ◌+◌, ◌*◌, ◌<◌, ◌≤◌, ◌^◌, drop, max, take, sum_by, greatest, MOST_FLOW, flow_in, label_in, low_flow_in, paid_in}
use Rattle.bounded_cuts.proofs.worths.together.Given as goal

abbrev pub invariant-loop-m : goal.invariant-loop-m
invariant-loop-m l = record {
  label : max l.label (greatest (label_in l.worths) (drop l.m-index l.leaves)) ≡ greatest (label_in l.worths) l.leaves;
  flow : l.flow ≡ sum_by (flow_in l.worths) (take l.m-index l.leaves);
  low_flow : l.low_flow ≡ sum_by (low_flow_in l.worths) (take l.m-index l.leaves);
  paid : l.paid ≡ sum_by (paid_in l.worths) (take l.m-index l.leaves);
  small : 1 + l.label < 2 ^ 32;
  flow_small : l.flow ≤ l.m-index * MOST_FLOW;
  low_flow_small : l.low_flow ≤ l.m-index * MOST_FLOW;
  paid_small : l.paid ≤ l.m-index * MOST_FLOW;
}
