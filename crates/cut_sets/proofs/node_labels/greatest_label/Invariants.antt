use Rattle.cut_sets.proofs.Common.{◌≡◌, ◌+◌, ◌<◌, ◌^◌, max, drop, greatest, label_at}
use Rattle.cut_sets.proofs.node_labels.greatest_label.Given as goal

abbrev pub invariant-loop-m : goal.invariant-loop-m
invariant-loop-m l = record {
  rest : max l.most (greatest (label_at l.labels) (drop l.m-index l.leaves)) ≡ greatest (label_at l.labels) l.leaves;
  small : 1 + l.most < 2 ^ 32;
}
