use Rattle.flow_label.proofs.Common.{◌≡◌, ◌≤◌, length, union, ascending_of, drop}
use Rattle.flow_label.proofs.barrier.cut_of.Given as goal

abbrev pub invariant-loop-m : goal.invariant-loop-m
invariant-loop-m l = record {
  rest : union (drop l.m-index l.nodes) l.cut ≡ ascending_of l.nodes;
  few : length l.cut ≤ l.k;
}
