use Rattle.flow_label.proofs.Common.{◌≡◌, length, node_count, HasProposed}
use Rattle.flow_label.proofs.trunks.propose_nodes.Given as goal

abbrev pub invariant-loop-m : goal.invariant-loop-m
invariant-loop-m l = record {
  room : length l.walk.readers ≡ node_count l.graph;
  proposed : HasProposed l.graph l.labels l.n l.walk;
}
