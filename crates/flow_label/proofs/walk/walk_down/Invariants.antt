use Rattle.flow_label.proofs.Common.{◌≡◌, ◌≤◌, ◌+◌, ◌-◌, length, node_count, net_at, IsWalked}
use Rattle.flow_label.proofs.walk.walk_down.Given as goal

abbrev pub invariant-loop-place : goal.invariant-loop-place
invariant-loop-place l = record {
  walked : IsWalked (net_at l.graph l.labels l.n l.height l.walk.readers) l.walk.uppers.items l.walk.ends.items l.place;
  size : length l.walk.readers ≡ node_count l.graph;
  short : length l.walk.uppers.items ≤ l.n + 1;
}

abbrev pub decreases-loop-place : goal.decreases-loop-place
decreases-loop-place l = l.n + 1 - l.place
