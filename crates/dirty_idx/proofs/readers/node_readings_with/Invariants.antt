use Rattle.dirty_idx.proofs.Common.{◌≡◌, ◌++◌, ◌-◌, drop, first_and, node_readings}
use Rattle.dirty_idx.proofs.readers.node_readings_with.Given as goal

abbrev pub invariant-loop-n : goal.invariant-loop-n
invariant-loop-n g l = l.readings.items ++ node_readings l.n (drop (l.n - first_and l.graph) l.graph.pairs) ≡ node_readings (first_and l.graph) l.graph.pairs
