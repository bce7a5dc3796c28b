use Rattle.flow_cert.proofs.Common.{◌+◌, ◌-◌, node_count, label_at, HasRoom, ◌≡◌, length, AreDoneTo}
use Rattle.flow_cert.proofs.steps.steps_down.Given as goal

abbrev pub invariant-loop-i : goal.invariant-loop-i
invariant-loop-i l = record {
  room : HasRoom (node_count l.graph) l.memory.search;
  met : length l.memory.met ≡ node_count l.graph;
  done : AreDoneTo l.graph l.k (label_at l.labels) l.begin (l.first + (l.count - l.i)) l.marks.items l.steps.items;
}
