use Rattle.flow_label.proofs.Common.{◌≡◌, ℕ, ◌<◌, [], get_or, In, IsOpen, net_of, node_count, HasMarks, Searches}
use Rattle.flow_label.proofs.search.find.Given as goal

abbrev pub invariant-loop-m : goal.invariant-loop-m
invariant-loop-m l = record {
  searching : Searches l.site l.links l.search [];
  none : l.search.stack.items ≡ [];
  begun : (j : ℕ) → j < l.m-index → IsOpen (net_of l.site) (get_or l.ends j 0) → In l.search.queue.items (get_or l.ends j 0);
  marks : HasMarks (node_count l.site.graph) l.search;
}
