use Rattle.flow_label.proofs.Common.{◌≡◌, ◌-◌, ◌∷◌, [], ◌++◌, length, get_or, node_count, net_of, owner_in}
use Rattle.flow_label.proofs.LinkLemmas.{IsTurning}
use Rattle.flow_label.proofs.augment.add_path.Given as goal

abbrev pub invariant-loop-links : goal.invariant-loop-links
invariant-loop-links l = record {
  turning : IsTurning (net_of l.site) (length l.fn.links.starts.items) (owner_in l.site l.fn.links.owners) l.search.queue.items (length l.search.queue.items - 1) (owner_in l.site l.links.owners) l.j;
  size : length l.links.owners ≡ node_count l.site.graph;
  starts : l.links.starts.items ≡ l.fn.links.starts.items ++ get_or l.search.queue.items (length l.search.queue.items - 1) 0 ∷ [];
}

abbrev pub decreases-loop-links : goal.decreases-loop-links
decreases-loop-links l = l.j
