use Rattle.flow_label.proofs.Common.{ℕ, ◌+◌, ◌-◌, ◌*◌, length, In, IsOpen, net_of, KeepsMarks, Searches}
use Rattle.flow_label.proofs.search.search_from.Given as goal

abbrev pub invariant-loop-place : goal.invariant-loop-place
invariant-loop-place l = record {
  searching : Searches l.site l.links l.search l.search.stack.items;
  there : IsOpen (net_of l.site) l.m → In l.search.queue.items l.m;
  kept : (u : ℕ) → In l.fn.search.queue.items u → In l.search.queue.items u;
  marks : KeepsMarks l.fn.search l.search;
}

abbrev pub decreases-loop-place : goal.decreases-loop-place
decreases-loop-place l = 2 * (l.site.node - length l.search.queue.items) + length l.search.stack.items
