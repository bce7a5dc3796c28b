use Rattle.flow_label.proofs.Common.{◌≡◌, ℕ, In, IsOpen, net_of, owner_in}
use Rattle.flow_label.proofs.trunks.linked_ends.Given as goal

abbrev pub invariant-loop-m : goal.invariant-loop-m
invariant-loop-m l = (m : ℕ) → In l.nodes.items m → IsOpen (net_of l.site) m × (owner_in l.site l.links.owners m ≡ l.site.node)
