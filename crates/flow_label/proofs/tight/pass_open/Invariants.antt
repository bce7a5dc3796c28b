use Rattle.flow_label.proofs.Common.{ℕ, ◌<◌, get_or, IsInner, IsFanIn, IsLive, IsOpen, net_of, owner_in, label_at}
use Rattle.flow_label.proofs.tight.pass_open.Given as goal

abbrev pub invariant-loop-u : goal.invariant-loop-u
invariant-loop-u l = (j m : ℕ) → j < l.u-index → IsInner (net_of l.site) (owner_in l.site l.links.owners (get_or l.queue j 0)) → IsFanIn l.site.graph m (owner_in l.site l.links.owners (get_or l.queue j 0)) → IsLive l.site.graph (label_at l.site.labels) m → IsOpen (net_of l.site) m
