use Rattle.flow_label.proofs.Common.{◌-◌, net_of, owner_in, IsWayTo}
use Rattle.flow_label.proofs.ways.path_from.Given as goal

abbrev pub invariant-loop-m : goal.invariant-loop-m
invariant-loop-m l = IsWayTo (net_of l.site) (owner_in l.site l.links.owners) l.s l.m l.path.items

abbrev pub decreases-loop-m : goal.decreases-loop-m
decreases-loop-m l = l.site.node - l.m
