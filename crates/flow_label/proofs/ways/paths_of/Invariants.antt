use Rattle.flow_label.proofs.Common.{map, net_of, owner_in, AreWaysTo}
use Rattle.flow_label.proofs.ways.paths_of.Given as goal

abbrev pub invariant-loop-s : goal.invariant-loop-s
invariant-loop-s l = AreWaysTo (net_of l.site) (owner_in l.site l.links.owners) l.links.starts.items l.s-index (map (λ p. p.items) l.paths.items)
