use Rattle.cover_pick.proofs.Common.{◌-◌, node_count}
use Rattle.cover_pick.proofs.SearchLemmas.{Found}
use Rattle.cover_pick.proofs.cone.Search.cone_size.Given as goal

abbrev pub invariant-loop-next : goal.invariant-loop-next
invariant-loop-next l = Found l.graph l.once l.leaves l.top l.stamp l.initial.self.met l.self l.next

abbrev pub decreases-loop-next : goal.decreases-loop-next
decreases-loop-next l = node_count l.graph - l.next
