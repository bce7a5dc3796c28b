use Rattle.cover_pick.proofs.Common.{◌≡◌, label_at, flows_below, count_at}
use Rattle.cover_pick.proofs.flow.flows_by.Given as goal

abbrev pub invariant-loop-n : goal.invariant-loop-n
invariant-loop-n l = l.flows.items ≡ flows_below l.graph l.scope (label_at l.labels) l.rows (count_at l.counts) l.n
