use Rattle.flow_label.proofs.Common.{ℕ, ◌<◌, get_or, IsOpen, net_of}
use Rattle.flow_label.proofs.tight.are_open.Given as goal

abbrev pub invariant-loop-m : goal.invariant-loop-m
invariant-loop-m l = (j : ℕ) → j < l.m-index → IsOpen (net_of l.site) (get_or l.nodes j 0)
