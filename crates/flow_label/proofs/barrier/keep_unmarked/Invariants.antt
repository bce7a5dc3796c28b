use Rattle.flow_label.proofs.Common.{◌≡◌, take, unmarked}
use Rattle.flow_label.proofs.barrier.keep_unmarked.Given as goal

abbrev pub invariant-loop-m : goal.invariant-loop-m
invariant-loop-m l = l.kept.items ≡ unmarked l.marks (take l.m-index l.nodes)
