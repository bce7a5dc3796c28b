use Rattle.flow_label.proofs.Common.{◌≤◌, ◌-◌, ◌+◌, node_count, HasRoom, HasWalked, KeepsTrunks}
use Rattle.flow_label.proofs.question.low_cut_by_flow.Given as goal

abbrev pub invariant-loop-back : goal.invariant-loop-back
invariant-loop-back l = record {
  some : 1 ≤ l.back;
  room : HasRoom (node_count l.graph) l.scratch;
  walked : HasWalked l.graph l.labels l.n l.height l.scratch;
  trunks : KeepsTrunks l.fn.scratch.trunks l.scratch.trunks;
}

abbrev pub decreases-loop-back : goal.decreases-loop-back
decreases-loop-back l = l.count + 1 - l.back
