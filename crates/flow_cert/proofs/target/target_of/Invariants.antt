use Rattle.flow_cert.proofs.Common.{take, lits_of, label_at, IsTarget}
use Rattle.flow_cert.proofs.target.target_of.Given as goal

abbrev pub invariant-loop-root : goal.invariant-loop-root
invariant-loop-root l = IsTarget l.graph (label_at l.labels) (lits_of (take l.root-index l.roots)) l.best.depth l.best.begin
